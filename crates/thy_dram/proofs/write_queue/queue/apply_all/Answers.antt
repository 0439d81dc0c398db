use Rattle.std.proofs.Common.{◌<◌, length, All, ap, sym, ◌∙◌, arith}
use Rattle.std.proofs.lemmas.List.{length-set}
use Rattle.std.proofs.lemmas.List.Elements.{All-rest}
use Rattle.thy_block.specs.declared.nvm.Write.{Write}
use Rattle.thy_block.specs.Device.{applied}
use Rattle.thy_dram.proofs.write_queue.queue.apply_all.Goals as goal

pub loop-write-preserved : goal.loop-write-preserved
loop-write-preserved c =
    let rest : All (λ (w : Write). w.at < length c.loop-write.image) c.next.new.self
    = All-rest (λ (w : Write). w.at < length c.loop-write.image) c.in-Some.write.now c.next.new.self c.loop-write.write-iterator
    c.in-Some.ensures.steps c.loop-write.invariant.placed in
    record {
      same = ap (λ i. applied i c.next.new.self) c.apply.ensures ∙ sym (ap (applied c.loop-write.image) c.in-Some.ensures.steps)
          ∙ c.loop-write.invariant.same;
      placed = λ k d l. omega (arith, rest k d l, ap length c.apply.ensures, length-set c.loop-write.image c.in-Some.write.now.at c.in-Some.write.now.block);
    }
