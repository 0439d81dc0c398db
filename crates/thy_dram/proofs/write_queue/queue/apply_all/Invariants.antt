use Rattle.std.proofs.Common.{◌≡◌, ◌<◌, length, All}
use Rattle.thy_block.specs.Device.{applied}
use Rattle.thy_block.specs.declared.nvm.Write.{Write}
use Rattle.thy_dram.proofs.write_queue.queue.apply_all.Given as goal

abbrev pub invariant-loop-write : goal.invariant-loop-write
invariant-loop-write l = record {
  same : applied l.image l.write-iterator ≡ applied l.initial.image l.queue.items;
  placed : All (λ (w : Write). w.at < length l.image) l.write-iterator;
}
