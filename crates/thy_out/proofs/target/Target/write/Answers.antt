use Rattle.std.proofs.Common.{◌∙◌, ap, arith, refl, sym}
use Rattle.thy_block.proofs.Streams.{TookPart-take}
use Rattle.thy_out.specs.Written.{Written}
use Rattle.thy_out.proofs.Known.{Grew-take, Grew-keeps}
use Rattle.thy_out.proofs.target.Target.write.Goals as goal

pub loop-done-preserved : goal.loop-done-preserved
loop-done-preserved g c = record {
  within = omega (arith, c.in-Ok.ensures.some);
  taken = Grew-take _ _ _ _ _ _ _ refl c.loop-done.invariant.taken c.in-Ok.ensures.bytes;
  calm = c.in-Ok.ensures.after ∙ c.loop-done.invariant.calm;
  unflushed = ap (λ (t : Written). t.flushed) c.in-Ok.ensures.flags ∙ c.loop-done.invariant.unflushed;
  unsynced = ap (λ (t : Written). t.synced) c.in-Ok.ensures.flags ∙ c.loop-done.invariant.unsynced;
  counted = ap (λ (t : Written). t.count) c.in-Ok.ensures.flags ∙ c.loop-done.invariant.counted;
}

pub returns-in-Err-clause-failed : goal.returns-in-Err-clause-failed
returns-in-Err-clause-failed g c = rw (sym c.self.view_is)
    (TookPart-take _ _ _ c.loop-done.done (Grew-keeps _ _ _ _ c.loop-done.invariant.taken c.in-Err.ensures.bytes)
    (record {
      no_less = omega (arith, c.loop-done.invariant.calm, c.in-Err.ensures.count.no_less);
      more = omega (arith, c.loop-done.invariant.calm, c.in-Err.ensures.count.more);
    }))
