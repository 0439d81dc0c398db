use Rattle.std.proofs.Common.{◌∙◌, sym, arith}
use Rattle.thy_gap.proofs.SoundLemmas.{none_queued, queued_seen}
use Rattle.thy_gap.proofs.gap.GapNvm.queued.Goals as goal

pub returns-then-self-eq0 : goal.returns-then-self-eq0
returns-then-self-eq0 g c = rw (sym c.self.view_is) (sym (none_queued c.self.invariant c.if-self-eq0.true))

pub returns-else-self-eq0 : goal.returns-else-self-eq0
returns-else-self-eq0 g c =
    rw (sym c.self.view_is)
    (c.queued.ensures ∙ sym (queued_seen c.self.invariant (omega (arith, c.if-self-eq0.false)) (rw (sym c.self.view_is) at c.requires)))
