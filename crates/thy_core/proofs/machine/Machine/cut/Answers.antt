use Rattle.std.proofs.Common.{subst, sym, ◌∙◌, ap}
use Rattle.thy_dram.specs.Contents.{lost}
use Rattle.thy_scheme.specs.Machine.{Machine}
use Rattle.thy_scheme.specs.Sound.{IsAt, SoundStopped}
use Rattle.thy_core.proofs.machine.Machine.cut.Goals as goal

pub returns-clause-drawn : goal.returns-clause-drawn
returns-clause-drawn g c =
    c.cut.ensures.drawn ∙ ap (λ (m : Machine g.row.S.Denot). lost (g.S.Scheme.scheme.dram m.scheme) c.args.pick) c.self.view_is

pub returns-clause-sized : goal.returns-clause-sized
returns-clause-sized g c = λ o k n at.
    c.cut.ensures.sized o k n (subst (λ (m : Machine g.row.S.Denot). IsAt g.S.Scheme.scheme o k m n) (sym c.self.view_is) at)

pub returns-clause-stopped : goal.returns-clause-stopped
returns-clause-stopped g c = λ o before stopped.
    c.cut.ensures.stopped o before (subst (λ (m : Machine g.row.S.Denot). SoundStopped g.S.Scheme.scheme o before m) (sym c.self.view_is) stopped)
