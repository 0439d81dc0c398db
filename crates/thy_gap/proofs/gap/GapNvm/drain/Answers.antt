use Rattle.std.proofs.Common.{◌∙◌, ap, sym}
use Rattle.std.proofs.lemmas.Result.{on_ok_weaker, on_err_weaker}
use Rattle.thy_gap.specs.Levelled.{looks}
use Rattle.thy_gap.proofs.SoundLemmas.{either, fitted_where_queued, drain_seen, sound_drained, sound_failed, failed_seen}
use Rattle.thy_gap.proofs.gap.GapNvm.drain.Goals as goal

pub invariant_of-self : goal.invariant_of-self
invariant_of-self g c =
    either c.drain.result c.drain.ensures.ok c.drain.ensures.err
    (λ e. sound_drained c.self.invariant (g.N.Nvm.device c.drain.new.self) (rw (sym c.self.view_is) at c.requires.up) e c.drain.ensures.frame)
    (sound_failed c.self.invariant (g.N.Nvm.device c.drain.new.self) c.drain.ensures.frame)

pub returns-clause-ok : goal.returns-clause-ok
returns-clause-ok g c =
    let l = fitted_where_queued c.self.invariant (rw (sym c.self.view_is) at c.requires.queued) in
    rw (sym c.self.view_is)
    (on_ok_weaker c.drain.result
    (λ e. ap (looks c.self.inside.every c.self.inside.since c.self.inside.moves c.self.inside.registers) e
    ∙ drain_seen c.self.invariant l (rw (sym c.self.view_is) at c.requires.up))
    c.drain.ensures.ok)

pub returns-clause-err : goal.returns-clause-err
returns-clause-err g c =
    rw (sym c.self.view_is)
    (on_err_weaker c.drain.result (failed_seen c.self.invariant (g.N.Nvm.device c.drain.new.self)) c.drain.ensures.err)
