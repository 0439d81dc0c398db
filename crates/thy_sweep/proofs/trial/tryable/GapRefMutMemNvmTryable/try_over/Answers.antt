use Rattle.std.proofs.Common.{◌∙◌, ap}
use Rattle.thy_run.specs.Going.{origin_of}
use Rattle.thy_sweep.proofs.RoomLemmas.{can_copy_of, tried_as}
use Rattle.thy_sweep.proofs.trial.tryable.GapRefMutMemNvmTryable.try_over.Goals as goal

pub try_copy-requires-clause-can : goal.try_copy-requires-clause-can
try_copy-requires-clause-can g c =
    let h = c.requires.can in
    let made = c.over_copy-lines.ensures in
    let up = ap (λ l. l.inner.device.down) made.copied ∙ c.requires.copy.up in (
      h.0,
      can_copy_of g.M.Computer.kind (origin_of c.args.plan.now) h.0 _ c.args.mix h.1 _ up made.queue made.crash,
      h.1.mix,
      h.2,
    )

pub returns-clause-tried : goal.returns-clause-tried
returns-clause-tried g c = λ w at few.
    let K = g.M.Computer.kind in
    let o = origin_of c.args.plan.now in
    let made = c.over_copy-lines.ensures in
    let up = ap (λ l. l.inner.device.down) made.copied ∙ c.requires.copy.up in
    let can = can_copy_of K o w _ c.args.mix at _ up made.queue made.crash in
    tried_as K o c.args.pick c.args.part _ _ w c.args.most c.in_ok-tried.tried.booted c.trial_of.result.found.booted c.in_ok-tried.tried.state
    c.trial_of.result.found.state made.image c.trial_of.ensures.booted c.trial_of.ensures.state (c.in_ok-tried.ensures.tried w can at.mix few)
