use Rattle.std.proofs.Common.{refl}
use Rattle.thy_block.specs.Device.{Device}
use Rattle.thy_run.specs.Going.{origin_of}
use Rattle.thy_sweep.proofs.RoomLemmas.{can_copy_of, tried_as}
use Rattle.thy_sweep.proofs.trial.tryable.MemNvmTryable.try_over.Goals as goal

pub try_copy-requires-clause-can : goal.try_copy-requires-clause-can
try_copy-requires-clause-can g c =
    let h = c.requires.can in
    let copy = c.requires.copy in (
      h.0,
      can_copy_of g.M.Computer.kind (origin_of c.args.plan.now) h.0 c.args.self.now.device c.args.mix h.1 c.args.copy.device copy.up copy.empty copy.crash,
      h.1.mix,
      h.2,
    )

pub returns-clause-tried : goal.returns-clause-tried
returns-clause-tried g c = λ w at few.
    let K = g.M.Computer.kind in
    let o = origin_of c.args.plan.now in
    let copy = c.requires.copy in
    let n : Device = c.args.copy.device in
    let can = can_copy_of K o w c.args.self.now.device c.args.mix at n copy.up copy.empty copy.crash in
    tried_as K o c.args.pick c.args.part n.image n.image w c.args.most c.in_ok-tried.tried.booted c.trial_of.result.found.booted c.in_ok-tried.tried.state
    c.trial_of.result.found.state refl c.trial_of.ensures.booted c.trial_of.ensures.state (c.in_ok-tried.ensures.tried w can at.mix few)
