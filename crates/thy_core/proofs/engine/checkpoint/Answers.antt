use Rattle.std.proofs.Common.{refl}
use Rattle.thy_computer.specs.NextActor.{Checkpoint}
use Rattle.thy_core.specs.Cycles.{IsAnyRun}
use Rattle.thy_core.specs.MachineParts.{machine_of}
use Rattle.thy_core.proofs.CycleLaws.{taken_err, stands_run, engine_cycle, engine_failed}
use Rattle.thy_core.proofs.engine.checkpoint.Goals as goal

pub returns-in_err-step : goal.returns-in_err-step
returns-in_err-step g c =
    let K = g.S.Scheme.scheme in
    let m = machine_of c.args.m.now in
    let n = g.N.Nvm.device c.args.nvm.now in
    let next = record m { scheme = c.engine_step.new.self } in
    let new = g.N.Nvm.device c.engine_step.new.nvm in
    let failed = c.in_err-step.ensures in
    taken_err K IsAnyRun Checkpoint m next n new c.from_residual.result c.from_residual.ensures.0
    (λ o cycles _ at due. engine_failed K o cycles m n at next new due
    (failed.err o m.marks (stands_run K o cycles m n at.sound due.0)) failed.left refl)
    failed.frame failed.cause

pub returns : goal.returns
returns g c =
    let K = g.S.Scheme.scheme in
    let m = machine_of c.args.m.now in
    let n = g.N.Nvm.device c.args.nvm.now in
    let done = c.in_ok-step.ensures in
    record {
      simulates = λ o cycles _ at due.
          engine_cycle K o cycles m n at c.engine_step.new.self (g.N.Nvm.device c.engine_step.new.nvm) c.in_ok-step.step
          (machine_of c.engine_on.new.m) c.engine_on.result due
          (done.ok o m.marks (stands_run K o cycles m n at.sound due.0)) done.exact c.engine_on.ensures.parts c.engine_on.ensures.did;
      fails = λ o cycles _ at due. tt;
      frame = done.frame;
      cause = done.cause;
    }
