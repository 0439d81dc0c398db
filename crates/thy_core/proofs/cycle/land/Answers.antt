use Rattle.thy_computer.specs.NextActor.{Nvm}
use Rattle.thy_core.specs.Cycles.{IsAnyRun}
use Rattle.thy_core.specs.MachineParts.{machine_of}
use Rattle.thy_core.proofs.CycleLaws.{taken_err, land_cycle, land_failed}
use Rattle.thy_core.proofs.cycle.land.Goals as goal

pub returns-in_err-drain : goal.returns-in_err-drain
returns-in_err-drain g c =
    let K = g.S.Scheme.scheme in
    let m = machine_of c.args.m.now in
    let n = g.N.Nvm.device c.args.nvm.now in
    let new = g.N.Nvm.device c.drain.new.self in
    let failed = c.in_err-drain.ensures in
    taken_err K IsAnyRun Nvm m m n new c.from_residual.result c.from_residual.ensures.0
    (λ o cycles _ at some. land_failed K o cycles m n at new failed.err failed.frame) failed.frame failed.cause

pub returns : goal.returns
returns g c =
    let done = c.in_ok-drain.ensures in
    record {
      simulates = λ o cycles _ at some.
          land_cycle g.S.Scheme.scheme o cycles (machine_of c.args.m.now) (g.N.Nvm.device c.args.nvm.now) at
          (g.N.Nvm.device c.drain.new.self) some done.ok;
      fails = λ o cycles _ at some. tt;
      frame = done.frame;
      cause = done.cause;
    }
