use Rattle.std.proofs.Common.{refl}
use Rattle.thy_computer.specs.declared.did.Stall.TheVariants.{Sealing}
use Rattle.thy_computer.specs.NextActor.{Stalled}
use Rattle.thy_core.specs.Cycles.{IsAnyRun}
use Rattle.thy_core.specs.MachineParts.{machine_of}
use Rattle.thy_core.proofs.CycleLaws.{taken_err, stands_run, promotion_cycle, promotion_failed}
use Rattle.thy_core.proofs.sealing.promote.Goals as goal

pub returns-in_err-promote_one : goal.returns-in_err-promote_one
returns-in_err-promote_one g c =
    let K = g.S.Scheme.scheme in
    let m = machine_of c.args.m.now in
    let n = g.N.Nvm.device c.args.nvm.now in
    let next = record m { scheme = c.promote_one.new.self } in
    let new = g.N.Nvm.device c.promote_one.new.nvm in
    let failed = c.in_err-promote_one.ensures in
    taken_err K IsAnyRun (Stalled Sealing) m next n new c.from_residual.result c.from_residual.ensures.0
    (λ o cycles _ at sealing. promotion_failed K o cycles m n at next new sealing c.requires.promoting failed.err failed.left refl)
    failed.frame failed.cause

pub returns : goal.returns
returns g c =
    let K = g.S.Scheme.scheme in
    let m = machine_of c.args.m.now in
    let n = g.N.Nvm.device c.args.nvm.now in
    let done = c.in_ok-promote_one.ensures in
    record {
      simulates = λ o cycles _ at sealing.
          promotion_cycle K o cycles m n at c.promote_one.new.self (g.N.Nvm.device c.promote_one.new.nvm) tt sealing c.requires.promoting
          (done.ok c.requires.promoting o m.marks (stands_run K o cycles m n at.sound sealing.phase)) done.exact;
      fails = λ o cycles _ at sealing. tt;
      frame = done.frame;
      cause = done.cause;
    }
