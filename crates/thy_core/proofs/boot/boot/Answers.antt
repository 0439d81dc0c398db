use Rattle.std.proofs.Common.{refl, sym, ◌∙◌, subst}
use Rattle.thy_isa.specs.Step.{State}
use Rattle.thy_computer.specs.declared.did.Stall.TheVariants.{Booting}
use Rattle.thy_computer.specs.NextActor.{Stalled}
use Rattle.thy_core.specs.Cycles.{HasStart}
use Rattle.thy_core.specs.MachineParts.{machine_of}
use Rattle.thy_scheme.proofs.BootingLaws.{sound-boot}
use Rattle.thy_core.proofs.CycleLaws.{taken_err, boot_over, boot_cycle, boot_failed}
use Rattle.thy_core.proofs.boot.boot.Goals as goal

pub returns-in_err-step : goal.returns-in_err-step
returns-in_err-step g c =
    let K = g.S.Scheme.scheme in
    let m = machine_of c.args.m.now in
    let n = g.N.Nvm.device c.args.nvm.now in
    let next = record m { scheme = c.boot_step.new.self } in
    let new = g.N.Nvm.device c.boot_step.new.nvm in
    let failed = c.in_err-step.ensures in
    taken_err K (HasStart c.args.start.now) (Stalled Booting) m next n new c.from_residual.result c.from_residual.ensures.0
    (λ o cycles begins at booting.
    let boots = (sound-boot K o cycles m n at.sound booting).boots in
    boot_failed K o cycles m n at next new booting (failed.err o begins (record { boots = boots; up = at.sound.up })) failed.left refl)
    failed.frame failed.cause

pub returns : goal.returns
returns g c =
    let K = g.S.Scheme.scheme in
    let m = machine_of c.args.m.now in
    let n = g.N.Nvm.device c.args.nvm.now in
    let done = c.in_ok-step.ensures in
    record {
      simulates = λ o cycles begins at booting.
          let boots = (sound-boot K o cycles m n at.sound booting).boots in
          let t = c.boot_step.new.self in
          let new = g.N.Nvm.device c.boot_step.new.nvm in
          let made = subst (λ (s : State). K.calls.boot s m.scheme n c.in_ok-step.step t new) (sym begins.state) done.exact in
          boot_cycle K o cycles m n at t new c.in_ok-step.step (machine_of c.boot_on.new.m) c.boot_on.result booting
          (done.ok o begins (record { boots = boots; up = at.sound.up })) made
          (c.boot_on.ensures.parts o begins ∙ boot_over o c.in_ok-step.step c.boot_step.new.self m) c.boot_on.ensures.did;
      fails = λ o cycles begins at booting. tt;
      frame = done.frame;
      cause = done.cause;
    }
