use Rattle.std.proofs.Common.{[], ◌∙◌, ap}
use Rattle.thy_isa.specs.declared.state.CpuState.{CpuState}
use Rattle.thy_isa.specs.Step.{state_with}
use Rattle.thy_core.specs.MachineParts.{machine_of}
use Rattle.thy_scheme.proofs.MomentLaws.{sound-here}
use Rattle.thy_core.proofs.SnapshotLaws.{at_moment, not_stopped, not_failed, processor_is, can_run, sound-behind, boot_unwritten, snapshot_when}
use Rattle.thy_core.proofs.snapshot.snapshot.Goals as goal

pub executing-requires-clause-stands : goal.executing-requires-clause-stands
executing-requires-clause-stands g c =
    let m = machine_of c.args.m.now in
    let n = g.N.Nvm.device c.args.nvm.now in
    let run = at_moment g.S.Scheme.scheme m n c.if-m.false c.requires in
    can_run g.S.Scheme.scheme run.o run.cycles m n (sound-here g.S.Scheme.scheme run.o run.cycles m n run.at_moment) c.in-Run.is

pub executing-requires-clause-sized : goal.executing-requires-clause-sized
executing-requires-clause-sized g c =
    let m = machine_of c.args.m.now in
    let n = g.N.Nvm.device c.args.nvm.now in
    let run = at_moment g.S.Scheme.scheme m n c.if-m.false c.requires in
    (sound-behind g.S.Scheme.scheme run.o run.cycles m n (sound-here g.S.Scheme.scheme run.o run.cycles m n run.at_moment) c.in-Run.is).follows.sized

pub returns-then-m-clause-state : goal.returns-then-m-clause-state
returns-then-m-clause-state g c = λ o k sound unwritten.
    absurd (not_failed g.S.Scheme.scheme o k (machine_of c.args.m.now) (g.N.Nvm.device c.args.nvm.now) c.if-m.true sound)

pub returns-then-m-clause-stopped : goal.returns-then-m-clause-stopped
returns-then-m-clause-stopped g c = λ o before stopped.
    processor_is g.S.Scheme.scheme o before (machine_of c.args.m.now) c.bare.result
    (c.bare.ensures ∙ ap (λ (cpu : CpuState). state_with cpu [] []) c.processor.ensures) stopped

pub returns-in-Boot-clause-state : goal.returns-in-Boot-clause-state
returns-in-Boot-clause-state g c = λ o k sound unwritten.
    absurd (boot_unwritten (machine_of c.args.m.now) c.in-Boot.is unwritten)

pub returns-in-Boot-clause-stopped : goal.returns-in-Boot-clause-stopped
returns-in-Boot-clause-stopped g c = λ o before stopped.
    absurd (not_stopped g.S.Scheme.scheme o before (machine_of c.args.m.now) c.if-m.false stopped)

pub returns-in-Run-clause-state : goal.returns-in-Run-clause-state
returns-in-Run-clause-state g c = λ o k sound unwritten.
    snapshot_when g.S.Scheme.scheme o k (machine_of c.args.m.now) (g.N.Nvm.device c.args.nvm.now) c.executing.result sound c.in-Run.is unwritten
    c.executing.ensures.state

pub returns-in-Run-clause-stopped : goal.returns-in-Run-clause-stopped
returns-in-Run-clause-stopped g c = λ o before stopped.
    absurd (not_stopped g.S.Scheme.scheme o before (machine_of c.args.m.now) c.if-m.false stopped)
