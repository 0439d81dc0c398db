use Rattle.thy_core.specs.MachineParts.{machine_of}
use Rattle.thy_scheme.proofs.MomentLaws.{sound-here}
use Rattle.thy_core.proofs.SnapshotLaws.{can_run, committed_room, boot_shown, console_past, console_when}
use Rattle.thy_core.proofs.snapshot.console.Goals as goal

pub read_console-requires-clause-stands : goal.read_console-requires-clause-stands
read_console-requires-clause-stands g c =
    let run = c.requires in
    can_run g.S.Scheme.scheme run.o run.cycles (machine_of c.args.m.now) (g.N.Nvm.device c.args.nvm.now)
    (sound-here g.S.Scheme.scheme run.o run.cycles (machine_of c.args.m.now) (g.N.Nvm.device c.args.nvm.now) run.at_moment) c.in-Run.is

pub read_console-requires-clause-roomy : goal.read_console-requires-clause-roomy
read_console-requires-clause-roomy g c =
    let run = c.requires in
    committed_room g.S.Scheme.scheme g.met.S.Scheme.lawful run.o run.cycles (machine_of c.args.m.now) (g.N.Nvm.device c.args.nvm.now)
    (sound-here g.S.Scheme.scheme run.o run.cycles (machine_of c.args.m.now) (g.N.Nvm.device c.args.nvm.now) run.at_moment) c.in-Run.is

pub returns-in-Boot-clause-console : goal.returns-in-Boot-clause-console
returns-in-Boot-clause-console g c = λ o k done at behind shown.
    absurd (boot_shown g.S.Scheme.scheme g.met.S.Scheme.lawful o k (machine_of c.args.m.now) (g.N.Nvm.device c.args.nvm.now)
    (sound-here g.S.Scheme.scheme o k (machine_of c.args.m.now) (g.N.Nvm.device c.args.nvm.now) at) c.in-Boot.is behind)

pub returns-in-Run-clause-console : goal.returns-in-Run-clause-console
returns-in-Run-clause-console g c = λ o k done at behind shown.
    console_when g.S.Scheme.scheme g.met.S.Scheme.lawful o k (machine_of c.args.m.now)
    (g.N.Nvm.device c.args.nvm.now) done c.args.from c.read_console.result
    (sound-here g.S.Scheme.scheme o k (machine_of c.args.m.now) (g.N.Nvm.device c.args.nvm.now) at) c.in-Run.is shown c.read_console.ensures.console

pub returns-in-Boot-clause-past : goal.returns-in-Boot-clause-past
returns-in-Boot-clause-past g c = λ o k done at behind shown past.
    absurd (boot_shown g.S.Scheme.scheme g.met.S.Scheme.lawful o k (machine_of c.args.m.now) (g.N.Nvm.device c.args.nvm.now)
    (sound-here g.S.Scheme.scheme o k (machine_of c.args.m.now) (g.N.Nvm.device c.args.nvm.now) at) c.in-Boot.is behind)

pub returns-in-Run-clause-past : goal.returns-in-Run-clause-past
returns-in-Run-clause-past g c = λ o k done at behind shown past.
    c.read_console.ensures.past
    (console_past g.S.Scheme.scheme o k (machine_of c.args.m.now) (g.N.Nvm.device c.args.nvm.now) done c.args.from
    (sound-here g.S.Scheme.scheme o k (machine_of c.args.m.now) (g.N.Nvm.device c.args.nvm.now) at) c.in-Run.is shown past)
