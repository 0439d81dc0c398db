use Rattle.std.proofs.Common.{Ok, ap}
use Rattle.thy_computer.specs.declared.did.Stall.TheVariants.{Booting, Sealing, Waiting, Halted}
use Rattle.thy_computer.specs.NextActor.{Stalled}
use Rattle.thy_core.specs.Cycles.{IsAnyRun, HasStart}
use Rattle.thy_core.specs.MachineParts.{machine_of}
use Rattle.thy_core.proofs.CycleLaws.{taken_is}
use Rattle.thy_core.proofs.cycle.stalled.Goals as goal

pub returns-in-Booting : goal.returns-in-Booting
returns-in-Booting g c =
    taken_is g.S.Scheme.scheme (HasStart c.args.start.now) (HasStart c.args.start.now) (Stalled Booting) (Stalled c.args.why)
    (machine_of c.args.m.now) (machine_of c.boot.new.m) (g.N.Nvm.device c.args.nvm.now) (g.N.Nvm.device c.boot.new.nvm)
    c.boot.result (ap Stalled c.in-Booting.is) (λ o begins. begins) c.boot.ensures

pub returns-in-Sealing : goal.returns-in-Sealing
returns-in-Sealing g c =
    taken_is g.S.Scheme.scheme IsAnyRun (HasStart c.args.start.now) (Stalled Sealing) (Stalled c.args.why) (machine_of c.args.m.now)
    (machine_of c.prepare.new.m) (g.N.Nvm.device c.args.nvm.now) (g.N.Nvm.device c.prepare.new.nvm)
    c.prepare.result (ap Stalled c.in-Sealing.is) (λ o begins. tt) c.prepare.ensures

pub returns-in-Waiting : goal.returns-in-Waiting
returns-in-Waiting g c =
    taken_is g.S.Scheme.scheme IsAnyRun (HasStart c.args.start.now) (Stalled Waiting) (Stalled c.args.why) (machine_of c.args.m.now)
    (machine_of c.wait.new.m) (g.N.Nvm.device c.args.nvm.now) (g.N.Nvm.device c.wait.new.nvm)
    c.wait.result (ap Stalled c.in-Waiting.is) (λ o begins. tt) c.wait.ensures

pub returns-in-Halted : goal.returns-in-Halted
returns-in-Halted g c =
    taken_is g.S.Scheme.scheme IsAnyRun (HasStart c.args.start.now) (Stalled Halted) (Stalled c.args.why) (machine_of c.args.m.now)
    (machine_of c.args.m.now) (g.N.Nvm.device c.args.nvm.now) (g.N.Nvm.device c.args.nvm.now)
    (Ok c.rest.result) (ap Stalled c.in-Halted.is) (λ o begins. tt) c.rest.ensures
