use Rattle.std.proofs.Common.{Ok, ap}
use Rattle.thy_computer.specs.NextActor.{Nvm, Dram, Checkpoint, Stalled}
use Rattle.thy_core.specs.Cycles.{IsAnyRun, HasStart}
use Rattle.thy_core.specs.MachineParts.{machine_of, actor_seen}
use Rattle.thy_core.proofs.CycleLaws.{taken_is}
use Rattle.thy_core.proofs.cycle.cycle.Goals as goal

pub returns-in-Nvm : goal.returns-in-Nvm
returns-in-Nvm g c =
    taken_is g.S.Scheme.scheme IsAnyRun (HasStart c.args.start.now) Nvm (actor_seen c.args.actor) (machine_of c.args.m.now)
    (machine_of c.args.m.now) (g.N.Nvm.device c.args.nvm.now) (g.N.Nvm.device c.land.new.nvm)
    c.land.result (ap actor_seen c.in-Nvm.is) (λ o begins. tt) c.land.ensures

pub returns-in-Dram : goal.returns-in-Dram
returns-in-Dram g c =
    taken_is g.S.Scheme.scheme IsAnyRun (HasStart c.args.start.now) Dram (actor_seen c.args.actor) (machine_of c.args.m.now)
    (machine_of c.drain.new.m) (g.N.Nvm.device c.args.nvm.now) (g.N.Nvm.device c.args.nvm.now)
    (Ok c.drain.result) (ap actor_seen c.in-Dram.is) (λ o begins. tt) c.drain.ensures

pub returns-in-Engine : goal.returns-in-Engine
returns-in-Engine g c =
    taken_is g.S.Scheme.scheme IsAnyRun (HasStart c.args.start.now) Checkpoint (actor_seen c.args.actor) (machine_of c.args.m.now)
    (machine_of c.checkpoint.new.m) (g.N.Nvm.device c.args.nvm.now) (g.N.Nvm.device c.checkpoint.new.nvm)
    c.checkpoint.result (ap actor_seen c.in-Engine.is) (λ o begins. tt) c.checkpoint.ensures

pub returns-in-Stalled : goal.returns-in-Stalled
returns-in-Stalled g c =
    taken_is g.S.Scheme.scheme (HasStart c.args.start.now) (HasStart c.args.start.now) (Stalled c.in-Stalled.why) (actor_seen c.args.actor)
    (machine_of c.args.m.now) (machine_of c.stalled.new.m) (g.N.Nvm.device c.args.nvm.now) (g.N.Nvm.device c.stalled.new.nvm)
    c.stalled.result (ap actor_seen c.in-Stalled.is) (λ o begins. begins) c.stalled.ensures
