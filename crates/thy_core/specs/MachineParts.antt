-- The parts of a machine as one, and the actors of its code.
use Rattle.std.specs.Prelude.{ℕ, ◌<◌}
use Rattle.thy_computer.specs.declared.boot_step.BootStep.{BootStep}
use Rattle.thy_computer.specs.declared.boot_step.BootStep.TheVariants.{GoesOn, Loaded, Restarted, Refused}
use Rattle.thy_computer.specs.NextActor.{Actor, Nvm, Dram, Checkpoint, Advances, Stalled}
use Rattle.thy_scheme.specs.CheckpointMarks.{CheckpointMarks}
use Rattle.thy_core.specs.declared.parts.Checkpoints.{Checkpoints}
use Rattle.thy_core.specs.declared.parts.Consoles.{Consoles}
use Rattle.thy_core.specs.declared.parts.MachineParts.{MachineParts}
use Rattle.thy_core.specs.declared.turn.Actor.{Actor as ActorHere}
use Rattle.thy_core.specs.declared.turn.Actor.TheVariants as here
use Rattle.thy_core.specs.declared.turn.NextActor.{NextActor}
use Rattle.thy_core.specs.declared.turn.NextActor.TheVariants as turns
use Rattle.thy_scheme.specs.Machine.{Machine, Lengths}

abbrev pub marks_of : Checkpoints → CheckpointMarks
marks_of k = record { done = k.done; sealed = k.sealed; written = k.written }

abbrev pub lengths_of : Consoles → Lengths
lengths_of c = record { done = c.done; sealed = c.sealed }

abbrev pub machine_of : {S : Type 0} → MachineParts S → Machine S
machine_of p = record {
  hart = p.hart;
  cache = p.cache;
  scheme = p.store.scheme;
  phase = p.phase;
  marks = marks_of p.checkpoints;
  consoles = lengths_of p.consoles;
  ends = p.ends;
  spent = p.spent;
  lap = p.lap;
  idle = p.idle;
  failed = p.failed;
  begun = p.begun;
  last = p.last;
}

-- an actor in whose cycle no instruction advances, as the view has it
abbrev pub actor_seen : ActorHere → Actor
actor_seen here.Nvm = Nvm
actor_seen here.Dram = Dram
actor_seen here.Engine = Checkpoint
actor_seen (here.Stalled stall) = Stalled stall

-- whose turn it is, as the view has it
abbrev pub next_actor_seen : NextActor → Actor
next_actor_seen (turns.Advances hart) = Advances hart
next_actor_seen (turns.Other actor) = actor_seen actor

-- what a step of the boot restored is of an epoch below this
abbrev pub IsRestartBelow : ℕ → BootStep → Type 0
IsRestartBelow n GoesOn = Unit {0}
IsRestartBelow n Loaded = Unit {0}
IsRestartBelow n (Restarted cpu epoch) = epoch < n
IsRestartBelow n (Refused bad) = Unit {0}
