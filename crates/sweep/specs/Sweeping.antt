-- A run that is swept: what is known of it between two cycles.
use Rattle.std.specs.Prelude.{◌≡◌, ℕ, ◌<◌, ◌^◌, nat_le, Bool, true, false, List, length, Option, Some, None}
use Rattle.thy_block.specs.Device.{Device}
use Rattle.thy_run.specs.declared.plan.Plan.{Plan}
use Rattle.thy_run.specs.declared.progress.Progress.{Progress}
use Rattle.thy_run.specs.Rounds.{Running, RunEnds}
use Rattle.thy_run.specs.Sending.{Sinks}
use Rattle.thy_sweep.specs.Lying.{blocks_below}
use Rattle.thy_sweep.specs.declared.trial.room.Room.{Room}
use Rattle.thy_sweep.specs.Rooms.{HasRoomFor, CanTryOf}
use Rattle.thy_computer.specs.Kind.{KindOf, IsDramOf}
use Rattle.sweep.specs.declared.asked.Asked.{Asked}
use Rattle.sweep.specs.declared.running.Swept.{Swept}
use Rattle.sweep.specs.declared.running.Swept.TheVariants.{Stopped, Reached, Short}

-- the last cycle is done, if there is one
abbrev pub reaches : Option ℕ → ℕ → Bool
reaches None cycle = false
reaches (Some last) cycle = nat_le last cycle

-- a cycle is the last one that is asked for
abbrev pub ends_at : Asked → ℕ → Bool
ends_at a cycle = reaches a.to cycle

-- the most cycles of a boot, as of a run
abbrev pub most_cycles : ℕ
most_cycles = 10 ^ 12

-- there is room for copies of the device in memory, and an image can be tried of a run's device here, which is up
pub record CanLook {M : Type 0} (K : KindOf M) (plan : Plan) (p : Progress M) (memory seen : Device) (r : Room) : Type 0 where
  pub room : HasRoomFor plan memory r
  pub can : CanTryOf K plan seen p.mix most_cycles
  pub up : seen.down ≡ false

-- there is room for copies of a device in memory below one of this size
pub record HasRoomBelow (plan : Plan) (levels : Bool) (n : Device) (r : Room) : Type 0 where
  pub dram : IsDramOf plan.geometry r.dram
  pub blocks : r.spare.blocks ≡ blocks_below levels (length n.image)
  pub queue : r.spare.queue ≡ n.queue_room
  pub cuts : r.spare.cuts < 2 ^ 64

-- a run over a device that was fitted continues here, since its sinks were as before; and there is room for copies of the one in memory
pub record IsSwept {M : Type 0} (K : KindOf M) (plan : Plan) (fitted : Device) (levels : Bool) (p : Progress M) (n : Device) (done : ℕ) (before now : Sinks) (r : Room) : Type 0 where
  pub turns : List ℕ
  pub running : Running K plan fitted p n done turns before.terminal now.terminal before.report now.report
  pub room : HasRoomBelow plan levels fitted r

-- the run of a sweep continues when the last cycle is done
pub record IsReached {M : Type 0} (K : KindOf M) (plan : Plan) (fitted new : Device) (before after : Sinks) (cycle : ℕ) : Type 0 where
  pub progress : Progress M
  pub turns : List ℕ
  pub running : Running K plan fitted progress new cycle turns before.terminal after.terminal before.report after.report

-- What the run of a sweep leaves: what a run of the plan leaves, or it continues after the last cycle that was asked for. Nothing
-- is said if memory ran out.
abbrev pub SweepsRun : {M : Type 0} → KindOf M → Plan → Device → Device → Asked → Sinks → Sinks → Swept → Type 0
SweepsRun K plan fitted new a before after (Stopped ending) =
    RunEnds K plan fitted new ending before.terminal after.terminal before.report after.report
SweepsRun K plan fitted new a before after (Reached cycle) = (ends_at a cycle ≡ true) × IsReached K plan fitted new before after cycle
SweepsRun K plan fitted new a before after Short = Unit {0}
