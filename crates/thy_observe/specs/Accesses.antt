-- The accesses to the NVM in some of a run's cycles: the reads and writes of its device by the machine.
use Rattle.std.specs.Prelude.{◌≡◌, ◌⊎◌, ℕ, ◌+◌, min, Bool, true, false, if◌then◌else◌, Option, Some, None, List, [], ◌∷◌, ◌++◌, map, take, fold}
use Rattle.std.specs.List.{flat_map}
use Rattle.thy_block.specs.Device.{Device}
use Rattle.thy_block.specs.Outside.{Stream}
use Rattle.thy_computer.specs.declared.did.Did.{Did}
use Rattle.thy_computer.specs.Kind.{KindOf}
use Rattle.thy_run.specs.declared.ending.Ending.{Ending}
use Rattle.thy_run.specs.declared.plan.Plan.{Plan}
use Rattle.thy_run.specs.Due.{shows_console}
use Rattle.thy_run.specs.Going.{given_of, origin_of}
use Rattle.thy_run.specs.Rounds.{RunEnds}
use Rattle.thy_run.specs.Watching.{Taken, IsListed}
use Rattle.thy_run.specs.World.{World}
use Rattle.thy_observe.specs.declared.accesses.Accessed.{Accessed}
use Rattle.thy_observe.specs.declared.causes.Cause.{Cause}
use Rattle.thy_observe.specs.declared.listing.Call.{Call}
use Rattle.thy_observe.specs.declared.listing.Call.TheVariants.{Read, Write, Drain, Barrier}
use Rattle.thy_observe.specs.declared.tracing.Window.{Window}
use Rattle.thy_observe.specs.Causes.{cause_of, under_way_then}
use Rattle.thy_observe.specs.Kinds.{kind_of}
use Rattle.thy_observe.specs.Tracing.{is_within}

-- ---- of a cycle

-- The machine's own among the calls of a cycle. One that makes another checkpoint known has one; the others are reads of
-- states and consoles by which the run is reported.
abbrev pub own : Did → List Call → List Call
own did calls = if shows_console did then take 1 calls else calls

abbrev pub accessed : ℕ → Cause → Bool → ℕ → Accessed
accessed cycle cause writes at = record { cycle = cycle; cause = cause; writes = writes; at = at }

-- the access of a call, if it is one
abbrev pub access_of : ℕ → Cause → Call → List Accessed
access_of cycle cause (Read at) = accessed cycle cause false at ∷ []
access_of cycle cause (Write at) = accessed cycle cause true at ∷ []
access_of cycle cause Drain = []
access_of cycle cause Barrier = []

-- the accesses of a cycle of this number that did this and made these calls, by whether a checkpoint was under way before it
abbrev pub accesses_in : Bool → ℕ → Did → List Call → List Accessed
accesses_in b cycle did calls = flat_map (access_of cycle (cause_of b (kind_of did))) (own did calls)

-- the accesses of a cycle, if the cycle lies in the window
abbrev pub accesses_at : Window → Bool → ℕ → Did → List Call → List Accessed
accesses_at w b cycle did calls = if is_within w cycle then accesses_in b cycle did calls else []

-- ---- of a run's cycles

-- a done cycle, and the calls of the device that were listed in it
pub record Heard : Type 0 where
  pub taken : Taken
  pub calls : List Call

abbrev pub takens : List Heard → List Taken
takens heard = map (λ (h : Heard). h.taken) heard

-- the accesses of some cycles; how many these are, and whether a checkpoint is under way after them
pub record Log : Type 0 where
  pub cycles : ℕ
  pub under_way : Bool
  pub rows : List Accessed

abbrev pub first_log : Log
first_log = record { cycles = 0; under_way = false; rows = [] }

-- the log with one cycle more
abbrev pub logged : Window → Log → Heard → Log
logged w l h = record {
  cycles = l.cycles + 1;
  under_way = under_way_then l.under_way h.taken;
  rows = l.rows ++ accesses_at w l.under_way (l.cycles + 1) h.taken.stepped.did h.calls;
}

abbrev pub log_of : Window → List Heard → Log
log_of w heard = fold (logged w) first_log heard

-- the accesses in a window of these cycles, in order
abbrev pub accesses_of : Window → List Heard → List Accessed
accesses_of w heard = (log_of w heard).rows

-- ---- of a run

-- a stream that nobody reads
abbrev pub nowhere : Stream
nowhere = record { taken = None; faults = 0 }

-- the last cycle of a window of a run with this limit
abbrev pub last_cycle : Option ℕ → ℕ → ℕ
last_cycle None limit = limit
last_cycle (Some last) limit = min last limit

-- a run stops with the cycle after these: what it writes is read by nobody
pub record StopsAfter {M : Type 0} (K : KindOf M) (plan : Plan) (fitted : Device) (cycles : ℕ) : Type 0 where
  pub device : Device
  pub ending : Ending
  pub ends : RunEnds K plan fitted device ending nowhere nowhere nowhere nowhere
  pub next : ending.cycles ≡ cycles + 1

-- The accesses in a window of a run over a device that was fitted, up to the window's last cycle, or up to the one before
-- the cycle with which the run stops. What a run and its cycles are says thy_run; the calls are those that its device has
-- listed.
pub record HasAccesses {M : Type 0} (K : KindOf M) (plan : Plan) (fitted : Device) (w : Window) (rows : List Accessed) : Type 0 where
  pub cycles : ℕ
  pub world : World M
  pub heard : List Heard
  pub listed : IsListed K (origin_of plan) (given_of plan fitted) cycles world (takens heard)
  pub whole : (cycles ≡ last_cycle w.last plan.geometry.limit) ⊎ StopsAfter K plan fitted cycles
  pub rows_are : rows ≡ accesses_of w heard
