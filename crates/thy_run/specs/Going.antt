-- The program's loop as a run.
use Rattle.std.specs.Prelude.{◌≡◌, ◌≢◌, ◌⊎◌, ℕ, ◌+◌, ◌-◌, ◌<◌, ◌≤◌, ◌==◌, Bool, true, false, ◌&&◌, nat_lt, slice_index, List, [], ◌∷◌, ◌++◌, length, drop, Option, Some, None, Box}
use Rattle.std.specs.declared.alloc.Global.{Global}
use Rattle.thy_block.specs.declared.parameters.Parameters.{Parameters}
use Rattle.thy_block.specs.Bytes.{bytes_of, room_of}
use Rattle.thy_base.specs.Config.{IsRising}
use Rattle.thy_block.specs.declared.mix.Mix.{Mix}
use Rattle.thy_block.specs.declared.mix.Pick.{Pick}
use Rattle.thy_block.specs.Counts.{Rose}
use Rattle.thy_block.specs.Device.{Device, IsFramed, IsCut}
use Rattle.thy_block.specs.Mix.{mix_pick, mix_next}
use Rattle.thy_dram.specs.Contents.{lost}
use Rattle.thy_isa.specs.declared.state.MachState.{MachState}
use Rattle.thy_isa.specs.declared.state.Status.{Status}
use Rattle.thy_isa.specs.Step.{state_of}
use Rattle.thy_text.specs.declared.reporting.Reporting.{Reporting}
use Rattle.thy_text.specs.Event.{Event, Cut}
use Rattle.thy_text.specs.Marks.{turns_listed}
use Rattle.thy_computer.specs.declared.did.Did.{Did}
use Rattle.thy_computer.specs.declared.did.Did.TheVariants.{Restarted, Retired, Sealed}
use Rattle.thy_computer.specs.declared.did.Stepped.{Stepped}
use Rattle.thy_computer.specs.declared.view.View.{View}
use Rattle.thy_computer.specs.Views.{loads, halts, is_halt}
use Rattle.thy_computer.specs.CoreStep.{CoreStep}
use Rattle.thy_computer.specs.Origin.{Origin, at, IsOrigin}
use Rattle.thy_computer.specs.Kind.{IsSnapshot, KindOf, IsStep, LeavesSafe}
use Rattle.thy_computer.specs.WithTurns.{with_turns, AgreeBelow, reach}
use Rattle.thy_run.specs.Cuts.{has_ended}
use Rattle.thy_run.specs.Due.{due_of}
use Rattle.thy_run.specs.Endings.{EndsWith}
use Rattle.thy_run.specs.Laws.{released_of}
use Rattle.thy_run.specs.Unfinished.{StepFailed, ReportingFailed, ReadFailed, LeftAlone}
use Rattle.thy_run.specs.World.{World, Given, seen, turns_after, TakesStep, Ran, Cycle, is_due, tear}
use Rattle.thy_run.specs.declared.ending.Stop.{Stop}
use Rattle.thy_run.specs.declared.ending.Stop.TheVariants.{Nvm, Memory}
use Rattle.thy_run.specs.declared.gather.Readings.{Readings}
use Rattle.thy_run.specs.declared.plan.Plan.{Plan}
use Rattle.thy_run.specs.declared.progress.Progress.{Progress}

-- what the run is about, with no turn reported yet
abbrev pub origin_of : Plan → Origin
origin_of plan = record {
  geometry = plan.geometry;
  start = state_of plan.start.state;
  input = bytes_of plan.start.input;
  kept = plan.start.kept;
  turns = [];
}

-- what the run is about, along the turns that are reported
abbrev pub line_of : Plan → List ℕ → Origin
line_of plan turns = with_turns (origin_of plan) turns

-- the turns once a cycle did this
abbrev pub turns_then : Plan → List ℕ → Did → List ℕ
turns_then plan turns did = turns_after plan.geometry.harts turns did

-- a run has exactly the turns that reach the state of a view
abbrev pub HasItsTurns : Origin → View → Type 0
HasItsTurns p v = length p.turns ≡ turns_listed p.geometry.harts (reach v - p.start.count)

-- the last turns of a list, this many
abbrev pub last_turns : ℕ → List ℕ → List ℕ
last_turns many turns = drop (length turns - many) turns

-- what else it is given, over a device that was fitted
abbrev pub given_of : Plan → Device → Given
given_of plan fitted = record { config = plan.config; digest = plan.digest; fitted = fitted }

-- how the events of a run are reported
abbrev pub reporting_of : Plan → Reporting
reporting_of plan = record { digest = plan.digest; harts = plan.config.harts }

-- a plan's start is one of a run, and the listed cuts rise
pub record IsPlanned (plan : Plan) : Type 0 where
  pub origin : IsOrigin (origin_of plan)
  pub rising : IsRising 0 plan.config.cuts

-- the run between two cycles, of which this many are done, with its device and the turns reported so far
abbrev pub world_at : {M : Type 0} → Progress M → Device → ℕ → List ℕ → World M
world_at p n cycles turns = record {
  machine = p.machine;
  device = n;
  mix = p.mix;
  passed = p.passed;
  cycles = cycles;
  fresh = p.fresh;
  events = p.events;
  turns = turns;
}

-- the turns that the program lists are the turns of the instructions that the view counts since the latest seal
abbrev pub AreListed : {M : Type 0} → KindOf M → Plan → Progress M → Device → ℕ → List ℕ → Type 0
AreListed K plan p n cycles turns =
    bytes_of p.turns ≡ last_turns (seen K (origin_of plan) (world_at p n cycles turns)).retired turns

-- with two harts there is room for the turns of an epoch
abbrev pub HasTurnsRoom : Parameters → ℕ → Type 0
HasTurnsRoom p room = (p.harts ≡ 1) ⊎ (p.epoch ≤ room)

-- the run continues: this many cycles were done since the device was fitted, and these turns are reported
pub record GoesOn {M : Type 0} (K : KindOf M) (plan : Plan) (fitted : Device) (p : Progress M) (n : Device) (cycles : ℕ)
    (turns : List ℕ) : Type 0 where
  pub ran : Ran K (origin_of plan) (given_of plan fitted) cycles (world_at p n cycles turns)
  pub going : is_halt (seen K (origin_of plan) (world_at p n cycles turns)).phase ≡ false
  pub listed : AreListed K plan p n cycles turns
  pub turns_room : HasTurnsRoom plan.geometry (room_of p.turns)
  pub released : p.released ≡ length (released_of (origin_of plan) p.events)
  pub room : n.left_room ≡ length plan.config.cuts + 1
  pub faults : n.faults ≡ fitted.faults
  pub on_terminal : p.terminal_failed ≡ false
  pub on_report : p.report_failed ≡ false

-- ---- a step, and what is read for its events

-- the machine took the schedule's next step, along the turns that are reported once it is done, which were listed
pub record IsStepped {M : Type 0} (K : KindOf M) (plan : Plan) (p next : Progress M) (n new : Device) (cycles : ℕ)
    (turns : List ℕ) (r : Stepped) : Type 0 where
  pub agree : AgreeBelow (line_of plan turns) (turns_then plan turns r.did)
      (reach (seen K (origin_of plan) (world_at p n cycles turns)))
  pub alike : K.view (line_of plan (turns_then plan turns r.did)) p.machine n
      ≡ seen K (origin_of plan) (world_at p n cycles turns)
  pub is_step : IsStep K (line_of plan (turns_then plan turns r.did)) cycles (mix_pick plan.geometry.harts p.mix) p.machine
      next.machine n new r
  pub framed : IsFramed n new
  pub faults : new.faults ≡ n.faults
  pub same : next ≡ record p { machine = next.machine; mix = mix_next plan.geometry.harts p.mix; turns = next.turns }
  pub listed : bytes_of next.turns ≡ turns_then plan (bytes_of p.turns) r.did
  pub turns_room : room_of p.turns ≤ room_of next.turns

-- the turns that are listed once this was done: none once the epoch was sealed
abbrev pub list_after : Did → List ℕ → List ℕ
list_after (Sealed epoch count cause) listed = []
list_after did listed = listed

-- a list of turns has room for the turn of what was done, if that retired an instruction
abbrev pub HasRoomToList : ℕ → List ℕ → ℕ → Did → Type 0
HasRoomToList harts turns room (Retired hart) = (harts ≡ 1) ⊎ (length turns < room)
HasRoomToList harts turns room did = Unit {0}

-- what the reads for a step's events require
pub record CanGather {M : Type 0} (K : KindOf M) (o : Origin) (cycles : ℕ) (v : View) (p : Progress M) (n : Device) (r : Stepped)
    : Type 0 where
  pub at_next : K.is_at o cycles p.machine n
  pub step : CoreStep o v r.did (K.view o p.machine n)
  pub ended : r.ended ≡ halts v (K.view o p.machine n)
  pub read : p.fresh ≡ true → K.has_read p.machine ≡ true
  pub released : p.released ≡ length (released_of o p.events)

-- the state for a restart's event
abbrev pub Restores : Origin → Did → Option (Box MachState Global) → Type 0
Restores o (Restarted epoch count) (Some state) = state_of state.value ≡ at o count
Restores o (Restarted epoch count) None = ⊥
Restores o did state = Unit {0}

-- the state for the event of the end
abbrev pub IsEnding : Origin → View → View → Option (Box MachState Global) → Type 0
IsEnding o v next None = halts v next ≡ false
IsEnding o v next (Some state) = (halts v next ≡ true) × IsSnapshot o next state.value

-- what was read for a step's events, and of the console
pub record IsGathered {M : Type 0} (o : Origin) (v next : View) (p : Progress M) (did : Did) (r : Readings) : Type 0 where
  pub reload : r.reload ≡ (p.fresh && loads next)
  pub restored : Restores o did r.restored
  pub bytes : bytes_of r.bytes ≡ due_of o p.events did next
  pub ended : IsEnding o v next r.ended

-- the status with which the program ended in this step, if it did
abbrev pub IsEnd : Origin → View → View → Option Status → Type 0
IsEnd o v next None = halts v next ≡ false
IsEnd o v next (Some status) = (halts v next ≡ true) × (status ≡ (at o next.count).status)

-- some first events of a step were made, and memory ran out before the rest, of which there is at least one
pub record MadeSome (made : List Event) (all : List Event) (before : List Event) : Type 0 where
  pub part : List Event
  pub rest : List Event
  pub grew : made ≡ before ++ part
  pub split : all ≡ part ++ rest
  pub some : rest ≢ []
  pub unended : has_ended part ≡ false

-- ---- a cycle

-- the machine's step failed with a fault of the device
pub record IsStuck {M : Type 0} (K : KindOf M) (plan : Plan) (p next : Progress M) (n new : Device) (turns : List ℕ)
    : Type 0 where
  pub leaves : LeavesSafe K (line_of plan turns) (mix_pick plan.geometry.harts p.mix) p.machine next.machine n new
  pub framed : IsFramed n new
  pub rose : Rose n.faults new.faults
  pub same : next ≡ record p { machine = next.machine; mix = mix_next plan.geometry.harts p.mix }

-- the next pick was drawn from a schedule, which goes on so
pub record IsDrawn (harts : ℕ) (before after : Mix) (pick : Pick) : Type 0 where
  pub pick_is : pick ≡ mix_pick harts before
  pub after_is : after ≡ mix_next harts before

-- the run continues, but that its next pick was drawn: it was this one
pub record HasDrawn {M : Type 0} (K : KindOf M) (plan : Plan) (fitted : Device) (p : Progress M) (n : Device) (cycles : ℕ)
    (turns : List ℕ) (pick : Pick) : Type 0 where
  -- the schedule before the pick
  pub mix : Mix
  pub drawn : IsDrawn plan.geometry.harts mix p.mix pick
  pub goes : GoesOn K plan fitted (record p { mix = mix }) n cycles turns

-- this step and all its events were made, and the terminal has to get these bytes
pub record IsNoted {M : Type 0} (K : KindOf M) (plan : Plan) (p next : Progress M) (n new : Device) (cycles : ℕ)
    (turns : List ℕ) (r : Stepped) (ended : Option Status) (bytes : List ℕ) : Type 0 where
  pub steps : TakesStep K (origin_of plan) (world_at p n cycles turns)
      (world_at next new (cycles + 1) (turns_then plan turns r.did))
  pub by_step : steps.r ≡ r
  pub is_end : IsEnd (line_of plan (turns_then plan turns r.did)) (seen K (origin_of plan) (world_at p n cycles turns))
      (seen K (origin_of plan) (world_at next new (cycles + 1) (turns_then plan turns r.did))) ended
  pub listed : AreListed K plan next new (cycles + 1) (turns_then plan turns r.did)
  pub turns_room : HasTurnsRoom plan.geometry (room_of next.turns)
  pub released : next.released ≡ length (released_of (origin_of plan) next.events)
  pub releases : released_of (origin_of plan) next.events ≡ released_of (origin_of plan) p.events ++ bytes
  pub faults : new.faults ≡ n.faults
  pub on_terminal : next.terminal_failed ≡ p.terminal_failed
  pub on_report : next.report_failed ≡ p.report_failed

-- a cycle is done by this step, a cut fell after it or not, and then these turns are reported
pub record IsDone {M : Type 0} (K : KindOf M) (plan : Plan) (p next : Progress M) (n new : Device) (cycles : ℕ)
    (turns after : List ℕ) (r : Stepped) (fell : Bool) (bytes : List ℕ) : Type 0 where
  pub cycle : Cycle K (origin_of plan) plan.config.cuts plan.config.tears (world_at p n cycles turns)
      (world_at next new (cycles + 1) after)
  pub listed : AreListed K plan next new (cycles + 1) after
  pub turns_room : HasTurnsRoom plan.geometry (room_of next.turns)
  pub by_step : cycle.steps.r ≡ r
  pub has_fallen : is_due K (origin_of plan) plan.config.cuts cycle.between ≡ fell
  pub released : next.released ≡ length (released_of (origin_of plan) next.events)
  pub releases : released_of (origin_of plan) next.events ≡ released_of (origin_of plan) p.events ++ bytes
  pub grew : (more : List Event) × (next.events ≡ p.events ++ more)
  pub room : new.left_room ≡ n.left_room
  pub faults : new.faults ≡ n.faults
  pub on_terminal : next.terminal_failed ≡ p.terminal_failed
  pub on_report : next.report_failed ≡ p.report_failed

-- a cycle was begun and is not done; unless an allocation failed, the bytes are all that has to be shown
pub record IsBroken {M : Type 0} (K : KindOf M) (plan : Plan) (p next : Progress M) (n new : Device) (cycles : ℕ) (bytes : List ℕ)
    : Type 0 where
  pub rest : List ℕ
  pub releases : released_of (origin_of plan) next.events ≡ released_of (origin_of plan) p.events ++ bytes ++ rest
  pub grew : (more : List Event) × (next.events ≡ p.events ++ more)
  pub on_terminal : next.terminal_failed ≡ p.terminal_failed
  pub on_report : next.report_failed ≡ p.report_failed

-- a fault of the device broke the cycle: its count of faults rose
pub record IsFault {M : Type 0} (p next : Progress M) (n new : Device) (bytes : List ℕ) : Type 0 where
  pub events : next.events ≡ p.events
  pub none : bytes ≡ []
  pub rose : Rose n.faults new.faults

-- why a cycle is not done: a fault of the device, or out of memory
abbrev pub Breaks : {M : Type 0} → KindOf M → Plan → Progress M → Progress M → Device → Device → ℕ → List ℕ → List ℕ
    → Stop → Type 0
Breaks K plan p next n new cycles turns bytes Nvm =
    (StepFailed K (origin_of plan) (world_at p n cycles turns) next.events new
    ⊎ ReportingFailed K (origin_of plan) (world_at p n cycles turns) next.events
    (ReadFailed (world_at p n cycles turns) next.events new))
    × IsFault p next n new bytes
Breaks K plan p next n new cycles turns bytes Memory =
    ReportingFailed K (origin_of plan) (world_at p n cycles turns) next.events
    (LeftAlone K (origin_of plan) plan.config.cuts new)
    × (new.faults ≡ n.faults)
Breaks K plan p next n new cycles turns bytes stop = ⊥

-- the next listed cut falls after a cycle whose events were made
pub record AwaitsCut {M : Type 0} (K : KindOf M) (plan : Plan) (p next : Progress M) (n new : Device) (cycles : ℕ)
    (turns : List ℕ) (r : Stepped) (bytes : List ℕ) : Type 0 where
  pub noted : IsNoted K plan p next n new cycles turns r None bytes
  pub due : (nat_lt next.passed (length plan.config.cuts) && slice_index plan.config.cuts next.passed == cycles + 1) ≡ true

-- a cycle is done by this step, no cut fell after it, and the run continues
abbrev pub Passes : {M : Type 0} → KindOf M → Plan → Progress M → Progress M → Device → Device → ℕ → List ℕ → Stepped
    → List ℕ → Type 0
Passes K plan p next n new cycles turns r bytes =
    IsDone K plan p next n new cycles turns (turns_then plan turns r.did) r false bytes
    × (is_halt (seen K (origin_of plan) (world_at next new (cycles + 1) (turns_then plan turns r.did))).phase ≡ false)

-- a cycle is done by this step, and the program has ended with this status
abbrev pub Finishes : {M : Type 0} → KindOf M → Plan → Progress M → Progress M → Device → Device → ℕ → List ℕ → Stepped
    → List ℕ → Status → Type 0
Finishes K plan p next n new cycles turns r bytes status =
    IsDone K plan p next n new cycles turns (turns_then plan turns r.did) r false bytes
    × (is_halt (seen K (origin_of plan) (world_at next new (cycles + 1) (turns_then plan turns r.did))).phase ≡ true)
    × EndsWith next.events status

-- power may be cut: the machine is at a moment of the run, and another cut is listed
pub record CanCut {M : Type 0} (K : KindOf M) (plan : Plan) (p : Progress M) (n : Device) : Type 0 where
  pub cycles : ℕ
  pub turns : List ℕ
  pub at_moment : K.is_at (line_of plan turns) cycles p.machine n
  pub room : length n.left < n.left_room
  pub few : p.passed < length plan.config.cuts

-- power was cut, with a new machine over the DRAM that is left of the old one's
pub record IsCutOffTo {M : Type 0} (K : KindOf M) (plan : Plan) (p next : Progress M) (n new : Device) (cycle : ℕ)
    : Type 0 where
  pub cut : IsCut (tear plan.config.tears p.passed) n new
  pub powered : K.powered plan.geometry next.machine
  pub dram : K.dram next.machine ≡ lost (K.dram p.machine) (tear plan.config.tears p.passed)
  pub same : next ≡ record p {
    machine = next.machine;
    passed = p.passed + 1;
    fresh = true;
    events = p.events ++ Cut (p.passed + 1) cycle ∷ [];
    turns = next.turns;
  }
  -- no turn of the epoch that executes next is listed
  pub cleared : bytes_of next.turns ≡ []
  pub turns_room : room_of next.turns ≡ room_of p.turns
