-- Part of the claim.
-- What a run leaves at its end: its last state, what its sinks took, and why it stopped.
use Rattle.std.specs.Prelude.{◌≡◌, ℕ, ◌<◌, ◌≤◌, Bool, true, false, List, [], ◌∷◌, ◌++◌}
use Rattle.thy_block.specs.Counts.{Rose}
use Rattle.thy_block.specs.Device.{Device}
use Rattle.thy_block.specs.Outside.{Stream}
use Rattle.thy_isa.specs.declared.state.Status.{Status}
use Rattle.thy_isa.specs.Step.{State}
use Rattle.thy_text.specs.Event.{Event, Ended as EndedEvent}
use Rattle.thy_text.specs.Lines.{report_of}
use Rattle.thy_computer.specs.Kind.{KindOf}
use Rattle.thy_computer.specs.Origin.{Origin}
use Rattle.thy_run.specs.Cuts.{has_ended}
use Rattle.thy_run.specs.Laws.{released_of}
use Rattle.thy_run.specs.Sending.{Delivered}
use Rattle.thy_run.specs.Unfinished.{Stopped}
use Rattle.thy_run.specs.World.{World, Given, Cycle, Ran, reporting}
use Rattle.thy_run.specs.declared.ending.Stop.{Stop}
use Rattle.thy_run.specs.declared.ending.Stop.TheVariants.{Ended, Nvm, Memory, Terminal, Report, Limit}
use Rattle.thy_run.specs.declared.ending.Ending.{Ending}

-- an allocation failed
abbrev pub is_memory : Stop → Bool
is_memory Memory = true
is_memory stop = false

-- these events were reported before the last cycle
abbrev pub ReportedBefore : {M : Type 0} → KindOf M → Origin → Given → World M → List Event → Type 0
ReportedBefore {M = M} K o given last settled =
    (k : ℕ) × (before : World M) × Ran K o given k before
    × Cycle K o given.config.cuts given.config.tears before last × (settled ≡ before.events)

-- the events that were reported before the last cycle that was begun; a sink that failed did so in that cycle
abbrev pub IsSettled : {M : Type 0} → KindOf M → Origin → Given → World M → List Event → Stop → Type 0
IsSettled K o given last settled Terminal = ReportedBefore K o given last settled
IsSettled K o given last settled Report = ReportedBefore K o given last settled
IsSettled K o given last settled (Ended status) = settled ≡ last.events
IsSettled K o given last settled Nvm = settled ≡ last.events
IsSettled K o given last settled Memory = settled ≡ last.events
IsSettled K o given last settled Limit = settled ≡ last.events

-- the last event is the end, with this status
pub record EndsWith (events : List Event) (status : Status) : Type 0 where
  pub before : List Event
  pub count : ℕ
  pub cycle : ℕ
  pub state : State
  pub last : events ≡ before ++ EndedEvent status count cycle state ∷ []

-- neither sink failed
abbrev pub IsHeard : Ending → Type 0
IsHeard e = (e.terminal_failed ≡ false) × (e.report_failed ≡ false)

-- What a stop says of a run with this limit of cycles, between the device after its fit and the device that is left. A run that
-- went on after a failed call would have to leave the count of faults as it was. So a failed call ends the run.
abbrev pub StopFits : ℕ → Device → Device → Ending → Stop → Type 0
StopFits limit old new e (Ended status) = EndsWith e.events status × IsHeard e × (new.faults ≡ old.faults)
StopFits limit old new e Nvm = Rose old.faults new.faults × (e.cycles < limit) × IsHeard e
StopFits limit old new e Memory = (e.cycles < limit) × (new.faults ≡ old.faults)
StopFits limit old new e Terminal = (e.terminal_failed ≡ true) × (e.report_failed ≡ false) × (new.faults ≡ old.faults)
StopFits limit old new e Report = (e.report_failed ≡ true) × (new.faults ≡ old.faults)
StopFits limit old new e Limit =
    (e.cycles ≡ limit) × (has_ended e.events ≡ false) × IsHeard e × (new.faults ≡ old.faults)

-- A run took the cycles of an ending and left this device; its terminal and its report, which are these streams,
-- took what its events say.
pub record HasRun {M : Type 0} (K : KindOf M) (o : Origin) (given : Given) (new : Device) (e : Ending)
    (terminal shown report read : Stream) : Type 0 where
  pub stopped : Stopped K o given e.cycles e.events new e.stop
  pub few : e.cycles ≤ o.geometry.limit
  pub settled : List Event
  pub is_settled : IsSettled K o given stopped.last settled e.stop
  pub shown_all : Delivered (is_memory e.stop) e.terminal_failed (released_of o settled) (released_of o e.events) terminal shown
  pub read_all : Delivered false e.report_failed (report_of (reporting given) settled) (report_of (reporting given) e.events) report read
  pub stop_fits : StopFits o.geometry.limit given.fitted new e e.stop
