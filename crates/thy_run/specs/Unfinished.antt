-- Part of the claim.
-- A cycle that was begun and is not done, and what is left by a run that stopped.
use Rattle.std.specs.Prelude.{◌≡◌, ◌≢◌, ◌⊎◌, ℕ, true, false, List, [], ◌++◌}
use Rattle.thy_block.specs.Counts.{Rose}
use Rattle.thy_block.specs.Device.{Device, HasFailed, IsFramed}
use Rattle.thy_block.specs.Mix.{mix_pick}
use Rattle.thy_computer.specs.Kind.{KindOf, LeavesSafe}
use Rattle.thy_text.specs.Event.{Event}
use Rattle.thy_computer.specs.Views.{is_halt}
use Rattle.thy_computer.specs.Origin.{Origin}
use Rattle.thy_run.specs.Cuts.{has_ended}
use Rattle.thy_run.specs.World.{World, Given, line, seen, is_due, TakesStep, Ran}
use Rattle.thy_run.specs.declared.ending.Stop.{Stop}
use Rattle.thy_run.specs.declared.ending.Stop.TheVariants.{Ended, Nvm, Memory, Terminal, Report, Limit}

-- the machine's step failed with a fault of the device, whose sealed checkpoint is in doubt only if its commit block
-- was written before, or this was its write
pub record StepFailed {M : Type 0} (K : KindOf M) (o : Origin) (w : World M) (events : List Event) (n : Device) : Type 0 where
  pub going : is_halt (seen K o w).phase ≡ false
  -- the machine that the failed step left
  pub next : M
  pub leaves : LeavesSafe K (line o w) (mix_pick o.geometry.harts w.mix) w.machine next w.device n
  pub framed : IsFramed w.device n
  pub rose : Rose w.device.faults n.faults
  pub nothing_reported : events ≡ w.events

-- a read for the events of a step failed with a fault of the device: there was one to be made, and none was
pub record ReadFailed {M : Type 0} (w : World M) (events : List Event) (n : Device) (next : World M) (rest : List Event) : Type 0 where
  pub due : rest ≢ []
  pub nothing_reported : events ≡ w.events
  pub failed : HasFailed next.device n
  pub framed : IsFramed next.device n
  pub rose : Rose next.device.faults n.faults

-- an allocation failed for an event of a step, or for the cut that falls after it, and the device was left alone
abbrev pub LeftAlone : {M : Type 0} → KindOf M → Origin → List ℕ → Device → World M → List Event → Type 0
LeftAlone K o cuts n next rest = (n ≡ next.device) × ((rest ≢ []) ⊎ (is_due K o cuts next ≡ true))

-- The step was done, but only the first of its events were made: a read for the others failed, or an allocation
-- failed. `Why` says what became of the step's device, and what was still to be done.
pub record ReportingFailed {M : Type 0} (K : KindOf M) (o : Origin) (w : World M) (events : List Event)
    (Why : World M → List Event → Type 0) : Type 0 where
  pub next : World M
  pub steps : TakesStep K o w next
  pub part : List Event
  pub rest : List Event
  pub grew : events ≡ w.events ++ part
  pub split : next.events ≡ events ++ rest
  pub unended : has_ended part ≡ false
  pub why : Why next rest

-- the last cycle is done, and nothing was begun after it
abbrev pub IsLast : {M : Type 0} → World M → List Event → Device → Type 0
IsLast w events n = (events ≡ w.events) × (n ≡ w.device)

-- What is left by a run that stopped, by the reason: only for a fault of the device or out of memory one more cycle
-- was begun. If memory ran out before the first cycle, none was.
abbrev pub AtStop : {M : Type 0} → KindOf M → Origin → List ℕ → World M → List Event → Device → Stop → Type 0
AtStop K o cuts w events n (Ended status) = IsLast w events n
AtStop K o cuts w events n Nvm = StepFailed K o w events n ⊎ ReportingFailed K o w events (ReadFailed w events n)
AtStop K o cuts w events n Memory = ((w.cycles ≡ 0) × IsLast w events n) ⊎ ReportingFailed K o w events (LeftAlone K o cuts n)
AtStop K o cuts w events n Terminal = IsLast w events n
AtStop K o cuts w events n Report = IsLast w events n
AtStop K o cuts w events n Limit = IsLast w events n

-- a run of this many cycles has given these events and left this device, and stopped for this
pub record Stopped {M : Type 0} (K : KindOf M) (o : Origin) (given : Given) (cycles : ℕ) (events : List Event) (n : Device) (stop : Stop)
    : Type 0 where
  pub last : World M
  pub ran : Ran K o given cycles last
  pub at_stop : AtStop K o given.config.cuts last events n stop
