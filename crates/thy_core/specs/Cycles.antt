-- What a cycle promises at an actor's turn.
use Rattle.std.specs.Prelude.{◌≡◌, ℕ, ◌<◌, ◌&&◌, not, Bool, true, List, length, Option, Result, Ok, Err, IfOk, OnErr}
use Rattle.thy_block.specs.declared.nvm.NvmError.{NvmError}
use Rattle.thy_block.specs.Device.{Device, IsFramed, CountsFault}
use Rattle.thy_layout.specs.declared.start.Start.{Start}
use Rattle.thy_computer.specs.declared.did.Advance.{Advance}
use Rattle.thy_computer.specs.declared.did.Did.{Did}
use Rattle.thy_computer.specs.declared.did.Stepped.{Stepped}
use Rattle.thy_computer.specs.declared.did.Stall.{Stall}
use Rattle.thy_computer.specs.declared.did.Stall.TheVariants.{Booting, Sealing, Waiting, Halted}
use Rattle.thy_computer.specs.declared.view.Phase.TheVariants.{Boot, Run, Halt}
use Rattle.thy_computer.specs.Advances.{did_of, stepped_of}
use Rattle.thy_computer.specs.Origin.{Origin, Begins}
use Rattle.thy_computer.specs.WithTurns.{IsThere, HasTurn}
use Rattle.thy_computer.specs.NextActor.{Actor, Nvm, Dram, Checkpoint, Advances, Stalled, HandsOn, Does, Prepares, stall_at}
use Rattle.thy_computer.specs.Views.{is_halt}
use Rattle.thy_scheme.specs.Scheme.{SchemeOf}
use Rattle.thy_scheme.specs.MachineExact.{MakesCycle}
use Rattle.thy_scheme.specs.Machine.{Machine, processor_of, view_of, pressure_of}
use Rattle.thy_scheme.specs.Rows.{IsMoment, At, HartAdvances, IsSealing, SimulatesCycle}
use Rattle.thy_scheme.specs.Failures.{Fails}

-- a checkpoint is under way, after the boot
abbrev pub IsEngineDue : {S : Type 0} → SchemeOf S → Machine S → Type 0
IsEngineDue K m = (m.phase ≡ Run) × (K.under_way m.scheme ≡ true)

-- what holds at the turn of harts none of which advances an instruction, by the stall
abbrev pub IsStalledBy : {S : Type 0} → SchemeOf S → Origin → Machine S → Device → Stall → Type 0
IsStalledBy K o m n Booting = m.phase ≡ Boot
IsStalledBy K o m n Sealing = IsSealing K o m n
IsStalledBy K o m n Waiting = IsEngineDue K m
IsStalledBy K o m n Halted = m.phase ≡ Halt

-- what holds at the turn of each actor
abbrev pub IsActorOf : {S : Type 0} → SchemeOf S → Origin → Machine S → Device → Actor → Type 0
IsActorOf K o m n Nvm = 0 < length n.queue
IsActorOf K o m n Dram = 0 < K.queued m.scheme
IsActorOf K o m n Checkpoint = IsEngineDue K m
IsActorOf K o m n (Advances hart) = HartAdvances K o m n hart
IsActorOf K o m n (Stalled stall) = IsStalledBy K o m n stall

-- runs of every kind, those with this start, and those with this input
abbrev pub IsAnyRun : Origin → Type 0
IsAnyRun o = Unit {0}

abbrev pub HasStart : Start → Origin → Type 0
HasStart start o = Begins o start

abbrev pub HasInput : List ℕ → Origin → Type 0
HasInput input o = o.input ≡ input

-- a cycle may be taken: at the actor's turn, at a moment of a run of this kind
pub record CanTake {S : Type 0} (K : SchemeOf S) (P : Origin → Type 0) (actor : Actor) (m : Machine S) (n : Device) : Type 0 where
  pub o : Origin
  pub cycles : ℕ
  pub of_kind : P o
  pub at_moment : At K o cycles m n
  pub turn : IsActorOf K o m n actor

-- a cycle that did this was the actor's, which made exactly this, and is a step of the run if an instruction that it retired
-- has its turn
pub record IsCycle {S : Type 0} (K : SchemeOf S) (o : Origin) (cycles : ℕ) (actor : Actor) (did : Did) (m : Machine S) (n : Device) (next : Machine S) (new : Device) : Type 0 where
  pub does : Does did actor
  pub due : Prepares did (pressure_of K m)
  pub hands : HandsOn actor did (pressure_of K m) (pressure_of K next)
  pub there : IsThere o (view_of K o m n) did
  pub simulates : HasTurn o (view_of K o m n) did → SimulatesCycle K o cycles did m n next new
  pub exact : MakesCycle K o actor m n did next new

-- a cycle of the actor's failed, and leaves what is safe, and the processor as it was
pub record HasFailedAs {S : Type 0} (K : SchemeOf S) (o : Origin) (actor : Actor) (m next : Machine S) (n new : Device) : Type 0 where
  pub did : Did
  pub does : Does did actor
  pub due : Prepares did (pressure_of K m)
  pub fails : Fails K o did m next.scheme n new
  pub processor : processor_of next ≡ processor_of m

-- in every run of this kind, a cycle that succeeded is the actor's
abbrev pub SimulatesAs : {S : Type 0} → SchemeOf S → (Origin → Type 0) → Actor → Machine S → Device → Machine S → Device → Result Did NvmError → Type 0
SimulatesAs K P actor m n next new result =
    (o : Origin) (cycles : ℕ) → P o → At K o cycles m n → IsActorOf K o m n actor
    → IfOk result (λ did. IsCycle K o cycles actor did m n next new)

abbrev pub FailsAs : {S : Type 0} → SchemeOf S → (Origin → Type 0) → Actor → Machine S → Device → Machine S → Device → Result Did NvmError → Type 0
FailsAs K P actor m n next new result =
    (o : Origin) (cycles : ℕ) → P o → IsMoment K o cycles m n → IsActorOf K o m n actor → OnErr result (HasFailedAs K o actor m next n new)

-- the cycle was the actor's, or failed as one of the actor's; the NVM's frame stays, and a failure is counted
pub record HasTaken {S : Type 0} (K : SchemeOf S) (P : Origin → Type 0) (actor : Actor) (m : Machine S) (n : Device) (next : Machine S) (new : Device) (result : Result Did NvmError) : Type 0 where
  pub simulates : SimulatesAs K P actor m n next new result
  pub fails : FailsAs K P actor m n next new result
  pub frame : IsFramed n new
  pub cause : CountsFault result n.faults new.faults

-- what a hart's cycle of this result did, and what is reported of it
abbrev pub did_by : Result Advance NvmError → Result Did NvmError
did_by (Ok a) = Ok (did_of a)
did_by (Err e) = Err e

abbrev pub stepped_by : Result Advance NvmError → Result Stepped NvmError
stepped_by (Ok a) = Ok (stepped_of a)
stepped_by (Err e) = Err e

-- ---- what is reported

-- a cycle of this result is reported with this stall, and as the one that halts or not
abbrev pub reported : Option Stall → Bool → Result Did NvmError → Result Stepped NvmError
reported stall ended (Ok did) = Ok (record { did = did; stall = stall; ended = ended })
reported stall ended (Err e) = Err e

-- a cycle that failed is noted
abbrev pub noted : {S : Type 0} → Result Did NvmError → Machine S → Machine S
noted (Ok did) m = m
noted (Err e) m = record m { failed = true }

-- a cycle of the actor's was taken, and is reported
pub record HasReported {S : Type 0} (K : SchemeOf S) (P : Origin → Type 0) (actor : Actor) (m : Machine S) (n : Device) (next : Machine S) (new : Device) (result : Result Stepped NvmError) : Type 0 where
  pub cycle : Result Did NvmError
  pub behind : Machine S
  pub taken : HasTaken K P actor m n behind new cycle
  pub next_is : next ≡ noted cycle behind
  pub result_is : result ≡ reported (stall_at actor) (not (is_halt m.phase) && is_halt behind.phase) cycle
