-- How a run of the machine begins, what power that comes on leads to, and that every cycle decreases the number of cycles
-- left.
use Rattle.std.specs.Prelude.{◌≡◌, ℕ, ◌+◌, ◌*◌, ◌≤◌, true, false, List, length, Option}
use Rattle.thy_block.specs.declared.block.Block.{Block}
use Rattle.thy_block.specs.declared.nvm.Shape.{Shape}
use Rattle.thy_block.specs.Device.{Device, fitted}
use Rattle.thy_block.specs.declared.mix.Pick.{Pick}
use Rattle.thy_computer.specs.declared.did.Did.{Did}
use Rattle.thy_computer.specs.declared.did.Stall.{Stall}
use Rattle.thy_computer.specs.declared.did.Stepped.{Stepped}
use Rattle.thy_computer.specs.declared.view.Phase.TheVariants.{Boot}
use Rattle.thy_computer.specs.declared.view.View.{View}
use Rattle.thy_computer.specs.Booting.{first_view, view_of_image}
use Rattle.thy_computer.specs.CoreStep.{CoreStep}
use Rattle.thy_computer.specs.Kind.{IsLawful, IsFittedFor, IsCrashOfView, IsStep, LeavesSafe}
use Rattle.thy_computer.specs.Origin.{Origin, IsOrigin}
use Rattle.thy_computer.specs.Pace.{Gauge, KeepsPace, retires}
use Rattle.thy_computer.specs.Safe.{ceiling, Safe}
use Rattle.thy_computer.specs.WithTurns.{with_turns, AgreeBelow, reach, HasTurn}
use Rattle.thy_computer.specs.NextActor.{NextActor, HandsOn, actor_of}
use Rattle.thy_computer.specs.Views.{is_halt, halts, doubt_of}
use Rattle.thy_scheme.specs.Scheme.{SchemeOf}
use Rattle.thy_scheme.specs.Laws.{IsLawful as IsLawfulScheme}
use Rattle.thy_scheme.specs.MachineExact.{MakesCycle}
use Rattle.thy_scheme.specs.Kind.{kind_over, left_ahead}
use Rattle.thy_scheme.specs.Machine.{Machine, processor_of, view_of, pressure_of}
use Rattle.thy_scheme.specs.Failures.{Fails}
use Rattle.thy_scheme.specs.Rows.{IsMoment, At, SimulatesCycle}
use Rattle.thy_scheme.specs.Sound.{Sound, IsAt, IsPowered}

-- whatever a cut leaves at a moment is the committed checkpoint, whole, or the one in doubt
abbrev pub MomentIsSafe : {S : Type 0} → SchemeOf S → Type 0
MomentIsSafe {S} K =
    (o : Origin) (cycles : ℕ) (m : Machine S) (n : Device)
    → IsLawfulScheme K → Sound K o cycles m n → Safe K.decode o (view_of K o m n).done (doubt_of (view_of K o m n)) n

-- a new machine over a fitted device is at a moment of the run that this begins
abbrev pub FreshSimulates : {S : Type 0} → SchemeOf S → Type 0
FreshSimulates {S} K =
    (o : Origin) (m : Machine S) (shape : Shape) (start : List Block) (n : Device)
    → IsLawfulScheme K → IsOrigin o → IsPowered K o.geometry m → IsFittedFor (kind_over K) o shape start n
    → IsAt K o 0 m (fitted shape start n) × (view_of K o m (fitted shape start n) ≡ first_view o)

-- Power that comes on over a device which a cut may have left, also after a step that failed, leads to a moment of the same
-- run, whose view is what the image means. The turns after the checkpoint found are lost with it.
abbrev pub LeftSimulates : {S : Type 0} → SchemeOf S → Type 0
LeftSimulates {S} K =
    (o : Origin) (cycles : ℕ) (m next : Machine S) (n left : Device)
    → IsLawfulScheme K → Sound K o cycles m n → IsPowered K o.geometry next → IsCrashOfView (kind_over K) o (view_of K o m n) left
    → IsAt K o cycles next left
    × (view_of K o next left ≡ view_of_image o.start.count (K.decode o.geometry ceiling left.image))

-- a cycle of a machine that has not halted decreases the measure by one, and only a retired instruction raises it
abbrev pub CyclesComeNearer : Type 0
CyclesComeNearer =
    (most : ℕ) (o : Origin) (v next : View) (did : Did) (old new : Gauge)
    → (v.phase ≡ Boot → v.retired ≡ 0) → CoreStep o v did next → KeepsPace most v next did old new → is_halt v.phase ≡ false
    → left_ahead most next new + 1 ≤ left_ahead most v old + 4 * most * retires did

-- a cycle that simulates the run along all turns that agree so far, and has its hart's turn, leads to a moment
abbrev pub LeadsToMoment : {S : Type 0} → SchemeOf S → Type 0
LeadsToMoment {S} K =
    (o : Origin) (cycles : ℕ) (did : Did) (m next : Machine S) (n new : Device)
    → IsLawfulScheme K
    → ((turns : List ℕ) → AgreeBelow o turns (reach (view_of K o m n)) → HasTurn (with_turns o turns) (view_of K (with_turns o turns) m n) did
    → SimulatesCycle K (with_turns o turns) cycles did m n next new)
    → HasTurn o (view_of K o m n) did → IsAt K o (cycles + 1) next new

-- a cycle that leads to the next moment, at the turn of its pick, and makes what that actor's makes is a step of a machine
abbrev pub SimulatingIsStep : {S : Type 0} → SchemeOf S → Type 0
SimulatingIsStep {S} K =
    (o : Origin) (cycles : ℕ) (pick : Pick) (m next : Machine S) (n new : Device) (r : Stepped)
    → At K o cycles m n → SimulatesCycle K o cycles r.did m n next new → IsAt K o (cycles + 1) next new
    → NextActor o pick (length n.queue) (view_of K o m n) (pressure_of K m) r.did r.stall
    → HandsOn (actor_of o pick (length n.queue) (view_of K o m n) (pressure_of K m)) r.did (pressure_of K m) (pressure_of K next)
    → r.ended ≡ halts (view_of K o m n) (view_of K o next new)
    → MakesCycle K o (actor_of o pick (length n.queue) (view_of K o m n) (pressure_of K m)) m n r.did next new
    → IsStep (kind_over K) o cycles pick m next n new r

-- a cycle whose action failed is a failed cycle of a machine, if the processor is as before
abbrev pub FailingIsSafe : {S : Type 0} → SchemeOf S → Type 0
FailingIsSafe {S} K =
    (o : Origin) (cycles : ℕ) (pick : Pick) (m next : Machine S) (n new : Device) (did : Did) (stall : Option Stall)
    → IsMoment K o cycles m n → Fails K o did m next.scheme n new → processor_of next ≡ processor_of m → next.failed ≡ true
    → NextActor o pick (length n.queue) (view_of K o m n) (pressure_of K m) did stall
    → LeavesSafe (kind_over K) o pick m next n new

-- a machine over a lawful scheme keeps the laws of machines
abbrev pub MachineIsLawful : {S : Type 0} → SchemeOf S → Type 0
MachineIsLawful K = IsLawfulScheme K → IsLawful (kind_over K)
