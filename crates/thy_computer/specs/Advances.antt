-- Cycles in which a hart advances its instruction, and cycles of other actors.
use Rattle.std.specs.Prelude.{◌≡◌, ℕ, false, List, [], ◌∷◌, ◌++◌, replicate, length, Option, Some, None, Result, Ok, Err}
use Rattle.thy_block.specs.declared.mix.Pick.{Pick}
use Rattle.thy_block.specs.declared.nvm.NvmError.{NvmError}
use Rattle.thy_block.specs.Device.{Device}
use Rattle.thy_computer.specs.declared.did.Advance.{Advance}
use Rattle.thy_computer.specs.declared.did.Advance.TheVariants as hart
use Rattle.thy_computer.specs.declared.did.Did.{Did}
use Rattle.thy_computer.specs.declared.did.Did.TheVariants.{Moved, Retired}
use Rattle.thy_computer.specs.declared.did.Row.{Row}
use Rattle.thy_computer.specs.declared.did.Stepped.{Stepped}
use Rattle.thy_layout.specs.declared.start.Start.{Start}
use Rattle.thy_computer.specs.Kind.{KindOf, Simulates}
use Rattle.thy_computer.specs.Origin.{Origin}
use Rattle.thy_computer.specs.NextActor.{Advances, actor_of}

-- what a cycle did in which a hart advances its instruction
abbrev pub did_of : Advance → Did
did_of hart.Moved = Moved
did_of (hart.Retired number) = Retired number

-- what a step reports of it: there is no stall, and the machine has not halted
abbrev pub stepped_of : Advance → Stepped
stepped_of a = record { did = did_of a; stall = None; ended = false }

-- unless the cycle was left to another actor, this holds of the result of a step that would have done the same
abbrev pub IfAdvanced : Result (Option Advance) NvmError → (Result Stepped NvmError → Type 0) → Type 0
IfAdvanced (Ok None) P = Unit {0}
IfAdvanced (Ok (Some a)) P = P (Ok (stepped_of a))
IfAdvanced (Err e) P = P (Err e)

-- at any moment of a run, no hart advances its instruction in the pick's cycle
abbrev pub IsOthersCycle : {M : Type 0} → KindOf M → Pick → M → Device → Type 0
IsOthersCycle K pick m n =
    (o : Origin) (k : ℕ) (hart : ℕ) → K.is_at o k m n
    → actor_of o pick (length n.queue) (K.view o m n) (K.pressure m) ≡ Advances hart → ⊥

-- ---- cycles in a row

-- what each of them did, in order
abbrev pub row_by : ℕ → Option ℕ → List Advance
row_by moved None = replicate moved hart.Moved
row_by moved (Some number) = replicate moved hart.Moved ++ hart.Retired number ∷ []

abbrev pub row_of : Row → List Advance
row_of row = row_by row.moved row.retired

-- From m each of these cycles is one of the machine, whatever the picks of those after the first are. They lead to next, and
-- leave the device alone
abbrev pub SimulatesRow : {M : Type 0} → KindOf M → Start → Pick → List Advance → M → M → Device → Type 0
SimulatesRow K start pick [] m next n = next ≡ m
SimulatesRow {M = M} K start pick (a ∷ rest) m next n =
    (between : M) × Simulates K start pick m between n n (Ok (stepped_of a))
    × ((later : Pick) → SimulatesRow K start later rest between next n)
