-- The addresses that the effects of instructions read and write, and which of them are atomic.
use Rattle.std.specs.Prelude.{ℕ, ◌+◌, ◌≤◌, List, length}
use Rattle.thy_isa.specs.declared.state.Effect.{Effect}
use Rattle.thy_isa.specs.declared.state.Effect.TheVariants.{Next, Set, Read, Write, Reserve, Conditional, Fail, Modify, Environment, Trap}
use Rattle.thy_isa.specs.Effects.{size_of}

-- what an effect reads or writes lies within a memory of that base and size
abbrev pub IsWithin : ℕ → ℕ → Effect → Type 0
IsWithin base size (Next pc) = Unit {0}
IsWithin base size (Set rd pc v) = Unit {0}
IsWithin base size (Read rd width extend pc at) = (base ≤ at) × (at + size_of width ≤ base + size)
IsWithin base size (Write width pc at v) = (base ≤ at) × (at + size_of width ≤ base + size)
IsWithin base size (Reserve rd width pc at) = (base ≤ at) × (at + size_of width ≤ base + size)
IsWithin base size (Conditional rd width pc at v) = (base ≤ at) × (at + size_of width ≤ base + size)
IsWithin base size (Fail rd pc) = Unit {0}
IsWithin base size (Modify op rd width pc at v) = (base ≤ at) × (at + size_of width ≤ base + size)
IsWithin base size Environment = Unit {0}
IsWithin base size (Trap c) = Unit {0}

-- an effect that reads a number of some width has read at least that number of bytes
abbrev pub HasRead : Effect → List ℕ → Type 0
HasRead (Next pc) bytes = Unit {0}
HasRead (Set rd pc v) bytes = Unit {0}
HasRead (Read rd width extend pc at) bytes = size_of width ≤ length bytes
HasRead (Write width pc at v) bytes = Unit {0}
HasRead (Reserve rd width pc at) bytes = size_of width ≤ length bytes
HasRead (Conditional rd width pc at v) bytes = Unit {0}
HasRead (Fail rd pc) bytes = Unit {0}
HasRead (Modify op rd width pc at v) bytes = size_of width ≤ length bytes
HasRead Environment bytes = Unit {0}
HasRead (Trap c) bytes = Unit {0}

-- the effect of an atomic instruction, before it is known whether the machine has the instruction
abbrev pub IsAtomic : Effect → Type 0
IsAtomic (Reserve rd width pc at) = Unit {0}
IsAtomic (Conditional rd width pc at v) = Unit {0}
IsAtomic (Modify op rd width pc at v) = Unit {0}
IsAtomic e = ⊥
