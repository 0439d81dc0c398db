-- Part of the claim.
-- The numbers of a machine, their ranges, and the sizes that follow from them.
use Rattle.std.specs.Prelude.{ℕ, ◌+◌, ◌-◌, ◌*◌, ◌^◌, List, [], ◌∷◌, Option, Some, None, Result, Ok, Err}
use Rattle.thy_block.specs.declared.parameters.Parameters.{Parameters}
use Rattle.thy_block.specs.Ranges.{AreWithin, Bounded, bounded, below, at_most, between, multiple_of, divisor_of, both}

-- The numbers that have a range, each with it: memory; epochs and the two tables; cache and queues; the thresholds of
-- store counts; the limit and the harts. The powers of two up to 64 are the divisors of 64.
abbrev pub bounds_of : Parameters → List Bounded
bounds_of p =
    bounded p.base (both (multiple_of 4096) (below (2 ^ 62)))
    ∷ bounded p.pages (between 8 65536)
    ∷ bounded p.console (both (between 1 16) (below p.pages))
    ∷ bounded p.epoch (between 1 1000000)
    ∷ bounded p.btt (both (between 8 4096) (multiple_of 8))
    ∷ bounded p.ptt (both (between 8 512) (multiple_of 8))
    ∷ bounded p.sets (both (between 1 64) (divisor_of 64))
    ∷ bounded p.ways (between 1 8)
    ∷ bounded p.nvmq (between 1 64)
    ∷ bounded p.dramq (between 1 64)
    ∷ bounded p.high (at_most 63)
    ∷ bounded p.low (at_most p.high)
    ∷ bounded p.limit (between 1 (10 ^ 12))
    ∷ bounded p.harts (between 1 2)
    ∷ []

-- each number of the parameters is in its range; the seed of the schedule may be any
abbrev pub IsInRange : Parameters → Type 0
IsInRange p = AreWithin (bounds_of p)

-- the numbers, or the fault that there is
abbrev pub geometry_or : {Fault : Type 0} → Option Fault → Parameters → Result Parameters Fault
geometry_or None p = Ok p
geometry_or (Some fault) p = Err fault

-- how many blocks memory has
abbrev pub memory_blocks : Parameters → ℕ
memory_blocks p = 64 * p.pages

-- how many bytes the program can address
abbrev pub program_size : Parameters → ℕ
program_size p = 4096 * (p.pages - p.console)

-- how many bytes the console holds
abbrev pub console_room : Parameters → ℕ
console_room p = 4096 * p.console

-- the stack pointer at the start
abbrev pub stack_top : Parameters → ℕ
stack_top p = p.base + program_size p - 256
