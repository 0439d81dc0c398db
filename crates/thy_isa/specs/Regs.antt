-- Part of the claim.
-- The integer registers, as a list of 32 numbers.
use Rattle.std.specs.Prelude.{ℕ, List, ◌==◌, if◌then◌else◌, slice_index, slice_set}

-- what register r reads as: register 0 is 0
abbrev pub reg_at : List ℕ → ℕ → ℕ
reg_at regs r = if r == 0 then 0 else slice_index regs r

-- the registers after v is written to register r: register 0 stays
abbrev pub regs_with : List ℕ → ℕ → ℕ → List ℕ
regs_with regs r v = if r == 0 then regs else slice_set regs r v
