use Rattle.std.proofs.Common.{ℕ, ◌<◌, subst, arith}
use Rattle.thy_block.specs.declared.parameters.Parameters.{Parameters}
use Rattle.thy_block.specs.Device.{Device}
use Rattle.thy_block.specs.Geometry.{memory_blocks}
use Rattle.thy_table.specs.declared.cell.Cell.{Cell}
use Rattle.thy_table.specs.Checkpoint.{IsCopied}
use Rattle.thy_control.specs.Guarded.{IsPlaced}
use Rattle.thy_control.specs.OverCalls.{stays_same, stays_on, placed_on}
use Rattle.thy_control.specs.State.{State, cell_of}
use Rattle.thy_control.specs.Stays.{AreCopied, CellStays, Stays}
use Rattle.thy_control.proofs.laws.what_stays_does_so_over_calls.Goals as goal

-- a block that was copied and written stays so over calls
copied_on : (c d : Cell) → CellStays c d → IsCopied c → IsCopied d
copied_on c d stays h = record {
  copied = stays.settled h.copied;
  written = λ busy. omega (arith, h.written (stays.busy_before busy), stays.issued);
}

is_placed_on : (s : State) (m : Device) (t : State) (n : Device) (b : ℕ) → Stays s m t n → b < memory_blocks s.p
    → IsPlaced b (cell_of s b) → IsPlaced b (cell_of t b)
is_placed_on s m t n b stays l placed = placed_on b (cell_of s b) (cell_of t b) (stays.cells b l) placed

-- what was copied and written of all blocks is so after calls
are_copied_on : (s : State) (m : Device) (t : State) (n : Device) → Stays s m t n → AreCopied s → AreCopied t
are_copied_on s m t n stays all b l =
    let inside : b < memory_blocks s.p = subst (λ (q : Parameters). b < memory_blocks q) stays.same_p l in
    copied_on (cell_of s b) (cell_of t b) (stays.cells b inside) (all b inside)

pub returns-clause-calls : goal.returns-clause-calls
returns-clause-calls c = (stays_same, stays_on)

pub returns-clause-copied : goal.returns-clause-copied
returns-clause-copied c = are_copied_on

pub returns-clause-placed : goal.returns-clause-placed
returns-clause-placed c = is_placed_on
