-- Which blocks the checkpoint under way has at their places already.
use Rattle.std.proofs.Common.{◌≢◌, sym, ◌∙◌, arith}
use Rattle.thy_table.specs.declared.block_entry.Pending.TheVariants.{Settled}
use Rattle.thy_control.specs.Guarded.{CopiedIsPlaced, IssuedIsPlaced}
use Rattle.thy_control.specs.State.{cell_of}
use Rattle.thy_control.proofs.CopyLemmas.{settled_by}

pub IsPlaced-copied : CopiedIsPlaced
IsPlaced-copied b c h = record { copied = h.copied; issued = λ busy. omega (arith, h.written busy) }

-- a busy page moves, and one with a block to be copied doesn't
pub IsPlaced-issued : IssuedIsPlaced
IsPlaced-issued s b t l busy less =
    record { copied = settled_by (cell_of s b).entry.pend moves; issued = λ h. less } where
      moves : (cell_of s b).entry.pend ≢ Settled → ⊥
      moves pending = (t.cells b l).of_page.busy_moves busy ((t.cells b l).pending_still pending ∙ sym ((t.cells b l).pending_home pending))
