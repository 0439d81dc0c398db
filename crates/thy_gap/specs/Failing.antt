-- Before and after a move that fails.
use Rattle.std.specs.Prelude.{◌≡◌, ◌≢◌, ℕ, ◌+◌, true, false, [], length}
use Rattle.thy_block.specs.declared.block.Block.{Block}
use Rattle.thy_block.specs.Device.{Device, HoldsNoMore, CrashAt, block_at, with_queued}
use Rattle.thy_gap.specs.declared.registers.Registers.{Registers}
use Rattle.thy_gap.specs.Lines.{IsWhole, registers_block}
use Rattle.thy_gap.specs.Levelled.{IsOfRegisters}

-- a device after a barrier, with the registers in hand, whose blocks land whole
pub record IsAtRest (r : Registers) (n : Device) : Type 0 where
  pub whole : IsWhole r
  pub blocks : length n.image ≡ r.lines + 2
  pub up : n.down ≡ false
  pub empty : n.queue ≡ []
  pub lands_whole : n.whole ≡ true
  pub in_hand : block_at n.image (r.lines + 1) ≡ registers_block r

-- after a write and a barrier of which one failed: no place may hold more than if the block had been queued
pub record HasFailedToPut (at : ℕ) (block : Block) (old new : Device) : Type 0 where
  pub down : new.down ≡ true
  pub no_more : HoldsNoMore (with_queued at block old) new

-- after a move that failed: no line may hold anything new, and registers that have moved imply that the line was
-- copied
pub record HasFailedToMove (r : Registers) (old new : Device) : Type 0 where
  pub down : new.down ≡ true
  pub elsewhere : (x : ℕ) (b : Block) → x ≢ r.gap → x ≢ r.lines + 1
      → CrashAt new x b → CrashAt old x b
  pub registers : (b : Block) → CrashAt new (r.lines + 1) b → IsOfRegisters r new b
