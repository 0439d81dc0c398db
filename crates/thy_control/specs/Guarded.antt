-- What a cut may leave of both checkpoints stays, whether or not a call failed.
use Rattle.std.specs.Prelude.{◌≡◌, ◌≢◌, ℕ, ◌<◌, ◌≤◌, ◌%◌, true}
use Rattle.thy_block.specs.Device.{Device}
use Rattle.thy_block.specs.Geometry.{memory_blocks}
use Rattle.thy_table.specs.Places.{number_of, first_home, blocks_one, IsApart}
use Rattle.thy_table.specs.Devices.{NoMoreAt}
use Rattle.thy_table.specs.declared.block_entry.Pending.TheVariants.{Settled}
use Rattle.thy_table.specs.declared.cell.Cell.{Cell}
use Rattle.thy_table.specs.Cells.{penult, target}
use Rattle.thy_table.specs.Checkpoint.{IsCopied}
use Rattle.thy_control.specs.State.{State, AreSoundTables, cell_of}

-- the checkpoint under way has block b at its place already: it is copied, and if its page is busy, it was issued
pub record IsPlaced (b : ℕ) (c : Cell) : Type 0 where
  pub copied : c.entry.pend ≡ Settled
  pub issued : c.page.busy ≡ true → b % 64 < c.page.issued

-- nothing new is possible apart from memory's places, at the places of the committed checkpoint, and at the place of
-- each block that the checkpoint under way has there already
pub record LeavesGuarded (s : State) (m n : Device) : Type 0 where
  pub apart : (x : ℕ) → IsApart s.p x → NoMoreAt x m n
  pub old : (b : ℕ) → b < memory_blocks s.p → NoMoreAt (number_of s.p (penult (cell_of s b))) m n
  pub next : (b : ℕ) → b < memory_blocks s.p → IsPlaced b (cell_of s b)
      → NoMoreAt (number_of s.p (target (cell_of s b))) m n

-- a place of the NVM, by its number, is none of these
pub record IsFree (s : State) (x : ℕ) : Type 0 where
  pub inside : first_home s.p ≤ x
  pub before : x < blocks_one s.p
  pub old : (b : ℕ) → b < memory_blocks s.p → number_of s.p (penult (cell_of s b)) ≢ x
  pub next : (b : ℕ) → b < memory_blocks s.p → IsPlaced b (cell_of s b) → number_of s.p (target (cell_of s b)) ≢ x

-- a block is at its place once nothing is left of it, and if its page is busy once it was issued
abbrev pub CopiedIsPlaced : Type 0
CopiedIsPlaced = (b : ℕ) (c : Cell) → IsCopied c → IsPlaced b c

abbrev pub IssuedIsPlaced : Type 0
IssuedIsPlaced =
    (s : State) (b : ℕ) → AreSoundTables s → b < memory_blocks s.p
    → (cell_of s b).page.busy ≡ true → b % 64 < (cell_of s b).page.issued → IsPlaced b (cell_of s b)
