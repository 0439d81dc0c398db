-- What every call between two checkpoints keeps, one that fails too: what a cut may leave of both checkpoints, both
-- tables, and the counts of the epoch before.
use Rattle.std.specs.Prelude.{◌≡◌, ℕ, ◌<◌, ◌≤◌, true, false, length}
use Rattle.thy_block.specs.Device.{Device, newest}
use Rattle.thy_block.specs.Geometry.{memory_blocks}
use Rattle.thy_table.specs.Places.{image_blocks, IsApart}
use Rattle.thy_table.specs.declared.block_entry.Pending.TheVariants.{Settled}
use Rattle.thy_table.specs.declared.cell.Cell.{Cell}
use Rattle.thy_table.specs.Cells.{penult, target}
use Rattle.thy_table.specs.Sound.{Holds}
use Rattle.thy_table.specs.Checkpoint.{IsCopied}
use Rattle.thy_control.specs.State.{State, cell_of, penult_of, last_of, reads}
use Rattle.thy_control.specs.CheckpointTables.{tables0, tables1}
use Rattle.thy_control.specs.Guarded.{LeavesGuarded}

-- nothing is left to copy or to write of any block
abbrev pub AreCopied : State → Type 0
AreCopied s = (b : ℕ) → b < memory_blocks s.p → IsCopied (cell_of s b)

-- what holds of the places of every block
abbrev pub HoldAll : State → Device → Type 0
HoldAll s n = (b : ℕ) → b < memory_blocks s.p → Holds (reads s n) (cell_of s b)

-- of one block: its place in both checkpoints; and what was copied or written of it is so still
pub record CellStays (c d : Cell) : Type 0 where
  pub penult_same : penult d ≡ penult c
  pub target_same : target d ≡ target c
  pub settled : c.entry.pend ≡ Settled → d.entry.pend ≡ Settled
  pub busy_before : d.page.busy ≡ true → c.page.busy ≡ true
  pub issued : c.page.issued ≤ d.page.issued

-- if the places held what they have to, they do so still, and the version of the checkpoint under way reads as before
pub record StaysHeld (s : State) (m : Device) (t : State) (n : Device) : Type 0 where
  pub holds : HoldAll t n
  pub last_same : (b : ℕ) → b < memory_blocks s.p → last_of t n b ≡ last_of s m b

-- a fact of two states is kept if the places held what they have to
abbrev pub WhereHeld : (State → Device → State → Device → Type 0) → State → Device → State → Device → Type 0
WhereHeld kept s m t n = HoldAll s m → kept s m t n

-- while the NVM is up, the committed checkpoint and all that is apart from memory's places read as before
pub record StaysUp (s : State) (m : Device) (t : State) (n : Device) : Type 0 where
  pub apart_reads : (x : ℕ) → IsApart s.p x → x < image_blocks s.p → newest n x ≡ newest m x
  pub penult_same : (b : ℕ) → b < memory_blocks s.p → penult_of t n b ≡ penult_of s m b
  pub held : HoldAll s m → StaysHeld s m t n

pub record Stays (s : State) (m : Device) (t : State) (n : Device) : Type 0 where
  pub as_long : length n.image ≡ length m.image
  pub same_p : t.p ≡ s.p
  pub same_way : t.under_way ≡ s.under_way
  pub down : m.down ≡ true → n.down ≡ true
  pub tables0_same : tables0 t ≡ tables0 s
  pub tables1_same : tables1 t ≡ tables1 s
  -- how many stores each page had in the epoch before
  pub lasts_same : t.counts.lasts ≡ s.counts.lasts
  pub cells : (b : ℕ) → b < memory_blocks s.p → CellStays (cell_of s b) (cell_of t b)
  pub guarded : LeavesGuarded s m n
  pub up : n.down ≡ false → StaysUp s m t n
