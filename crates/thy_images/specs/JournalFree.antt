-- Which writes leave a checkpoint of the journal alone.
use Rattle.std.specs.Prelude.{◌≢◌, ℕ, ◌+◌, ◌<◌, List, ◌∷◌, Contains, Option}
use Rattle.thy_block.specs.declared.block.Block.{Block}
use Rattle.thy_block.specs.declared.parameters.Parameters.{Parameters}
use Rattle.thy_block.specs.Geometry.{memory_blocks}
use Rattle.thy_block.specs.Places.{commit_place}
use Rattle.thy_layout.specs.Entries.{Lists}
use Rattle.thy_layout.specs.Layout.{looked_by}
use Rattle.thy_layout.specs.Commit.{slot_of_epoch}
use Rattle.thy_images.specs.JournalPlaces.{slot_blocks, slot_place, home_place, journal_place}
use Rattle.thy_images.specs.JournalLayout.{journal_layouts}
use Rattle.thy_images.specs.JournalCheckpointParts.{HoldsCheckpoint}

-- what a write is for: block k of slot s, the block of entry i in the journal of slot s, or the home of block b
pub data Target : Type 0 where
  SlotBlock : (s k : ℕ) → Target
  JournalBlock : (s i : ℕ) → Target
  HomeBlock : (b : ℕ) → Target

-- the number of the block that a target's write goes to
abbrev pub target_place : Parameters → Target → ℕ
target_place p (SlotBlock s k) = slot_place p s + k
target_place p (JournalBlock s i) = journal_place p s i
target_place p (HomeBlock b) = home_place p b

-- the target lies within the image
abbrev pub IsTarget : Parameters → Target → Type 0
IsTarget p (SlotBlock s k) = (s < 2) × (k < slot_blocks p)
IsTarget p (JournalBlock s i) = (s < 2) × (i < p.btt)
IsTarget p (HomeBlock b) = b < memory_blocks p

-- the checkpoint of an epoch with this table has nothing there: another slot, its journal, or the home of a block that is
-- listed
abbrev pub IsFree : ℕ → List (Option ℕ) → Target → Type 0
IsFree epoch table (SlotBlock s k) = s ≢ slot_of_epoch epoch
IsFree epoch table (JournalBlock s i) = s ≢ slot_of_epoch epoch
IsFree epoch table (HomeBlock b) = (i : ℕ) × Lists table i b

-- a target where the checkpoint has nothing is none of the blocks that determine what the checkpoint's image means
abbrev pub FreeIsNotLooked : Type 0
FreeIsNotLooked =
    (p : Parameters) (image : List Block) (epoch : ℕ) (table : List (Option ℕ)) (x : Target)
    → HoldsCheckpoint p image epoch table → IsTarget p x → IsFree epoch table x
    → ¬ Contains (commit_place ∷ looked_by (journal_layouts p) image) (target_place p x)
