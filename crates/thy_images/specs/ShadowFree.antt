-- Which writes leave a checkpoint of shadow paging alone.
use Rattle.std.specs.Prelude.{◌≢◌, ℕ, ◌+◌, ◌<◌, List, ◌∷◌, Contains, Option}
use Rattle.thy_block.specs.declared.block.Block.{Block}
use Rattle.thy_block.specs.declared.parameters.Parameters.{Parameters}
use Rattle.thy_block.specs.Places.{commit_place}
use Rattle.thy_layout.specs.Entries.{Lists}
use Rattle.thy_layout.specs.Layout.{looked_by}
use Rattle.thy_layout.specs.Commit.{slot_of_epoch}
use Rattle.thy_images.specs.ShadowPlaces.{slot_blocks, slot_place, pool_pages, pool_place}
use Rattle.thy_images.specs.ShadowLayout.{shadow_layouts}
use Rattle.thy_images.specs.ShadowCheckpointParts.{HoldsCheckpoint}

-- what a write is for: block k of slot s, or block c of page q of the pool
pub data Target : Type 0 where
  SlotBlock : (s k : ℕ) → Target
  PoolBlock : (q c : ℕ) → Target

-- the number of the block that a target's write goes to
abbrev pub target_place : Parameters → Target → ℕ
target_place p (SlotBlock s k) = slot_place p s + k
target_place p (PoolBlock q c) = pool_place p q c

-- the target lies within the image
abbrev pub IsTarget : Parameters → Target → Type 0
IsTarget p (SlotBlock s k) = (s < 2) × (k < slot_blocks p)
IsTarget p (PoolBlock q c) = (q < pool_pages p) × (c < 64)

-- the checkpoint of an epoch with this map has nothing there: another slot, or a page of the pool that the map does
-- not list
abbrev pub IsFree : ℕ → List (Option ℕ) → Target → Type 0
IsFree epoch table (SlotBlock s k) = s ≢ slot_of_epoch epoch
IsFree epoch table (PoolBlock q c) = (x : ℕ) → Lists table x q → ⊥

-- a free block is none of the blocks that determine what the image of that checkpoint means
abbrev pub FreeIsNotLooked : Type 0
FreeIsNotLooked =
    (p : Parameters) (image : List Block) (epoch : ℕ) (table : List (Option ℕ)) (x : Target)
    → HoldsCheckpoint p image epoch table → IsTarget p x → IsFree epoch table x
    → ¬ Contains (commit_place ∷ looked_by (shadow_layouts p) image) (target_place p x)
