-- Part of the claim.
-- Which writes leave a checkpoint alone, and at which places memory is read.
use Rattle.std.specs.Prelude.{◌≡◌, ◌≢◌, ℕ, ◌+◌, ◌<◌, false, List, ◌∷◌, length, map, Contains, None}
use Rattle.thy_block.specs.declared.block.Block.{Block}
use Rattle.thy_block.specs.declared.parameters.Parameters.{Parameters}
use Rattle.thy_layout.specs.declared.layout_version.LayoutVersion.{LayoutVersion}
use Rattle.thy_layout.specs.declared.layout_version.LayoutVersion.TheVariants.{VersionOne, VersionTwo}
use Rattle.thy_table.specs.declared.place.Place.{Place}
use Rattle.thy_table.specs.declared.place.Place.TheVariants.{Home, AlternateBlock, AlternatePage}
use Rattle.thy_block.specs.Device.{Device, block_at, newest}
use Rattle.thy_block.specs.Geometry.{memory_blocks}
use Rattle.thy_block.specs.Places.{commit_place}
use Rattle.thy_table.specs.Places.{in_dram, number_of, IsPlace, slot_blocks, slot_place}
use Rattle.thy_block.specs.Store.{page_of}
use Rattle.thy_layout.specs.Commit.{epoch_of, version_of, slot_of_epoch}
use Rattle.thy_layout.specs.Layout.{looked_by}
use Rattle.thy_record.specs.ThynvmLayouts.{thynvm_layouts}
use Rattle.thy_record.specs.Images.{slot_in, memory_numbers}
use Rattle.thy_record.specs.Number.{scheme_number}
use Rattle.thy_record.specs.Slots.{tables_in}
use Rattle.thy_layout.specs.Entries.{entry_at, Lists}
use Rattle.thy_record.specs.Tables.{Tables, place_of, IsTables}

-- ---- which writes leave a checkpoint alone

-- what a checkpoint's write is for: block k of slot s of version 2, or a place of the NVM
pub data Target : Type 0 where
  SlotBlock : (s k : ℕ) → Target
  PlaceBlock : (x : Place) → Target

-- the number of the block that a target's write goes to
abbrev pub target_number : Parameters → Target → ℕ
target_number p (SlotBlock s k) = slot_place p s + k
target_number p (PlaceBlock x) = number_of p x

-- the target lies in the NVM
abbrev pub IsTarget : Parameters → Target → Type 0
IsTarget p (SlotBlock s k) = (s < 2) × (k < slot_blocks p)
IsTarget p (PlaceBlock x) = IsPlace p x × (in_dram x ≡ false)

-- with these tables no block of memory is kept in a place
pub record IsUnused (p : Parameters) (t : Tables) (x : Place) : Type 0 where
  pub none : (b : ℕ) → b < memory_blocks p → place_of t b ≢ x

-- the checkpoint of an epoch with these tables has nothing there: another slot, also where its own is of version 1, or a
-- place that it does not use (places 3 and 4 in docs/CONTROLLER.md)
abbrev pub IsFree : Parameters → LayoutVersion → ℕ → Tables → Target → Type 0
IsFree p VersionOne epoch t (SlotBlock s k) = Unit {0}
IsFree p VersionTwo epoch t (SlotBlock s k) = s ≢ slot_of_epoch epoch
IsFree p version epoch t (PlaceBlock x) = IsUnused p t x

-- the home of a block that is listed, or whose page is, is not used
abbrev pub ListedHomeIsUnused : Type 0
ListedHomeIsUnused = (p : Parameters) (t : Tables) (i b : ℕ) → Lists t.btt i b → IsUnused p t (Home b)

abbrev pub PagedHomeIsUnused : Type 0
PagedHomeIsUnused = (p : Parameters) (t : Tables) (j b : ℕ) → Lists t.ptt j (page_of b) → IsUnused p t (Home b)

-- what an empty entry owns is not used
abbrev pub EmptyEntryIsUnused : Type 0
EmptyEntryIsUnused = (p : Parameters) (t : Tables) (i : ℕ) → entry_at t.btt i ≡ None → IsUnused p t (AlternateBlock i)

abbrev pub EmptyPageIsUnused : Type 0
EmptyPageIsUnused = (p : Parameters) (t : Tables) (j k : ℕ) → entry_at t.ptt j ≡ None → IsUnused p t (AlternatePage j k)

-- an image has the checkpoint of this epoch, in a slot of this version, with these tables
pub record HoldsCheckpoint (p : Parameters) (image : List Block) (version : LayoutVersion) (epoch : ℕ) (t : Tables) : Type 0 where
  pub of_version : version_of scheme_number p (block_at image commit_place) ≡ version
  pub of_epoch : epoch_of (block_at image commit_place) ≡ epoch
  pub tables : tables_in p (slot_in p image) ≡ t
  pub whole : IsTables p t

-- what is free for an image's checkpoint is none of the blocks that determine what the image means
abbrev pub FreeIsNotLooked : Type 0
FreeIsNotLooked =
    (p : Parameters) (image : List Block) (version : LayoutVersion) (epoch : ℕ) (t : Tables) (x : Target)
    → HoldsCheckpoint p image version epoch t → IsTarget p x → IsFree p version epoch t x
    → ¬ Contains (commit_place ∷ looked_by (thynvm_layouts p) image) (target_number p x)

-- ---- how memory is read

-- memory's blocks as a device's reads give them, at their places by tables
abbrev pub memory_read : Parameters → Tables → Device → List Block
memory_read p t n = map (newest n) (memory_numbers p t)

-- a device has each of these blocks of memory at its place by tables
pub record HasMemory (p : Parameters) (t : Tables) (n : Device) (memory : List Block) : Type 0 where
  pub as_long : length memory ≡ memory_blocks p
  pub each : (b : ℕ) → b < memory_blocks p → newest n (number_of p (place_of t b)) ≡ block_at memory b

-- if each block of memory is at its place, memory, read through the tables, is these blocks
abbrev pub PlacedIsMemory : Type 0
PlacedIsMemory =
    (p : Parameters) (t : Tables) (n : Device) (memory : List Block) → HasMemory p t n memory → memory_read p t n ≡ memory

-- if memory, read through the tables, is these blocks, each is at its place
abbrev pub MemoryIsPlaced : Type 0
MemoryIsPlaced =
    (p : Parameters) (t : Tables) (n : Device) (memory : List Block) → memory_read p t n ≡ memory → HasMemory p t n memory
