-- A moment of a checkpoint, and what one leaves of another.
use Rattle.std.specs.Prelude.{◌≡◌, ◌⊎◌, ℕ, ◌+◌, ◌<◌, ◌≤◌, Bool, true, false, List, length, map}
use Rattle.std.specs.List.{range_with_len}
use Rattle.thy_block.specs.declared.block.Block.{Block}
use Rattle.thy_block.specs.Device.{Device, block_at, newest, HoldsNoMore}
use Rattle.thy_block.specs.Places.{commit_place}
use Rattle.thy_checkpoint.specs.Filling.{layout_at}
use Rattle.thy_layout.specs.Commit.{commit_of, epoch_of}
use Rattle.thy_layout.specs.Layout.{memory_places}
use Rattle.thy_computer.specs.Issuing.{CheckpointParts}
use Rattle.thy_scheme.specs.Calls.{OpensNone}
use Rattle.thy_checkpoint.specs.Items.{Phase, Resting, Making, Made}
use Rattle.thy_checkpoint.specs.Progress.{Progress, layout_of, slot_blocks, slot_block}
use Rattle.thy_scheme_parts.specs.Design.{DesignOf}

-- the controller is sound, the NVM has its size, and holds what it has to in this phase of the checkpoint of an epoch
pub record IsMoment {C : Type 0} (D : DesignOf C) (phase : Phase) (epoch : ℕ) (c : C) (n : Device) : Type 0 where
  pub sound : D.parts.sound c
  pub sized : length n.image ≡ (layout_at D.filling (D.filling.p c)).image_blocks
  pub stands : D.items.stands phase c
  pub holds : D.parts.holds phase epoch c n

-- no more is left to merge or to promote, and no page more
pub record LeavesPages {C : Type 0} (D : DesignOf C) (c d : C) : Type 0 where
  pub whole : D.parts.pages.promoting c ≡ false → D.parts.pages.promoting d ≡ false
  pub merges : D.parts.pages.merges_left d ≤ D.parts.pages.merges_left c
  pub promotions : D.parts.pages.promotions_left d ≤ D.parts.pages.promotions_left c

-- once the body is whole, an image has what one has that is made of this epoch
abbrev pub MakesAt : {C : Type 0} → DesignOf C → Phase → ℕ → C → List Block → Type 0
MakesAt D Made epoch c g = D.parts.makes epoch c g
MakesAt D phase epoch c g = ⊥

-- A moment leads to another: every version of memory is as it was, images have what they had, and what was at rest is so
-- still. No less is free, no page was opened, and nothing that is still to be done became more.
pub record Carries {C : Type 0} (D : DesignOf C) (epoch : ℕ) (phase : Phase) (c : C) (n : Device) (to : Phase) (d : C) (m : Device) : Type 0 where
  pub moment : IsMoment D to epoch d m
  pub same_p : D.filling.p d ≡ D.filling.p c
  pub room : (D.filling.dram d).room ≡ (D.filling.dram c).room
  pub loads : D.filling.loads d m ≡ D.filling.loads c n
  pub sealed : D.parts.sealed d m ≡ D.parts.sealed c n
  pub committed : D.parts.committed to d m ≡ D.parts.committed phase c n
  pub keeps : (g : List Block) → D.parts.keeps phase epoch c g → D.parts.keeps to epoch d g
  pub makes : (g : List Block) → MakesAt D phase epoch c g → MakesAt D to epoch d g
  pub rests : (a b : Bool) → D.parts.rests a b phase c → D.parts.rests a b to d
  pub free : D.parts.free c ≤ D.parts.free d
  pub opened : OpensNone (D.parts.open_page c) (D.parts.open_page d)
  pub owed : D.parts.owed d ≤ D.parts.owed c
  pub owed_later : D.parts.owed d + D.parts.owed_later to d ≤ D.parts.owed c + D.parts.owed_later phase c
  pub pages : LeavesPages D c d

-- with the commit the sealed version is the committed one, and the image that was made is kept
pub record Commits {C : Type 0} (D : DesignOf C) (epoch : ℕ) (c : C) (n : Device) (to : Phase) (d : C) (m : Device) : Type 0 where
  pub moment : IsMoment D to epoch d m
  pub same_p : D.filling.p d ≡ D.filling.p c
  pub room : (D.filling.dram d).room ≡ (D.filling.dram c).room
  pub loads : D.filling.loads d m ≡ D.filling.loads c n
  pub committed : D.parts.committed to d m ≡ D.parts.sealed c n
  pub keeps : (g : List Block) → D.parts.makes epoch c g → D.parts.keeps to epoch d g
  pub rests : (a b : Bool) → D.parts.rests a b Made c → D.parts.rests a b to d
  pub free : D.parts.free c ≤ D.parts.free d
  pub opened : OpensNone (D.parts.open_page c) (D.parts.open_page d)
  pub owed_later : D.parts.owed d + D.parts.owed_later to d ≤ D.parts.owed c + D.parts.owed_later Made c
  pub pages : LeavesPages D c d

-- with a seal memory is sealed as it is, for the epoch after the epoch of the image that is kept
pub record SealsTo {C : Type 0} (D : DesignOf C) (before epoch : ℕ) (c d : C) (n : Device) : Type 0 where
  pub moment : IsMoment D (Making 0) epoch d n
  pub same_p : D.filling.p d ≡ D.filling.p c
  pub dram : D.filling.dram d ≡ D.filling.dram c
  pub loads : D.filling.loads d n ≡ D.filling.loads c n
  pub sealed : D.parts.sealed d n ≡ D.filling.loads c n
  pub committed : D.parts.committed (Making 0) d n ≡ D.parts.committed Resting c n
  pub keeps : (g : List Block) → epoch ≡ epoch_of (block_at g commit_place) + 1 → D.parts.keeps Resting before c g → D.parts.keeps (Making 0) epoch d g
  pub rests : (a b : Bool) → D.parts.rests a b Resting c → D.parts.rests true a (Making 0) d
  pub free : D.parts.free c ≤ D.parts.free d
  pub opened : OpensNone (D.parts.open_page c) (D.parts.open_page d)

-- a device that gives the same to every read, and holds no more after a cut
pub record ReadsSame (n m : Device) : Type 0 where
  pub as_long : length m.image ≡ length n.image
  pub reads : (x : ℕ) → x < length n.image → newest m x ≡ newest n x
  pub no_more : HoldsNoMore n m

-- ---- the slot

-- the slot of the checkpoint under way, and where its parts are
abbrev pub slot_list : {C : Type 0} → DesignOf C → Progress → C → List Block
slot_list D e c = map (slot_block D.items e c) (range_with_len 0 (slot_blocks D.filling e))

abbrev pub parts_at : {C : Type 0} → DesignOf C → Progress → C → CheckpointParts
parts_at D e c = record {
  slot_place = (layout_of D.filling e).slot_place (commit_of e.epoch);
  slot_blocks = slot_blocks D.filling e;
  slot = slot_block D.items e c;
  memory = memory_places (layout_of D.filling e) (commit_of e.epoch) (slot_list D e c);
}

-- a place of the commit block or of that slot
abbrev pub IsOwn : {C : Type 0} → DesignOf C → Progress → ℕ → Type 0
IsOwn D e x =
    (x ≡ commit_place) ⊎ ((k : ℕ) × (k < slot_blocks D.filling e) × (x ≡ (layout_of D.filling e).slot_place (commit_of e.epoch) + k))
