-- What holds of the layouts of every scheme.
use Rattle.std.specs.Prelude.{◌≡◌, ◌≢◌, ℕ, ◌+◌, ◌<◌, ◌≤◌, true, List, None}
use Rattle.thy_block.specs.declared.block.Block.{Block}
use Rattle.thy_block.specs.declared.parameters.Parameters.{Parameters}
use Rattle.thy_block.specs.Geometry.{memory_blocks}
use Rattle.thy_block.specs.Places.{record_blocks}
use Rattle.thy_layout.specs.Layout.{Layout, Layouts, is_long}
use Rattle.thy_layout.specs.Slots.{cpu_fault}

-- a slot has no fault, with epochs and counts below some ceiling
pub record Fits (l : Layout) (commit : Block) (slot : List Block) : Type 0 where
  pub ceiling : ℕ
  pub faultless : l.slot_bad ceiling commit slot ≡ None

-- by a slot without a fault memory's blocks are after the commit block, in every image of the layout's length, not in
-- the slot, and each at a place of its own
pub record HasPlaces (l : Layout) (commit : Block) (slot : List Block) : Type 0 where
  pub behind : (b : ℕ) → b < memory_blocks l.p → 2 ≤ l.place commit slot b
  pub inside : (b n : ℕ) → b < memory_blocks l.p → is_long l commit n ≡ true → l.place commit slot b < n
  pub apart : (b k : ℕ) → b < memory_blocks l.p → k < l.slot_blocks commit → l.place commit slot b ≢ l.slot_place commit + k
  pub once : (a b : ℕ) → a < memory_blocks l.p → b < memory_blocks l.p → l.place commit slot a ≡ l.place commit slot b → a ≡ b

-- a slot has the processor's record, and at most the blocks that the layout says; it lies after the commit block, in
-- every image of the layout's length
pub record HasSlot (l : Layout) (commit : Block) : Type 0 where
  pub record_inside : record_blocks l.p ≤ l.slot_blocks commit
  pub most : l.slot_blocks commit ≤ l.most_slot
  pub behind : 2 ≤ l.slot_place commit
  pub inside : (n : ℕ) → is_long l commit n ≡ true → l.slot_place commit + l.slot_blocks commit ≤ n

-- A layout is of its geometry, the scheme's number is below 256, slot and memory have places, and no image of an older form is
-- longer. A slot without a fault has a processor without one, and no fault below a higher ceiling.
pub record AreLayouts (layouts : Layouts) : Type 0 where
  pub of : (p : Parameters) → (layouts p).p ≡ p
  pub number : (p : Parameters) → (layouts p).scheme < 256
  pub slot : (p : Parameters) (commit : Block) → HasSlot (layouts p) commit
  pub memory : (p : Parameters) (commit : Block) (slot : List Block)
      → Fits (layouts p) commit slot → HasPlaces (layouts p) commit slot
  pub longest : (p : Parameters) (commit : Block) (n : ℕ) → is_long (layouts p) commit n ≡ true → n ≤ (layouts p).image_blocks
  pub cpu : (p : Parameters) (ceiling : ℕ) (commit : Block) (slot : List Block)
      → (layouts p).slot_bad ceiling commit slot ≡ None → cpu_fault (layouts p).p ceiling slot ≡ None
  pub higher : (p : Parameters) (low high : ℕ) (commit : Block) (slot : List Block) → low ≤ high
      → (layouts p).slot_bad low commit slot ≡ None → (layouts p).slot_bad high commit slot ≡ None
