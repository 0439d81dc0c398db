-- Part of the claim.
-- What a boot fills: a controller, with the checkpoint of a layout.
use Rattle.std.specs.Prelude.{◌≡◌, ◌≢◌, ℕ, ◌+◌, ◌<◌, ◌≤◌, List, [], length, map, Option, Some, None}
use Rattle.std.specs.List.{range_with_len}
use Rattle.thy_block.specs.declared.block.Block.{Block}
use Rattle.thy_block.specs.declared.parameters.Parameters.{Parameters}
use Rattle.thy_block.specs.Device.{Device, block_at, newest}
use Rattle.thy_block.specs.Places.{commit_place}
use Rattle.thy_dram.specs.Contents.{Contents}
use Rattle.thy_isa.specs.Step.{State, cpu_of}
use Rattle.thy_layout.specs.declared.layout_version.LayoutVersion.TheVariants.{VersionOne}
use Rattle.thy_layout.specs.AreLayouts.{AreLayouts}
use Rattle.thy_layout.specs.Commit.{commit_of, epoch_of, version_of}
use Rattle.thy_layout.specs.Cpu.{cpu_of_record}
use Rattle.thy_layout.specs.Header.{header_of}
use Rattle.thy_layout.specs.Layout.{Layout, Layouts, memory_places, slot_in, memory_in}
use Rattle.thy_computer.specs.Dram.{ActsOnDram}
use Rattle.thy_computer.specs.Safe.{ceiling}
use Rattle.thy_computer.specs.Issuing.{CheckpointParts}
use Rattle.thy_checkpoint.specs.Start.{CanStart, start_blocks}

-- what controllers of a type mean, and what they show, while a boot fills them
pub record FillingOf (C : Type 0) : Type 1 where
  -- how images are laid out
  pub layouts : Layouts
  -- the geometry that a controller is of, what its DRAM holds, and the controller once the oldest write there landed
  pub p : C → Parameters
  pub dram : C → Contents
  pub drained : C → C
  -- power has just come on over a controller, and it lists nothing
  pub fresh : C → Type 0
  -- a controller lists the checkpoint that has this commit block and this slot
  pub lists : Block → List Block → C → Type 0
  -- over a device, all that has to be filled below a position is; and all of it is
  pub filled : C → Device → ℕ → Type 0
  pub whole : C → Device → Type 0
  -- by commit block and slot, the first position from one on that has to be filled, and the most positions
  pub next_fill : Parameters → Block → List Block → ℕ → Option ℕ
  pub most_fills : Parameters → ℕ
  -- by commit block, the place that filling a position reads, and the controller with the block that it read
  pub fill_place : C → Block → ℕ → ℕ
  pub with_fill : Block → ℕ → Block → C → C
  -- what listing and filling leave of a controller
  pub keeps : C → C → Type 0
  -- what a load of each block of memory gives
  pub loads : C → Device → List Block
  -- block k of the slot that is written of a start if there is no checkpoint
  pub first_slot : Parameters → State → ℕ → Block

-- the layout of a run's own images
abbrev pub layout_at : {C : Type 0} → FillingOf C → Parameters → Layout
layout_at F p = F.layouts p

-- what a start makes of an empty NVM: the parts of its checkpoint, of epoch 0, with header and commit block
pub record First : Type 0 where
  pub header : Block
  pub commit : Block
  pub parts : CheckpointParts
  pub memory : List Block

-- the slot of a start's checkpoint
abbrev pub first_slot_of : {C : Type 0} → FillingOf C → Parameters → State → List Block
first_slot_of F p s = map (F.first_slot p s) (range_with_len 0 ((layout_at F p).slot_blocks (commit_of 0)))

abbrev pub first_by : {C : Type 0} → FillingOf C → Parameters → State → First
first_by F p s = record {
  header = header_of (layout_at F p).scheme p;
  commit = commit_of 0;
  parts = record {
    slot_place = (layout_at F p).slot_place (commit_of 0);
    slot_blocks = (layout_at F p).slot_blocks (commit_of 0);
    slot = F.first_slot p s;
    memory = memory_places (layout_at F p) (commit_of 0) (first_slot_of F p s);
  };
  memory = start_blocks p s;
}

-- listing and filling leave the rest of a controller
pub record IsLeft {C : Type 0} (F : FillingOf C) (old new : C) : Type 0 where
  pub same_p : F.p new ≡ F.p old
  pub same_dram : F.dram new ≡ F.dram old
  pub keeps : F.keeps old new

-- a controller that listed nothing lists the checkpoint of a slot, and is else as it was
pub record ListsOn {C : Type 0} (F : FillingOf C) (commit : Block) (slot : List Block) (old new : C) : Type 0 where
  pub lists : F.lists commit slot new
  pub left : IsLeft F old new

-- a position is filled next: the controller lists a slot by which it has to be
pub record IsNext {C : Type 0} (F : FillingOf C) (commit : Block) (c : C) (k : ℕ) : Type 0 where
  pub slot : List Block
  pub lists : F.lists commit slot c
  pub next : F.next_fill (F.p c) commit slot k ≡ Some k

-- ---- a checkpoint of an older form

-- the commit block of the same epoch that is written today
abbrev pub anew : Block → Block
anew commit = commit_of (epoch_of commit)

-- a slot of this many blocks: the blocks of another one, and zeros after them
abbrev pub padded : ℕ → List Block → List Block
padded count slot = map (block_at slot) (range_with_len 0 count)

-- the slot that is written for it today
abbrev pub slot_anew : Layout → Block → List Block → List Block
slot_anew l commit slot = padded (l.slot_blocks (anew commit)) slot

-- a checkpoint is of an older form, by its commit block; its slot is whole, and has no fault
pub record IsOlder (l : Layout) (p : Parameters) (commit : Block) (slot : List Block) : Type 0 where
  pub version : version_of l.scheme p commit ≡ VersionOne
  pub below : epoch_of commit < ceiling
  pub long : length slot ≡ l.slot_blocks commit
  pub faultless : l.slot_bad ceiling commit slot ≡ None

-- a device reads as another does, but for the commit block and the slot of this one
pub record ReadsAlike (l : Layout) (commit : Block) (n m : Device) : Type 0 where
  pub each : (x : ℕ) → x ≢ commit_place → x < l.image_blocks
      → ((k : ℕ) → k < l.slot_blocks commit → x ≢ l.slot_place commit + k) → newest m x ≡ newest n x

-- What is written again has no fault, and means the same processor and the same places of memory. It shares no block with the
-- slot that was found. A controller that lists the one lists the other, and has what it has while all else reads alike.
pub record IsTheSame {C : Type 0} (F : FillingOf C) (p : Parameters) (commit : Block) (slot : List Block) : Type 0 where
  pub faultless : (layout_at F p).slot_bad ceiling (anew commit) (slot_anew (layout_at F p) commit slot) ≡ None
  pub cpu : cpu_of_record p (slot_anew (layout_at F p) commit slot) ≡ cpu_of_record p slot
  pub places : memory_places (layout_at F p) (anew commit) (slot_anew (layout_at F p) commit slot) ≡ memory_places (layout_at F p) commit slot
  pub apart : (i k : ℕ) → i < (layout_at F p).slot_blocks commit → k < (layout_at F p).slot_blocks (anew commit)
      → (layout_at F p).slot_place commit + i ≢ (layout_at F p).slot_place (anew commit) + k
  pub lists : (c : C) → F.p c ≡ p → F.lists commit slot c → F.lists (anew commit) (slot_anew (layout_at F p) commit slot) c
  pub still : (c : C) (n m : Device)
      → F.p c ≡ p → F.lists commit slot c → length n.image ≡ (layout_at F p).image_blocks → ReadsAlike (layout_at F p) (anew commit) n m
      → F.whole c n → F.whole c m × (F.loads c m ≡ F.loads c n)

-- what holds of every controller that a boot fills
pub record IsFilling {C : Type 0} (F : FillingOf C) : Type 0 where
  -- the layouts are lawful
  pub laid : AreLayouts F.layouts
  -- nothing has to be filled below the first position
  pub begins : (c : C) (n : Device) (commit : Block) (slot : List Block) → F.lists commit slot c → F.filled c n 0
  -- a position that is next is there, and reads a place of the image; those that were passed over need nothing
  pub next : (c : C) (n : Device) (commit : Block) (slot : List Block) (from k : ℕ)
      → F.lists commit slot c → F.filled c n from → F.next_fill (F.p c) commit slot from ≡ Some k
      → (k < F.most_fills (F.p c)) × (F.fill_place c commit k < (layout_at F (F.p c)).image_blocks) × F.filled c n k
      × (F.next_fill (F.p c) commit slot k ≡ Some k)
  -- positions are numbers below the most, whatever the controller
  pub above : (p : Parameters) (commit : Block) (slot : List Block) (from k : ℕ)
      → F.next_fill p commit slot from ≡ Some k → (from ≤ k) × (k < F.most_fills p)
  -- over the image that has this commit block, filling it lists the same, and fills it
  pub fills : (c : C) (n : Device) (commit : Block) (slot : List Block) (k : ℕ)
      → F.lists commit slot c → F.filled c n k → F.next_fill (F.p c) commit slot k ≡ Some k
      → n.queue ≡ [] → length n.image ≡ (layout_at F (F.p c)).image_blocks → block_at n.image commit_place ≡ commit
      → F.lists commit slot (F.with_fill commit k (newest n (F.fill_place c commit k)) c)
      × F.filled (F.with_fill commit k (newest n (F.fill_place c commit k)) c) n (k + 1)
      × (F.p (F.with_fill commit k (newest n (F.fill_place c commit k)) c) ≡ F.p c)
  -- filling queues one write of the DRAM at most
  pub fill_acts : (c : C) (n : Device) (commit : Block) (k : ℕ)
      → ActsOnDram n n (F.dram c) (F.dram (F.with_fill commit k (newest n (F.fill_place c commit k)) c))
  pub fill_keeps : (c : C) (commit : Block) (k : ℕ) (block : Block) → F.keeps c (F.with_fill commit k block c)
  pub same_keeps : (c : C) → F.keeps c c
  -- with none left, all is filled, and memory is the image's
  pub ends : (c : C) (n : Device) (commit : Block) (slot : List Block) (from : ℕ)
      → F.lists commit slot c → F.filled c n from → F.next_fill (F.p c) commit slot from ≡ None
      → n.queue ≡ [] → length n.image ≡ (layout_at F (F.p c)).image_blocks → block_at n.image commit_place ≡ commit
      → slot_in (layout_at F (F.p c)) n.image ≡ slot
      → F.whole c n × (F.loads c n ≡ memory_in (layout_at F (F.p c)) n.image)
  -- a checkpoint of an older form is the same if it is written again
  pub renews : (p : Parameters) (commit : Block) (slot : List Block) → IsOlder (layout_at F p) p commit slot → IsTheSame F p commit slot
  -- a slot is listed in one way
  pub lists_once : (c d e : C) (commit : Block) (slot : List Block) → ListsOn F commit slot c d → ListsOn F commit slot c e → d ≡ e
  -- a controller keeps what holds of it if the oldest write of its DRAM lands
  pub drain_p : (c : C) → F.p (F.drained c) ≡ F.p c
  pub drain_fresh : (c : C) → F.fresh c → F.fresh (F.drained c)
  pub drain_lists : (c : C) (commit : Block) (slot : List Block) → F.lists commit slot c → F.lists commit slot (F.drained c)
  pub drain_filled : (c : C) (n : Device) (k : ℕ) → F.filled c n k → F.filled (F.drained c) n k
  pub drain_whole : (c : C) (n : Device) → F.whole c n → F.whole (F.drained c) n
  pub drain_loads : (c : C) (n : Device) → F.loads (F.drained c) n ≡ F.loads c n
  -- the slot of a start has no fault, and the start's processor
  pub first_fits : (p : Parameters) (s : State) → CanStart p s
      → (layout_at F p).slot_bad ceiling (commit_of 0) (first_slot_of F p s) ≡ None
  pub first_cpu : (p : Parameters) (s : State) → CanStart p s → cpu_of_record p (first_slot_of F p s) ≡ cpu_of s
  -- a controller that lists nothing has memory in the places to which a start writes it
  pub first_loads : (c : C) (n : Device) (s : State) → F.fresh c → n.queue ≡ []
      → F.loads c n ≡ map (newest n) (first_by F (F.p c) s).parts.memory
