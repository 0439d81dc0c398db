-- Laws of what is done to a block between two checkpoints, for the block and for the others of its page.
use Rattle.std.specs.Prelude.{◌≡◌, ◌≢◌, ℕ, ◌%◌, ◌<◌, Bool, true, false}
use Rattle.thy_block.specs.declared.block.Block.{Block}
use Rattle.thy_block.specs.declared.parameters.Parameters.{Parameters}
use Rattle.thy_table.specs.declared.place.Place.{Place}
use Rattle.thy_table.specs.declared.block_entry.Pending.TheVariants.{Settled}
use Rattle.thy_table.specs.declared.block_entry.Working.TheVariants.{NoWork, InBuffer}
use Rattle.thy_table.specs.declared.cell.Cell.{Cell}
use Rattle.thy_table.specs.BlockEntry.{new_entry, listed_entry}
use Rattle.thy_table.specs.PageEntry.{promoted_page, no_page, listed_page, is_framed}
use Rattle.thy_table.specs.Cells.{seat_of, frame_at, penult, target, last, work}
use Rattle.thy_table.specs.Sound.{IsWithin, IsSoundCell, Holds, Puts}
use Rattle.thy_table.specs.Rules.{after_copy}
use Rattle.thy_table.specs.Store.{LoadGives}
use Rattle.thy_table.specs.Checkpoint.{merged, with_dirty, with_filled, with_issued}

-- a block after a step that put one block at a place: its entries are sound, its versions read as before, and its places
-- hold what they have to
pub record Keeps (under_way : Bool) (old new : Place → Block) (c d : Cell) : Type 0 where
  pub sound : IsSoundCell under_way d
  pub reads : LoadGives old new c d (old (work c))
  pub holds : Holds old c → Holds new d

-- a block that no table lists is sound, and so is one whose page is to be promoted
pub record NewIsSound (i j block page : ℕ) (under_way : Bool) : Type 0 where
  pub bare : IsSoundCell under_way (record { i = i; entry = new_entry block; j = j; page = no_page page })
  pub promoted : IsSoundCell under_way (record { i = i; entry = new_entry block; j = j; page = promoted_page page })

abbrev pub NewCellsAreSound : Type 0
NewCellsAreSound = (i j block page : ℕ) (under_way : Bool) → NewIsSound i j block page under_way

-- a block and a page that a boot finds listed in the committed checkpoint are sound
pub record ListedIsSound (i j block page : ℕ) : Type 0 where
  pub of_block : IsSoundCell false (record { i = i; entry = listed_entry block; j = j; page = no_page page })
  pub of_page : IsSoundCell false (record { i = i; entry = new_entry block; j = j; page = listed_page page })

abbrev pub ListedCellsAreSound : Type 0
ListedCellsAreSound = (i j block page : ℕ) → ListedIsSound i j block page

-- the load of a listed page's block into its frame: both checkpoints have it as before, a load gives it, and its places hold
-- what they have to; nothing was to be held before
pub record Loads (old new : Place → Block) (c : Cell) : Type 0 where
  pub reads : LoadGives old new c c (old (penult c))
  pub holds : Holds new c

abbrev pub FrameLoads : Type 0
FrameLoads =
    (p : Parameters) (c : Cell) (old new : Place → Block)
    → IsWithin p (seat_of c) → IsSoundCell false c
    → is_framed c.page ≡ true → c.page.fresh ≡ false → c.entry.work ≡ NoWork
    → Puts p (frame_at (seat_of c)) (old (penult c)) old new
    → Loads old new c

-- the merge of a buffer into the frame
abbrev pub MergeKeeps : Type 0
MergeKeeps =
    (p : Parameters) (c : Cell) (old new : Place → Block)
    → IsWithin p (seat_of c) → IsSoundCell false c → is_framed c.page ≡ true → c.entry.work ≡ InBuffer
    → Puts p (frame_at (seat_of c)) (old (work c)) old new
    → Keeps false old new c (merged c)

-- a step leaves the places of a block as they read
pub record ReadsSame (old new : Place → Block) (c : Cell) : Type 0 where
  pub penult_same : new (penult c) ≡ old (penult c)
  pub target_same : new (target c) ≡ old (target c)
  pub last_same : new (last c) ≡ old (last c)
  pub work_same : new (work c) ≡ old (work c)
  pub frame_same : new (frame_at (seat_of c)) ≡ old (frame_at (seat_of c))

-- a store or a merge into the frame of another block of the page
abbrev pub DirtyKeeps : Type 0
DirtyKeeps =
    (under_way : Bool) (c : Cell) (old new : Place → Block)
    → IsSoundCell under_way c → ReadsSame old new c → Keeps under_way old new c (with_dirty c)

-- the copy of a promoted page's next block into its frame, for that block
abbrev pub PromotionKeeps : Type 0
PromotionKeeps =
    (p : Parameters) (under_way : Bool) (c : Cell) (old new : Place → Block)
    → IsWithin p (seat_of c) → IsSoundCell under_way c → c.page.fresh ≡ true
    → c.page.filled ≡ c.entry.block % 64 → c.page.filled < 64
    → Puts p (frame_at (seat_of c)) (old (work c)) old new
    → Keeps under_way old new c (with_filled c)

-- the copy of a promoted page's next block into its frame, for the page's other blocks, whose places it leaves
abbrev pub PromotionKeepsOthers : Type 0
PromotionKeepsOthers =
    (under_way : Bool) (c : Cell) (old new : Place → Block)
    → IsSoundCell under_way c → c.page.fresh ≡ true
    → c.page.filled ≢ c.entry.block % 64 → c.page.filled < 64 → c.entry.block % 64 < 64
    → ReadsSame old new c → Holds old c
    → Keeps under_way old new c (with_filled c)

-- the copy of a pending version to the place that is to have it
abbrev pub CopyKeeps : Type 0
CopyKeeps =
    (p : Parameters) (c : Cell) (old new : Place → Block)
    → IsWithin p (seat_of c) → IsSoundCell true c → c.entry.pend ≢ Settled
    → Puts p (target c) (old (last c)) old new
    → Keeps true old new c (after_copy c)

-- the write of a busy page's next block to its target, for that block; with the last the frame is free, and the version
-- of the checkpoint under way is read at the target
abbrev pub PageWriteKeeps : Type 0
PageWriteKeeps =
    (p : Parameters) (c : Cell) (old new : Place → Block)
    → IsWithin p (seat_of c) → IsSoundCell true c → c.page.busy ≡ true
    → c.page.issued ≡ c.entry.block % 64 → c.page.issued < 64
    → Puts p (target c) (old (frame_at (seat_of c))) old new
    → Keeps true old new c (with_issued c)

-- the write of a busy page's next block to its target, for the page's other blocks
abbrev pub PageWriteKeepsOthers : Type 0
PageWriteKeepsOthers =
    (c : Cell) (old new : Place → Block)
    → IsSoundCell true c → c.page.busy ≡ true
    → c.page.issued ≢ c.entry.block % 64 → c.page.issued < 64 → c.entry.block % 64 < 64
    → ReadsSame old new c → Holds old c
    → Keeps true old new c (with_issued c)

-- a step that moves neither the entries of a block nor its places keeps it
abbrev pub OthersKeep : Type 0
OthersKeep =
    (under_way : Bool) (c : Cell) (old new : Place → Block)
    → IsSoundCell under_way c → ReadsSame old new c → Keeps under_way old new c c
