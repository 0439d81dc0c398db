-- Part of the claim.
-- Work in buffers over the frames of pages, and pages in promotion: the controller counts both.
use Rattle.std.specs.Prelude.{◌≡◌, ℕ, ◌<◌, Bool, true, false, ◌&&◌, not, if◌then◌else◌, count_by}
use Rattle.thy_block.specs.Geometry.{memory_blocks}
use Rattle.thy_table.specs.Listing.{Listing, passes}
use Rattle.thy_table.specs.declared.block_entry.BttEntry.{BttEntry}
use Rattle.thy_table.specs.declared.block_entry.Working.{Working}
use Rattle.thy_table.specs.declared.block_entry.Working.TheVariants.{InBuffer}
use Rattle.thy_table.specs.declared.page_entry.PttEntry.{PttEntry}
use Rattle.thy_table.specs.PageEntry.{is_framed}
use Rattle.thy_table.specs.declared.cell.Cell.{Cell}
use Rattle.thy_table.specs.declared.cell.StoreRule.{StoreRule}
use Rattle.thy_table.specs.declared.cell.StoreRule.TheVariants.{ToBuffer}
use Rattle.thy_control.specs.State.{State, cell_of}
use Rattle.thy_control.specs.Holding.{promoted}
use Rattle.thy_control.specs.Seal.{block_is_framed}
use Rattle.thy_control.specs.declared.overlay.WorkCounts.{WorkCounts}

-- work is held in a buffer
abbrev pub is_buffered : Working → Bool
is_buffered InBuffer = true
is_buffered work = false

-- an entry's work is held in a buffer, over the frame of its page
abbrev pub is_overlaid : Listing PttEntry → BttEntry → Bool
is_overlaid pages e = is_buffered e.work && block_is_framed pages e.block

-- how many entries of the block table have their work in a buffer over the frame of a page
abbrev pub overlaid : Listing PttEntry → Listing BttEntry → ℕ
overlaid pages blocks = count_by (passes (is_overlaid pages)) blocks.entries

-- a block of memory whose work is in a buffer over the frame of its page
pub record IsOverlaid (s : State) : Type 0 where
  pub block : ℕ
  pub inside : block < memory_blocks s.p
  pub framed : is_framed (cell_of s block).page ≡ true
  pub work : (cell_of s block).entry.work ≡ InBuffer

-- a page that is being promoted, and one of its blocks
pub record IsPromoting (s : State) : Type 0 where
  pub block : ℕ
  pub inside : block < memory_blocks s.p
  pub unframed : is_framed (cell_of s block).page ≡ false
  pub fresh : (cell_of s block).page.fresh ≡ true

-- how many more blocks are overlaid after a store by a rule
abbrev pub covers : StoreRule → Cell → ℕ
covers ToBuffer c = if is_framed c.page && not (is_buffered c.entry.work) then 1 else 0
covers rule c = 0

-- the numbers that the controller keeps are these
pub record AreWorkCounts (pages : Listing PttEntry) (blocks : Listing BttEntry) (m : WorkCounts) : Type 0 where
  pub overlaid_is : m.overlaid ≡ overlaid pages blocks
  pub promoted_is : m.promoted ≡ promoted pages
