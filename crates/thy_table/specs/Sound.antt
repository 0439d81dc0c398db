-- Part of the claim.
-- What holds of a block in both tables at every moment, and what its places hold.
use Rattle.std.specs.Prelude.{◌≡◌, ◌≢◌, ◌%◌, ◌<◌, ◌≤◌, Bool, true, false}
use Rattle.thy_block.specs.declared.block.Block.{Block}
use Rattle.thy_block.specs.declared.parameters.Parameters.{Parameters}
use Rattle.thy_table.specs.declared.place.Place.{Place}
use Rattle.thy_block.specs.Geometry.{memory_blocks}
use Rattle.thy_table.specs.Places.{IsPlace}
use Rattle.thy_table.specs.declared.page_entry.PttEntry.{PttEntry}
use Rattle.thy_table.specs.declared.block_entry.Version.TheVariants.{Out, Alt}
use Rattle.thy_table.specs.declared.block_entry.Pending.TheVariants.{Settled, FromBuffer}
use Rattle.thy_table.specs.declared.block_entry.Working.TheVariants.{NoWork, InNvm, InBuffer}
use Rattle.thy_table.specs.declared.page_entry.Site.TheVariants.{AtHome}
use Rattle.thy_table.specs.declared.cell.Cell.{Cell}
use Rattle.thy_table.specs.PageEntry.{is_framed}
use Rattle.thy_table.specs.Cells.{Seat, seat_of, frame_at, target, last, work}

-- the entries are within their tables, and the block is within memory
pub record IsWithin (p : Parameters) (x : Seat) : Type 0 where
  pub entry : x.i < p.btt
  pub page : x.j < p.ptt
  pub block : x.block < memory_blocks p

-- what holds of a page's entry
pub record IsSoundPage (under_way : Bool) (page : PttEntry) : Type 0 where
  pub filled : page.filled ≤ 64
  pub issued : page.issued ≤ 64
  -- a page that is not framed is at home in both checkpoints; it is empty, or being promoted
  pub bare_place : is_framed page ≡ false → page.place ≡ AtHome
  pub bare_target : is_framed page ≡ false → page.target ≡ AtHome
  pub bare_empty : is_framed page ≡ false → page.fresh ≡ false → page.filled ≡ 0
  pub fresh_place : page.fresh ≡ true → page.place ≡ AtHome
  pub fresh_target : page.fresh ≡ true → page.target ≡ AtHome
  -- a page that moves between two checkpoints is busy until its last block was written, one that leaves until the commit
  pub one_place : under_way ≡ false → page.place ≡ page.target
  pub busy_moves : page.busy ≡ true → page.place ≢ page.target
  pub busy_unwritten : page.busy ≡ true → page.leaving ≡ false → page.issued < 64
  pub freed_written : page.place ≢ page.target → page.busy ≡ false → page.issued ≡ 64
  pub still_unissued : page.place ≡ page.target → page.issued ≡ 0
  pub leaving_busy : page.leaving ≡ true → page.busy ≡ true
  pub leaving_home : page.leaving ≡ true → page.target ≡ AtHome

-- what holds of a block in both tables
pub record IsSoundCell (under_way : Bool) (c : Cell) : Type 0 where
  pub of_page : IsSoundPage under_way c.page
  -- in neither checkpoint a page listed in the page table has a block listed in the block table
  pub apart0 : c.entry.v0 ≡ Alt → c.page.place ≡ AtHome
  pub apart1 : c.entry.v1 ≡ Alt → c.page.target ≡ AtHome
  -- if no checkpoint is under way, both versions are the same
  pub one : under_way ≡ false → c.entry.v0 ≡ c.entry.v1
  -- work in the NVM is at a place that neither checkpoint has, and only if the page has no frame
  pub in_nvm_free : c.entry.work ≡ InNvm → c.entry.v0 ≡ c.entry.v1
  pub in_nvm_bare : c.entry.work ≡ InNvm → is_framed c.page ≡ false
  -- a block that has to be copied has two versions in the checkpoints, and its page is at home in both
  pub pending_moves : c.entry.pend ≢ Settled → c.entry.v0 ≢ c.entry.v1
  pub pending_home : c.entry.pend ≢ Settled → c.page.target ≡ AtHome
  pub pending_still : c.entry.pend ≢ Settled → c.page.place ≡ AtHome
  pub one_buffer : c.entry.pend ≡ FromBuffer → c.entry.work ≢ InBuffer
  -- a page promoted since the seal takes every store; the checkpoint under way lists no block of any other framed page
  pub fresh_idle : c.page.fresh ≡ true → c.entry.work ≡ NoWork
  pub framed_out : is_framed c.page ≡ true → c.page.fresh ≡ false → c.entry.v1 ≡ Out

-- no promotion of the page is unfinished
pub record IsWhole (page : PttEntry) : Type 0 where
  pub framed : is_framed page ≡ false → page.fresh ≡ false

-- what the places of a cell hold, by what a read of each gives
pub record Holds (reads : Place → Block) (c : Cell) : Type 0 where
  -- a frame that was not stored to holds the last version
  pub clean : is_framed c.page ≡ true → c.page.dirty ≡ false → c.page.fresh ≡ false
      → reads (frame_at (seat_of c)) ≡ reads (last c)
  -- in a promotion what was copied is the working version
  pub copied : c.entry.block % 64 < c.page.filled → c.page.fresh ≡ true → reads (frame_at (seat_of c)) ≡ reads (work c)
  -- what was written of a busy page is at its target
  pub issued : c.page.busy ≡ true → c.entry.block % 64 < c.page.issued → reads (target c) ≡ reads (frame_at (seat_of c))

-- a place holds this block now, and every other place reads as before
pub record Puts (p : Parameters) (place : Place) (block : Block) (old new : Place → Block) : Type 0 where
  pub here : new place ≡ block
  pub others : (x : Place) → IsPlace p x → x ≢ place → new x ≡ old x
