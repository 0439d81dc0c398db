-- Part of the claim.
-- What this scheme's boot fills: the controller, from images of both versions. A position is 64 times an entry of the
-- page table and a block of its page.
use Rattle.std.specs.Prelude.{◌≡◌, ℕ, ◌+◌, ◌*◌, ◌/◌, ◌%◌, ◌<◌, ◌≤◌, max, List, map, replicate, is_some, Option, Some, None}
use Rattle.std.specs.List.{range_with_len}
use Rattle.thy_block.specs.declared.block.Block.{Block}
use Rattle.thy_block.specs.declared.parameters.Parameters.{Parameters}
use Rattle.thy_table.specs.declared.place.Place.TheVariants.{AlternatePage, Frame}
use Rattle.thy_block.specs.Device.{Device}
use Rattle.thy_block.specs.Geometry.{memory_blocks}
use Rattle.thy_table.specs.Places.{number_of}
use Rattle.thy_dram.specs.Contents.{written}
use Rattle.thy_layout.specs.Commit.{version_of}
use Rattle.thy_record.specs.Number.{scheme_number}
use Rattle.thy_record.specs.Slots.{tables_in, counts_in}
use Rattle.thy_layout.specs.Entries.{entry_at}
use Rattle.thy_table.specs.Listing.{first_from}
use Rattle.thy_table.specs.Sound.{Holds}
use Rattle.thy_control.specs.State.{State, AreSoundTables, cell_of, work_of, reads}
use Rattle.thy_control.specs.Boot.{IsBooting, MayFrame, framed_block}
use Rattle.thy_control.specs.CheckpointTables.{tables0}
use Rattle.thy_control.specs.Drains.{after_drain}
use Rattle.thy_control.specs.Stays.{HoldAll}
use Rattle.thy_record.specs.ThynvmLayouts.{thynvm_layouts}
use Rattle.thy_checkpoint.specs.Filling.{FillingOf}
use Rattle.thy_thynvm_parts.specs.Start.{start_slot}

-- the position itself, if its entry lists a page, else the first block of the next page that is listed
abbrev pub position_in : ℕ → Option ℕ → Option ℕ
position_in from None = None
position_in from (Some j) = Some (max from (64 * j))

abbrev pub next_position : Parameters → List Block → ℕ → Option ℕ
next_position p slot from = position_in from (first_from is_some (from / 64) (tables_in p slot).ptt)

-- the places of a position: it is read from the alternate page, into the frame
abbrev pub page_place : State → ℕ → ℕ
page_place c k = number_of c.p (AlternatePage (k / 64) (k % 64))

abbrev pub with_filled : ℕ → Block → State → State
with_filled k block c = record c { dram = written c.dram (number_of c.p (Frame (k / 64) (k % 64))) block }

-- what a load of each block of memory gives
abbrev pub loads : State → Device → List Block
loads c n = map (work_of c n) (range_with_len 0 (memory_blocks c.p))

-- the controller lists nothing yet
pub record IsFresh (c : State) : Type 0 where
  pub booting : IsBooting c
  pub no_blocks : (k : ℕ) → entry_at (tables0 c).btt k ≡ None
  pub no_pages : (k : ℕ) → entry_at (tables0 c).ptt k ≡ None
  pub no_counts : c.counts.lasts ≡ replicate c.p.pages 0

-- the tables of an empty controller are sound, and list nothing
pub record IsEmpty (c : State) : Type 0 where
  pub tables : AreSoundTables c
  pub fresh : IsFresh c

-- a controller's tables are sound, it lists what a slot's tables list, and it has the slot's counts
pub record ListsSlot (commit : Block) (slot : List Block) (c : State) : Type 0 where
  pub tables : AreSoundTables c
  pub booting : IsBooting c
  pub are : tables0 c ≡ tables_in c.p slot
  pub counts : c.counts.lasts ≡ counts_in (version_of scheme_number c.p commit) c.p slot

-- listing and filling leave the counts of the stores of this epoch, and the room of the DRAM's queue, which has one
-- write more at most
pub record HasFilled (c e : State) : Type 0 where
  pub room : e.dram.room ≡ c.dram.room
  pub most : e.dram.queued ≤ c.dram.queued + 1
  pub counts : e.counts.counts ≡ c.counts.counts

abbrev pub filling_thynvm : FillingOf State
filling_thynvm = record {
  layouts = thynvm_layouts;
  p = λ c. c.p;
  dram = λ c. c.dram;
  drained = after_drain;
  fresh = IsEmpty;
  lists = ListsSlot;
  filled = λ c n k. (i m : ℕ) → MayFrame i m c → 64 * i + m < k → Holds (reads c n) (cell_of c (framed_block i m c));
  whole = HoldAll;
  next_fill = λ p commit slot from. next_position p slot from;
  most_fills = λ p. 64 * p.ptt;
  fill_place = λ c commit k. page_place c k;
  with_fill = λ commit k block c. with_filled k block c;
  keeps = HasFilled;
  loads = loads;
  first_slot = start_slot;
}
