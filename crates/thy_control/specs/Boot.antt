-- Part of the claim.
-- What the calls of a boot make of the controller: it lists what the committed checkpoint lists, and loads the frames of
-- the listed pages.
use Rattle.std.specs.Prelude.{◌≡◌, ℕ, ◌+◌, ◌*◌, ◌<◌, ◌≤◌, true, false, slice_set, Option, Some, None, Result, is_some}
use Rattle.thy_block.specs.declared.parameters.Parameters.{Parameters}
use Rattle.thy_table.specs.declared.place.Place.TheVariants.{AlternatePage, Frame}
use Rattle.thy_block.specs.declared.nvm.NvmError.{NvmError}
use Rattle.thy_block.specs.Device.{Device, HasFailed, newest}
use Rattle.thy_block.specs.Geometry.{memory_blocks}
use Rattle.thy_table.specs.Places.{number_of}
use Rattle.thy_block.specs.Store.{page_of}
use Rattle.thy_dram.specs.Contents.{Contents, written}
use Rattle.thy_layout.specs.Entries.{entry_at as table_entry}
use Rattle.thy_record.specs.Tables.{Tables, IsTables}
use Rattle.thy_table.specs.Listing.{entry_at, index_of, with_entry}
use Rattle.thy_table.specs.declared.block_entry.BttEntry.{BttEntry}
use Rattle.thy_table.specs.declared.page_entry.PttEntry.{PttEntry}
use Rattle.thy_table.specs.BlockEntry.{listed_entry}
use Rattle.thy_table.specs.PageEntry.{listed_page}
use Rattle.thy_table.specs.Counts.{most, with_last}
use Rattle.thy_table.specs.Sound.{Holds}
use Rattle.thy_control.specs.Keys.{block_key, page_key}
use Rattle.thy_control.specs.State.{State, AreSoundTables, cell_of, penult_of, work_of, reads, new_state}
use Rattle.thy_control.specs.CheckpointTables.{tables0, tables1}
use Rattle.thy_control.specs.Drains.{after_drain}
use Rattle.thy_control.specs.Outcomes.{MakesOrFails}
use Rattle.thy_control.specs.Stays.{HoldAll}

-- the controller as a boot has it: no checkpoint is under way, and each live entry is one that the committed one lists
pub record IsBooting (s : State) : Type 0 where
  pub idle : s.under_way ≡ false
  pub blocks : (i : ℕ) (e : BttEntry) → entry_at s.btt i ≡ Some e → e ≡ listed_entry e.block
  pub pages : (j : ℕ) (e : PttEntry) → entry_at s.ptt j ≡ Some e → e ≡ listed_page e.page

-- a block may be listed at an entry of the block table: the entry is free, and neither the block nor its page is listed
pub record MayListBlock (i b : ℕ) (s : State) : Type 0 where
  pub inside : i < s.p.btt
  pub free : entry_at s.btt i ≡ None
  pub block : b < memory_blocks s.p
  pub unlisted : index_of block_key b s.btt ≡ None
  pub bare : index_of page_key (page_of b) s.ptt ≡ None

-- a page may be listed at an entry of the page table: the entry is free, and neither the page nor a block of it is listed
pub record MayListPage (j n : ℕ) (s : State) : Type 0 where
  pub inside : j < s.p.ptt
  pub free : entry_at s.ptt j ≡ None
  pub page : n < s.p.pages
  pub unlisted : index_of page_key n s.ptt ≡ None
  pub bare : (b : ℕ) → page_of b ≡ n → index_of block_key b s.btt ≡ None

-- the controller with the block or the page listed there
abbrev pub with_listed_block : ℕ → ℕ → State → State
with_listed_block i b s = record s { btt = with_entry i (Some (listed_entry b)) s.btt }

abbrev pub with_listed_page : ℕ → ℕ → State → State
with_listed_page j n s = record s { ptt = with_entry j (Some (listed_page n)) s.ptt }

-- a page of memory may have had this many stores in the epoch before
pub record MayListCount (n count : ℕ) (s : State) : Type 0 where
  pub page : n < s.p.pages
  pub within : count ≤ most

-- the controller with that count
abbrev pub with_listed_count : ℕ → ℕ → State → State
with_listed_count n count s = record s { counts = with_last n count s.counts }

-- tables with one entry more
abbrev pub with_block : ℕ → ℕ → Tables → Tables
with_block i b t = record t { btt = slice_set t.btt i (Some b) }

abbrev pub with_page : ℕ → ℕ → Tables → Tables
with_page j n t = record t { ptt = slice_set t.ptt j (Some n) }

-- both checkpoints have these tables
pub record HaveTables (s : State) (t : Tables) : Type 0 where
  pub tables0_is : tables0 s ≡ t
  pub tables1_is : tables1 s ≡ t

-- the page that an entry lists, and block k of it
abbrev pub page_in : Option PttEntry → ℕ
page_in None = 0
page_in (Some e) = e.page

abbrev pub framed_block : ℕ → ℕ → State → ℕ
framed_block j k s = 64 * page_in (entry_at s.ptt j) + k

-- entry j lists a page, which has a block k
pub record MayFrame (j k : ℕ) (s : State) : Type 0 where
  pub listed : is_some (entry_at s.ptt j) ≡ true
  pub inside : k < 64

-- the controller after block k of the alternate page of entry j was copied into the frame
unfoldable pub with_frame : ℕ → ℕ → State → Device → State
with_frame j k s n = record s {
  dram = written s.dram (number_of s.p (Frame j k)) (newest n (number_of s.p (AlternatePage j k)));
}

-- how that copy ends: the NVM is not written, and a read of it may fail
abbrev pub CopiesFrame : {T : Type 0} → ℕ → ℕ → State → Device → Result T NvmError → State → Device → Type 0
CopiesFrame j k s m result t n = MakesOrFails (with_frame j k s m) m (HasFailed m n) s m result t n

-- the places of that block hold what they have to, and a load gives the committed version of it; every other block whose
-- places held what they have to is as it was
pub record LoadsFrame (j k : ℕ) (s : State) (m : Device) (t : State) (n : Device) : Type 0 where
  pub inside : framed_block j k s < memory_blocks s.p
  pub here : Holds (reads t n) (cell_of t (framed_block j k s))
  pub given : work_of t n (framed_block j k s) ≡ penult_of s m (framed_block j k s)
  pub others : (b : ℕ) → b < memory_blocks s.p → Holds (reads s m) (cell_of s b) → Holds (reads t n) (cell_of t b)

-- a new controller is as a boot has it, and so is one of which a write landed
abbrev pub NewIsBooting : Type 0
NewIsBooting = (p : Parameters) (dram : Contents) → IsBooting (new_state p dram)

abbrev pub DrainKeepsBooting : Type 0
DrainKeepsBooting = (s : State) → IsBooting s → IsBooting (after_drain s)

-- both checkpoints have the same tables
abbrev pub BootHasTables : Type 0
BootHasTables = (s : State) → IsBooting s → HaveTables s (tables0 s)

-- what is asked of a listing, by the tables alone: the entry is empty, and with it they are tables that a checkpoint
-- may have
abbrev pub TablesMayListBlock : Type 0
TablesMayListBlock =
    (i b : ℕ) (s : State) → AreSoundTables s → IsBooting s → i < s.p.btt
    → table_entry (tables0 s).btt i ≡ None → IsTables s.p (with_block i b (tables0 s)) → MayListBlock i b s

abbrev pub TablesMayListPage : Type 0
TablesMayListPage =
    (j n : ℕ) (s : State) → AreSoundTables s → IsBooting s → j < s.p.ptt
    → table_entry (tables0 s).ptt j ≡ None → IsTables s.p (with_page j n (tables0 s)) → MayListPage j n s

-- if the places of every block of a listed page hold what they have to, the places of all blocks do
abbrev pub FramedHoldsAll : Type 0
FramedHoldsAll =
    (s : State) (n : Device) → AreSoundTables s → IsBooting s
    → ((j k : ℕ) → MayFrame j k s → Holds (reads s n) (cell_of s (framed_block j k s))) → HoldAll s n
