-- Part of the claim.
-- What a seal makes of the controller: what the program stored since the last one goes to the next checkpoint.
use Rattle.std.specs.Prelude.{◌≡◌, ◌⊎◌, ℕ, ◌*◌, ◌<◌, nat_lt, Bool, true, List, [], ◌∷◌, length, filter, if◌then◌else◌, Option, Some}
use Rattle.std.specs.List.{range_with_len}
use Rattle.thy_block.specs.Device.{Device}
use Rattle.thy_block.specs.Geometry.{memory_blocks}
use Rattle.thy_block.specs.Store.{page_of}
use Rattle.thy_table.specs.Listing.{Listing, free_count, mapped}
use Rattle.thy_table.specs.declared.block_entry.BttEntry.{BttEntry}
use Rattle.thy_table.specs.declared.page_entry.PttEntry.{PttEntry}
use Rattle.thy_table.specs.PageEntry.{no_page, promoted_page, is_framed}
use Rattle.thy_table.specs.Counts.{Tally, is_dense, is_low, reset}
use Rattle.thy_table.specs.declared.cell.Cell.{Cell}
use Rattle.thy_table.specs.Checkpoint.{IsBare, sealed_entry, sealed_page, sealed, with_listed}
use Rattle.thy_control.specs.Find.{entry_for, with_entry_for}
use Rattle.thy_control.specs.Keys.{page_key}
use Rattle.thy_control.specs.State.{State, AreSoundTables, cell_of, penult_of, last_of, work_of}
use Rattle.thy_control.specs.Stays.{HoldAll}

-- few entries of the block table are free: under half
abbrev pub is_few : State → Bool
is_few s = nat_lt (2 * free_count s.btt) s.p.btt

-- the page of a block is framed
abbrev pub block_is_framed : Listing PttEntry → ℕ → Bool
block_is_framed t b = is_framed (entry_for page_key no_page (page_of b) t)

-- a block's entry, by whether few are free, and by the page table
abbrev pub sealed_in : Bool → Listing PttEntry → BttEntry → Option BttEntry
sealed_in few t e = Some (sealed_entry (block_is_framed t e.block) few e)

-- a page's entry, by the counts
abbrev pub sealed_as_counted : Tally → PttEntry → Option PttEntry
sealed_as_counted c e = sealed_page (is_low c e.page) e

-- the pages below one that were stored to densely, by rising number
abbrev pub dense_below : Tally → ℕ → List ℕ
dense_below c n = filter (is_dense c) (range_with_len 0 n)

-- each page that the table does not list takes the lowest free entry, while there is one, and is to be promoted
abbrev pub with_pages : List ℕ → Listing PttEntry → Listing PttEntry
with_pages [] t = t
with_pages (n ∷ ns) t = with_pages ns (with_entry_for page_key promoted_page n t)

-- the page table after one page was listed, if that was stored to densely
abbrev pub with_dense : Tally → ℕ → Listing PttEntry → Listing PttEntry
with_dense c n t = if is_dense c n then with_entry_for page_key promoted_page n t else t

-- a table that lists the dense pages below one comes to list those below another
abbrev pub ListsDense : Tally → (first end : ℕ) → (old new : Listing PttEntry) → Type 0
ListsDense c first end old new =
    (t : Listing PttEntry) → old ≡ with_pages (dense_below c first) t → new ≡ with_pages (dense_below c end) t

-- the page table: first its entries, step 2 of a seal in docs/CONTROLLER.md, then the pages to be promoted, step 3
abbrev pub sealed_ptt : Tally → Listing PttEntry → Listing PttEntry
sealed_ptt c t = with_pages (dense_below c (length c.counts)) (mapped (sealed_as_counted c) t)

-- all of a seal: step 1 for the block table, steps 2 and 3 for the page table, step 4 for the counts, step 5 for the engine
unfoldable pub sealed_state : State → State
sealed_state s = record s {
  btt = mapped (sealed_in (is_few s) s.ptt) s.btt;
  ptt = sealed_ptt s.counts s.ptt;
  counts = reset s.counts;
  under_way = true;
}

-- a block's cell after a seal: what the seal makes of its own; its page may have been listed, to be promoted
abbrev pub OrListed : ℕ → Cell → Cell → Type 0
OrListed n c d = (d ≡ c) ⊎ ((c.page ≡ no_page n) × ((j : ℕ) × (d ≡ with_listed j c)))

abbrev pub sealed_cell : State → ℕ → Cell
sealed_cell s b = sealed (is_few s) (is_low s.counts (page_of b)) (cell_of s b)

abbrev pub SealMakesCells : Type 0
SealMakesCells =
    (s : State) → AreSoundTables s → (b : ℕ)
    → OrListed (page_of b) (sealed_cell s b) (cell_of (sealed_state s) b)

-- no block has work in a buffer over the frame of its page
pub record IsBareState (s : State) : Type 0 where
  pub bare : (b : ℕ) → b < memory_blocks s.p → IsBare (cell_of s b)

-- if the places hold what they have to, the last version is what a load gave, and gives; the committed one stays
pub record Seals (s t : State) (n : Device) : Type 0 where
  pub penult_same : (b : ℕ) → b < memory_blocks s.p → penult_of t n b ≡ penult_of s n b
  pub last_is : (b : ℕ) → b < memory_blocks s.p → last_of t n b ≡ work_of s n b
  pub work_same : (b : ℕ) → b < memory_blocks s.p → work_of t n b ≡ work_of s n b
  pub holds : HoldAll t n
