-- What a merge, a promotion and a drain of the DRAM make of the counts, and of the DRAM's queue.
use Rattle.std.proofs.Common.{◌≡◌, ℕ, ◌+◌, ◌<◌, ◌≤◌, Bool, true, false, length, is_none, refl, ap, inl, inr, arith, Option, Some, None}
use Rattle.std.proofs.lemmas.List.Sums.{sum_by-set}
use Rattle.thy_block.specs.Device.{Device, block_at}
use Rattle.thy_table.specs.Places.{number_of}
use Rattle.thy_block.specs.Store.{page_of}
use Rattle.thy_table.specs.Devices.{devices_of, read_at}
use Rattle.thy_table.specs.Listing.{Listing, entry_at, free_count, passes, with_entry}
use Rattle.thy_table.proofs.IndexLemmas.{one_if}
use Rattle.thy_table.specs.declared.block_entry.BttEntry.{BttEntry}
use Rattle.thy_table.specs.declared.page_entry.PttEntry.{PttEntry}
use Rattle.thy_table.specs.BlockEntry.{new_entry}
use Rattle.thy_table.specs.PageEntry.{no_page}
use Rattle.thy_table.specs.declared.cell.Cell.{Cell}
use Rattle.thy_table.specs.Cells.{seat_of, frame_at, buffer_at, work}
use Rattle.thy_table.specs.Checkpoint.{merged}
use Rattle.thy_control.specs.Copies.{block_listed}
use Rattle.thy_control.specs.Holding.{waits, waiting, promoted}
use Rattle.thy_control.specs.Keys.{block_key, page_key}
use Rattle.thy_control.specs.Merges.{next_merge, dram_merged, merged_block, after_merge}
use Rattle.thy_control.specs.Promotions.{fills_left, unfilled, block_to_fill, devices_filled, block_filled, after_promotion}
use Rattle.thy_control.specs.State.{State, AreSoundTables, cell_of}
use Rattle.thy_control.proofs.FindLemmas.{found_entry, entry_for-some}
use Rattle.thy_control.proofs.MergeLemmas.{listed-merge, listed_page-merge, IsOverlay, IsOverlay-entry}
use Rattle.thy_control.proofs.CountLemmas.{promoted-set}
use Rattle.thy_computer.specs.Dram.{ActsOnDram, WritesDram}
use Rattle.thy_thynvm_parts.proofs.HeldLemmas.{unfilled-set}

-- ---- a merge

-- no fewer entries are free, no more buffers wait, and the promotions are as they were
pub record IsMerged (s t : State) : Type 0 where
  pub room : t.dram.room ≡ s.dram.room
  pub queue : t.dram.queued ≤ s.dram.queued + 1
  pub free : free_count s.btt ≤ free_count t.btt
  pub owed : waiting t.btt ≤ waiting s.btt
  pub promoted_same : promoted t.ptt ≡ promoted s.ptt
  pub unfilled_same : unfilled t ≡ unfilled s

-- a cleared entry is free, and waits for nothing
free-cleared : (es : Listing BttEntry) (i : ℕ) → i < length es.entries → free_count es ≤ free_count (with_entry i None es)
free-cleared es i inside =
    omega (arith, sum_by-set (λ (o : Option BttEntry). one_if (is_none o)) es.entries i None None inside, one_most (is_none (entry_at es i)))
  where
    one_most : (b : Bool) → one_if b ≤ 1
    one_most true = omega arith
    one_most false = omega arith

owed-cleared : (es : Listing BttEntry) (i : ℕ) → i < length es.entries → waiting (with_entry i None es) ≤ waiting es
owed-cleared es i inside =
    omega (arith, sum_by-set (λ (o : Option BttEntry). one_if (passes (λ (e : BttEntry). waits e.pend) o)) es.entries i None None inside)

module _ (s : State) (b : ℕ) (over : IsOverlay s b) where
  abbrev c : Cell
  c = cell_of s b

  block-there : c.i < length s.btt.entries
  block-there = (found_entry block_key new_entry s.btt b c.i (listed-merge b s over.framed over.over)).3

  page-unfilled : unfilled (record s { ptt = with_entry c.j (Some (merged c).page) s.ptt }) ≡ unfilled s
  page-unfilled =
      let listed = listed_page-merge b s over.framed over.over in
      let there = found_entry page_key no_page s.ptt (page_of b) c.j listed in
      let is : c.page ≡ there.0 = entry_for-some page_key no_page s.ptt (page_of b) c.j there.0 listed there.1 in
      unfilled-set s.ptt.entries c.j there.0 (merged c).page there.3 there.1 (ap (λ (e : PttEntry). fills_left (Some e)) is)

  is-merged : IsMerged s (merged_block b s)
  unfolding merged_block dram_merged
  is-merged = record {
    room = refl;
    queue = omega arith;
    free = free-cleared s.btt c.i block-there;
    owed = owed-cleared s.btt c.i block-there;
    promoted_same = promoted-set s b (merged c).page (listed_page-merge b s over.framed over.over) refl;
    unfilled_same = page-unfilled;
  }

pub IsMerged-next : (s : State) → AreSoundTables s → (o : Option ℕ) → next_merge s ≡ o → IsMerged s (after_merge o s)
IsMerged-next s tables None h = record {
  room = refl;
  queue = omega arith;
  free = omega arith;
  owed = omega arith;
  promoted_same = refl;
  unfilled_same = refl;
}
IsMerged-next s tables (Some i) h = is-merged s (block_listed i s) (IsOverlay-entry s tables i h)

-- a block that is merged is written into its page's frame
pub WritesDram-merged : (s : State) (n : Device) (i : ℕ) → WritesDram n n s.dram (after_merge (Some i) s).dram
unfolding merged_block dram_merged
WritesDram-merged s n i =
    let b : ℕ = block_listed i s in
    record {
      at = number_of s.p (frame_at (seat_of (cell_of s b)));
      block = block_at s.dram.blocks (number_of s.p (buffer_at (seat_of (cell_of s b))));
      left = refl;
      nvm = refl;
    }

pub way-merged : (s : State) (o : Option ℕ) → (after_merge o s).under_way ≡ s.under_way
unfolding merged_block
way-merged s None = refl
way-merged s (Some i) = refl

-- ---- a promotion

-- the block table is as it was, and the DRAM was written once at most
pub record IsPromoted (s t : State) : Type 0 where
  pub same_p : t.p ≡ s.p
  pub blocks : t.btt ≡ s.btt
  pub dram : (n : Device) → ActsOnDram n n s.dram t.dram
  pub room : t.dram.room ≡ s.dram.room
  pub queue : t.dram.queued ≤ s.dram.queued + 1

-- a block that is copied into its frame is written there
pub WritesDram-filled : (s : State) (m : Device) (j : ℕ) → WritesDram m m s.dram (after_promotion (Some j) s m).dram
unfolding block_filled devices_filled
WritesDram-filled s m j = record {
  at = number_of s.p (frame_at (seat_of (cell_of s (block_to_fill j s))));
  block = read_at s.p (devices_of m s.dram) (work (cell_of s (block_to_fill j s)));
  left = refl;
  nvm = refl;
}

pub IsPromoted-next : (s : State) (m : Device) (o : Option ℕ) → IsPromoted s (after_promotion o s m)
unfolding block_filled devices_filled
IsPromoted-next s m None = record { same_p = refl; blocks = refl; dram = λ n. inl refl; room = refl; queue = omega arith }
IsPromoted-next s m (Some j) = record {
  same_p = refl;
  blocks = refl;
  dram = λ n. inr (let w = WritesDram-filled s m j in record { at = w.at; block = w.block; left = w.left; nvm = refl });
  room = refl;
  queue = omega arith;
}
