-- The buffers are filled from the journal, one entry after the other.
use Rattle.std.proofs.Common.{◌≡◌, ℕ, ◌+◌, ◌*◌, ◌<◌, ◌≤◌, true, false, List, [], length, slice_set, is_some, Option, Some, None, refl, sym, ◌∙◌, ap, subst, inl, inr, arith}
use Rattle.std.specs.List.{range_with_len}
use Rattle.std.proofs.lemmas.Bool.{cases_lt, cases_eq}
use Rattle.std.proofs.lemmas.List.{length-set, get_or-set_same, get_or-set_other}
use Rattle.std.proofs.lemmas.Simd.{map-map}
use Rattle.thy_block.specs.declared.block.Block.{Block}
use Rattle.thy_block.specs.declared.parameters.Parameters.{Parameters}
use Rattle.thy_block.specs.Device.{Device, zero_block, block_at, newest}
use Rattle.thy_block.specs.Geometry.{memory_blocks}
use Rattle.thy_block.specs.Places.{record_blocks}
use Rattle.thy_block.proofs.DeviceLemmas.{newest-empty}
use Rattle.thy_dram.specs.Contents.{written}
use Rattle.thy_layout.specs.Commit.{epoch_of}
use Rattle.thy_layout.specs.Entries.{entry_at as listed_at, Lists, entry_of}
use Rattle.thy_layout.proofs.EntryLemmas.{entry_of-Some, Lists-inside}
use Rattle.thy_layout.proofs.AskingLemmas.{half, map-alike}
use Rattle.thy_layout.proofs.SlotLemmas.{length-entries_in}
use Rattle.thy_layout.specs.Layout.{slot_in, memory_in}
use Rattle.thy_table.proofs.FirstLemmas.{first_from-first, first_from-is, none-first_from}
use Rattle.thy_images.specs.JournalPlaces.{image_blocks, home_place, journal_place, place_by, place_of}
use Rattle.thy_images.specs.JournalSlots.{table_in}
use Rattle.thy_images.specs.JournalLayout.{journal_layouts}
use Rattle.thy_images.proofs.JournalPartsLemmas.{journal_behind}
use Rattle.thy_journal_parts.specs.Holding.{works}
use Rattle.thy_journal_parts.specs.State.{State, table_of, buffer_of, work_by, work_of}
use Rattle.thy_journal_parts.specs.Stores.{put_into}
use Rattle.thy_journal_parts.proofs.StateLemmas.{IsSoundState-dram}
use Rattle.thy_journal_parts.proofs.TableLemmas.{entry_for-is, length-table_of}
use Rattle.thy_journal_parts.specs.Filling.{HasListed, AreFilled, slot_named, next_entry}

pub length-table_in : (p : Parameters) (slot : List Block) → length (table_in p slot) ≡ p.btt
length-table_in p slot = length-entries_in slot (8 * record_blocks p) p.btt

some_of : (o : Option ℕ) (b : ℕ) → o ≡ Some b → is_some o ≡ true
some_of None b h = cc
some_of (Some i) b h = refl

-- positions are entries
pub next_above : (p : Parameters) (slot : List Block) (from k : ℕ) → next_entry p slot from ≡ Some k → (from ≤ k) × (k < p.btt)
next_above p slot from k found =
    let first = first_from-first is_some None (table_in p slot) from k found in
    (first.above, subst (λ (n : ℕ). k < n) (length-table_in p slot) first.inside)

module _ (s : State) (n : Device) (slot : List Block) (listed : HasListed slot s) where
  -- an entry that lists a block is one that the slot has
  some_listed : (i b : ℕ) → Lists (table_of s) i b → is_some (listed_at (table_in s.p slot) i) ≡ true
  some_listed i b l =
      some_of (listed_at (table_in s.p slot) i) b (ap (λ (t : List (Option ℕ)). listed_at t i) (sym listed.table) ∙ l.is)

  entry_inside : (i b : ℕ) → Lists (table_of s) i b → i < s.p.btt
  entry_inside i b l =
      let inside = Lists-inside (table_of s) i b l in
      subst (λ (k : ℕ). i < k) (length-table_of s ∙ listed.state.size) inside

  module _ (from : ℕ) (filled : AreFilled s n from) where
    -- entries that list nothing need not be filled
    filled_to : (to : ℕ)
        → ((i : ℕ) → from ≤ i → i < to → is_some (listed_at (table_in s.p slot) i) ≡ false)
        → AreFilled s n to
    filled_to to none = record {
      each = λ i b low lists. elim (cases_lt i from)
          as (λ _. buffer_of s i ≡ newest n (journal_place s.p (slot_named (block_at n.image 1)) i)) [
            | inl below ↦ filled.each i b below lists
            | inr above ↦
                let both : false ≡ true = sym (none i above low) ∙ some_listed i b lists in
                absurd cc
          ];
    }

    pub next_found : (commit : Block) (k : ℕ) → next_entry s.p slot from ≡ Some k
        → (k < s.p.btt) × (journal_place s.p (slot_named commit) k < image_blocks s.p) × AreFilled s n k × (next_entry s.p slot k ≡ Some k)
    next_found commit k found =
        let first = first_from-first is_some None (table_in s.p slot) from k found in
        let inside = (next_above s.p slot from k found).1 in (
          inside,
          (journal_behind s.p (slot_named commit) k (half (epoch_of commit)) inside).1,
          filled_to k first.before,
          first_from-is is_some None (table_in s.p slot) k k (omega arith) first.inside first.here (λ j a l. absurd (omega (arith, a, l))),
        )

    -- if no position is left all are filled
    pub filled_all : next_entry s.p slot from ≡ None → AreFilled s n s.p.btt
    filled_all found =
        filled_to s.p.btt
        (λ i above low.
        none-first_from is_some None (table_in s.p slot) from found i above
        (omega (arith, low, length-table_in s.p slot)))

  -- ---- an entry is filled

  pub listed_put : (k : ℕ) (block : Block) → HasListed slot (put_into k block s)
  listed_put k block = record {
    state = IsSoundState-dram s.p s.table s.dram (written s.dram k block) listed.state (length-set s.dram.blocks k block);
    table = listed.table;
  }

  pub filled_put : (commit : Block) (k : ℕ) → AreFilled s n k → next_entry s.p slot k ≡ Some k → block_at n.image 1 ≡ commit
      → AreFilled (put_into k (newest n (journal_place s.p (slot_named commit) k)) s) n (k + 1)
  filled_put commit k filled found is = by_block (newest n (journal_place s.p (slot_named commit) k)) refl where
    inside : k < length s.dram.blocks
    inside = let low = (next_above s.p slot k k found).1 in omega (arith, low, listed.state.dram_size)

    by_block : (block : Block) → block ≡ newest n (journal_place s.p (slot_named commit) k) → AreFilled (put_into k block s) n (k + 1)
    by_block block read = record {
      each = λ i b low lists. elim (cases_eq i k)
          as (λ _. buffer_of (put_into k block s) i ≡ newest n (journal_place s.p (slot_named (block_at n.image 1)) i)) [
            | inl same ↦
                ap (block_at (slice_set s.dram.blocks k block)) same
                ∙ get_or-set_same s.dram.blocks k block zero_block inside
                ∙ read
                ∙ ap (λ (c : Block). newest n (journal_place s.p (slot_named c) k)) (sym is)
                ∙ ap (λ (j : ℕ). newest n (journal_place s.p (slot_named (block_at n.image 1)) j)) (sym same)
            | inr other ↦
                get_or-set_other s.dram.blocks k i block zero_block other ∙ filled.each i b (omega (arith, low, other)) lists
          ];
    }

  -- ---- all is filled

  module _ (settled : n.queue ≡ []) (slot_is : slot_in (journal_layouts s.p) n.image ≡ slot) (whole : AreFilled s n s.p.btt) where
    abbrev named : ℕ
    named = slot_named (block_at n.image 1)

    -- a block loads as it is at its place by the slot's table
    work_stands : (b : ℕ) (o : Option ℕ) → entry_of (table_of s) b ≡ o → work_by s n b o ≡ block_at n.image (place_by s.p named b o)
    work_stands b None is = newest-empty n (home_place s.p b) settled
    work_stands b (Some i) is =
        let lists : Lists (table_of s) i b = entry_of-Some (table_of s) b i is in
        whole.each i b (entry_inside i b lists) lists ∙ newest-empty n (journal_place s.p named i) settled

    work_placed : (b : ℕ) → work_of s n b ≡ block_at n.image (place_of s.p named (table_in s.p (slot_in (journal_layouts s.p) n.image)) b)
    work_placed b =
        ap (work_by s n b) (sym (entry_for-is s b listed.state))
        ∙ work_stands b (entry_of (table_of s) b) refl
        ∙ ap (λ (t : List (Option ℕ)). block_at n.image (place_of s.p named t b)) (listed.table ∙ ap (table_in s.p) (sym slot_is))

    pub works_are_memory : works s n ≡ memory_in (journal_layouts s.p) n.image
    works_are_memory =
        let place : ℕ → ℕ = place_of s.p named (table_in s.p (slot_in (journal_layouts s.p) n.image)) in
        let blocks : List ℕ = range_with_len 0 (memory_blocks s.p) in
        map-alike (work_of s n) (λ (b : ℕ). block_at n.image (place b)) blocks (λ b inside. work_placed b)
        ∙ sym (map-map (block_at n.image) place blocks)
