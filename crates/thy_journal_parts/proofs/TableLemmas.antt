-- The log's table as the table of a checkpoint, and its entries, block by block.
use Rattle.std.proofs.Common.{◌≡◌, ℕ, ◌<◌, ◌≤◌, true, false, length, Option, Some, None, refl, sym, ◌∙◌, ap, subst, inl, inr, arith}
use Rattle.std.specs.Option.{option_map}
use Rattle.std.proofs.lemmas.Bool.{cases_lt, eq-eqb, eqb-true}
use Rattle.std.proofs.lemmas.List.{length-map, get_or-map, get_or_past}
use Rattle.thy_layout.specs.Entries.{entry_at as listed_at, Lists, entry_of}
use Rattle.thy_layout.proofs.EntryLemmas.{Lists-inside, entry_of-absent, entry_of-listed}
use Rattle.thy_table.specs.Listing.{entry_at, lists, passes}
use Rattle.thy_table.proofs.FirstLemmas.{first_from-first, first_from-is, none-first_from}
use Rattle.thy_table.proofs.ListingLaws.{found-once, index_of-lists, none-lists}
use Rattle.thy_images.specs.JournalSlots.{IsTable}
use Rattle.thy_journal_parts.specs.declared.entry.Listed.{Listed}
use Rattle.thy_journal_parts.specs.Keys.{block_key}
use Rattle.thy_journal_parts.specs.Items.{is_live, next_live, listed_by, block_listed}
use Rattle.thy_journal_parts.specs.State.{State, IsSoundState, table_of, entry_for}

pub length-table_of : (s : State) → length (table_of s) ≡ length s.table.entries
length-table_of s = length-map s.table.entries (option_map block_key)

-- what the table of a checkpoint lists at an entry
pub listed_at-table_of : (s : State) (i : ℕ) → listed_at (table_of s) i ≡ option_map block_key (entry_at s.table i)
listed_at-table_of s i = elim (cases_lt i (length s.table.entries)) as (λ _. listed_at (table_of s) i ≡ option_map block_key (entry_at s.table i)) [
  | inl l ↦ get_or-map (option_map block_key) s.table.entries i None None l
  | inr l ↦
      let past : length (table_of s) ≤ i = omega (arith, l, length-table_of s) in
      get_or_past (table_of s) i None past ∙ sym (ap (option_map block_key) (get_or_past s.table.entries i None l))
]

listed_of : (o : Option Listed) (b : ℕ) → option_map block_key o ≡ Some b → lists block_key b o ≡ true
listed_of None b h = cc
listed_of (Some e) b h = let same : block_key e ≡ b = cc in eq-eqb (block_key e) b same

pub lists_of : (s : State) (i b : ℕ) → Lists (table_of s) i b → lists block_key b (entry_at s.table i) ≡ true
lists_of s i b l = listed_of (entry_at s.table i) b (sym (listed_at-table_of s i) ∙ l.is)

-- the table of a log is one that a checkpoint may have
pub IsTable-table_of : (s : State) → IsSoundState s → IsTable s.p (table_of s)
IsTable-table_of s h = record {
  long = length-table_of s ∙ h.size;
  blocks = λ i b l. subst (λ (n : ℕ). b < n) h.numbers (h.once.inside i b (lists_of s i b l));
  once = λ i k b l m. found-once block_key s.table h.once i k b (lists_of s i b l) (lists_of s k b m);
}

-- ---- live entries

-- the live entry that is found is at the place from which it was looked for, or after it, within the table; looked for from
-- there it is found again
pub live_at : (s : State) (from i : ℕ) → IsSoundState s → next_live from s ≡ Some i → (from ≤ i) × (i < s.p.btt)
live_at s from i h found =
    let first = first_from-first (passes is_live) None s.table.entries from i found in
    (first.above, subst (λ (n : ℕ). i < n) h.size first.inside)

pub live_again : (s : State) (from i : ℕ) → next_live from s ≡ Some i → next_live i s ≡ Some i
live_again s from i found =
    let first = first_from-first (passes is_live) None s.table.entries from i found in
    first_from-is (passes is_live) None s.table.entries i i (omega arith) first.inside first.here (λ k above low. absurd (omega (arith, above, low)))

-- a live entry lists its block
live_by : (s : State) (i : ℕ) (o : Option Listed) → entry_at s.table i ≡ o → passes is_live o ≡ true → Lists (table_of s) i (listed_by o)
live_by s i None e h = cc
live_by s i (Some x) e h = record { is = listed_at-table_of s i ∙ ap (option_map block_key) e }

pub live_lists : (s : State) (from i : ℕ) → IsSoundState s → next_live from s ≡ Some i → Lists (table_of s) i (block_listed i s)
live_lists s from i h found =
    let first = first_from-first (passes is_live) None s.table.entries from i found in
    live_by s i (entry_at s.table i) refl first.here

-- an entry that lists a block is live
passes_of : (o : Option Listed) (b : ℕ) → option_map block_key o ≡ Some b → passes is_live o ≡ true
passes_of None b h = cc
passes_of (Some e) b h = refl

pub lists_live : (s : State) (i b : ℕ) → Lists (table_of s) i b → passes is_live (entry_at s.table i) ≡ true
lists_live s i b l = passes_of (entry_at s.table i) b (sym (listed_at-table_of s i) ∙ l.is)

-- if no entry from a place on is live, every block is listed below it
pub listed_below : (s : State) (from i b : ℕ) → next_live from s ≡ None → Lists (table_of s) i b → i < from
listed_below s from i b found l = elim (cases_lt i from) as (λ _. i < from) [
  | inl low ↦ low
  | inr high ↦
      let inside = Lists-inside (table_of s) i b l in
      let none : passes is_live (entry_at s.table i) ≡ false =
      none-first_from (passes is_live) None s.table.entries from found i high (omega (arith, inside, length-table_of s)) in
      let some : passes is_live (entry_at s.table i) ≡ true = lists_live s i b l in
      cc
]

-- if the next live entry is at a place, an entry below that place that lists a block is below the place from which it
-- was looked for
pub listed_before : (s : State) (from i j b : ℕ) → next_live from s ≡ Some i → Lists (table_of s) j b → j < i → j < from
listed_before s from i j b found l less = elim (cases_lt j from) as (λ _. j < from) [
  | inl low ↦ low
  | inr high ↦
      let first = first_from-first (passes is_live) None s.table.entries from i found in
      let none : passes is_live (entry_at s.table j) ≡ false = first.before j high less in
      let some : passes is_live (entry_at s.table j) ≡ true = lists_live s j b l in
      cc
]

-- ---- the entry of a block

-- an entry that lists a block has it
pub key_of : (o : Option Listed) (b : ℕ) → lists block_key b o ≡ true → option_map block_key o ≡ Some b
key_of None b h = cc
key_of (Some e) b h = ap Some (eqb-true (block_key e) b h)

-- the entry of a block is the same, seen from the checkpoint
pub entry_for-is : (s : State) (b : ℕ) → IsSoundState s → entry_of (table_of s) b ≡ entry_for s b
entry_for-is s b h = by_entry (entry_for s b) refl where
  by_entry : (o : Option ℕ) → entry_for s b ≡ o → entry_of (table_of s) b ≡ entry_for s b
  by_entry None e =
      entry_of-absent (table_of s) b (λ i l.
      let none : lists block_key b (entry_at s.table i) ≡ false = none-lists block_key s.table b e i in
      let some : lists block_key b (entry_at s.table i) ≡ true = lists_of s i b l in
      cc)
      ∙ sym e
  by_entry (Some i) e =
      let here : lists block_key b (entry_at s.table i) ≡ true = index_of-lists block_key s.table b i e in
      entry_of-listed (table_of s) b i (record { is = listed_at-table_of s i ∙ key_of (entry_at s.table i) b here })
      (λ k l. found-once block_key s.table h.once k i b (lists_of s k b l) here)
      ∙ sym e
