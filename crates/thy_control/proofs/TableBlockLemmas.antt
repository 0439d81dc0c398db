-- The entries of a block of tables, one by one.
use Rattle.std.proofs.Common.{◌≡◌, ℕ, ◌+◌, ◌-◌, ◌*◌, ◌^◌, ◌<◌, ◌≤◌, List, ◌++◌, drop, length, map, get_or, Option, Some, None, sym, ◌∙◌, ap, inl, inr, arith}
use Rattle.std.proofs.lemmas.Bool.{cases_lt}
use Rattle.std.specs.Option.{option_and_then}
use Rattle.std.proofs.lemmas.List.{length-map, get_or-map, length-append, length-drop, length-take-le, length-take, get_or_past, get_or-take, get_or-drop, get_or_append_left, get_or-append-add, ext_get_or}
use Rattle.thy_block.specs.declared.parameters.Parameters.{Parameters}
use Rattle.thy_block.specs.Geometry.{IsInRange}
use Rattle.thy_layout.specs.Entries.{entry_at, Lists}
use Rattle.thy_record.specs.Tables.{Tables, IsTables}
use Rattle.thy_layout.specs.Entries.{HaveWords}
use Rattle.thy_control.specs.TableBlocks.{entries_of}

-- the entries of a block of tables are eight
pub entries-eight : (t : Tables) (k : ℕ) → 8 * k + 8 ≤ length t.btt + length t.ptt → length (entries_of t k) ≡ 8
entries-eight t k l =
    length-take-le 8 (drop (8 * k) (t.btt ++ t.ptt)) (omega (arith, length-drop (8 * k) (t.btt ++ t.ptt), length-append t.btt t.ptt))

pub entries-each : (t : Tables) (k j : ℕ) → j < 8 → entry_at (entries_of t k) j ≡ entry_at (t.btt ++ t.ptt) (8 * k + j)
entries-each t k j l =
    get_or-take 8 (drop (8 * k) (t.btt ++ t.ptt)) j None l ∙ get_or-drop (8 * k) (t.btt ++ t.ptt) j None

-- eight entries that are those are all of them
pub entries-are : (t : Tables) (k : ℕ) (entries : List (Option ℕ)) → 8 * k + 8 ≤ length t.btt + length t.ptt → length entries ≡ 8
    → ((j : ℕ) → j < 8 → entry_at entries j ≡ entry_at (t.btt ++ t.ptt) (8 * k + j)) → entries ≡ entries_of t k
entries-are t k entries l long each =
    ext_get_or None entries (entries_of t k) (long ∙ sym (entries-eight t k l))
    (λ j inside. let below : j < 8 = omega (arith, long) in each j below ∙ sym (entries-each t k j below))

-- nothing is listed at a free entry of the block table
pub entry-free : {E : Type 0} (due : E → Option ℕ) (es : List (Option E)) (pages : List (Option ℕ)) (n : ℕ) → n < length es → get_or es n None ≡ None
    → entry_at (map (option_and_then due) es ++ pages) n ≡ None
entry-free due es pages n inside free =
    let f = option_and_then due in
    get_or_append_left (map f es) pages None n (omega (arith, inside, length-map es f)) ∙ get_or-map f es n None None inside ∙ ap f free

-- each number that both tables list fits a word
entry-fits : (p : Parameters) (t : Tables) → IsInRange p → IsTables p t → (m n : ℕ) → entry_at (t.btt ++ t.ptt) m ≡ Some n → n < 2 ^ 64 - 1
entry-fits p t r s m n h = elim (cases_lt m (length t.btt)) as (λ _. n < 2 ^ 64 - 1) [
  | inl low ↦
      let l : Lists t.btt m n = record { is = sym (get_or_append_left t.btt t.ptt None m low) ∙ h } in
      let small = s.blocks m n l in
      omega arith
  | inr high ↦
      let e : length t.btt + (m - length t.btt) ≡ m = omega arith in
      let l : Lists t.ptt (m - length t.btt) n =
      record { is = sym (get_or-append-add t.btt t.ptt (m - length t.btt) None) ∙ ap (entry_at (t.btt ++ t.ptt)) e ∙ h } in
      let small = s.pages (m - length t.btt) n l in
      omega arith
]

past_eight : (t : Tables) (k i : ℕ) → 8 ≤ i → entry_at (entries_of t k) i ≡ None
past_eight t k i l = get_or_past (entries_of t k) i None (omega (arith, length-take 8 (drop (8 * k) (t.btt ++ t.ptt))))

pub HaveWords-entries : (p : Parameters) (t : Tables) (k : ℕ) → IsInRange p → IsTables p t → HaveWords (entries_of t k)
HaveWords-entries p t k r s = record {
  each = λ i n l. elim (cases_lt i 8) as (λ _. n < 2 ^ 64 - 1) [
    | inl low ↦ entry-fits p t r s (8 * k + i) n (sym (entries-each t k i low) ∙ l.is)
    | inr high ↦ let no : None ≡ Some n = sym (past_eight t k i high) ∙ l.is in cc
  ];
}
