-- Eight entries of a table are a block of it.
use Rattle.std.proofs.Common.{◌≡◌, ℕ, ◌+◌, ◌*◌, ◌^◌, ◌-◌, ◌<◌, ◌≤◌, List, length, map, take, drop, Option, Some, None, sym, ◌∙◌, ap, inl, inr, arith}
use Rattle.std.proofs.lemmas.Bool.{cases_lt}
use Rattle.std.proofs.lemmas.List.{take-map, drop-map, length-drop, length-take-le, length-take, get_or_past, get_or-take, get_or-drop, ext_get_or}
use Rattle.thy_block.specs.Words.{block_of}
use Rattle.thy_layout.specs.Entries.{entry_at, entry_word, HaveWords}
use Rattle.thy_layout.specs.TableSlots.{table_block_of}

abbrev pub eight_of : List (Option ℕ) → ℕ → List (Option ℕ)
eight_of table k = take 8 (drop (8 * k) table)

pub eight_are : (table : List (Option ℕ)) (k : ℕ) (entries : List (Option ℕ)) → 8 * k + 8 ≤ length table → length entries ≡ 8
    → ((j : ℕ) → j < 8 → entry_at entries j ≡ entry_at table (8 * k + j)) → entries ≡ eight_of table k
eight_are table k entries l long each =
    let size : length (eight_of table k) ≡ 8 = length-take-le 8 (drop (8 * k) table) (omega (arith, length-drop (8 * k) table)) in
    ext_get_or None entries (eight_of table k) (long ∙ sym size)
    (λ j inside.
    let below : j < 8 = omega (arith, long) in
    each j below ∙ sym (get_or-take 8 (drop (8 * k) table) j None below ∙ get_or-drop (8 * k) table j None))

pub block_of_eight : (table : List (Option ℕ)) (k : ℕ) → block_of (map entry_word (eight_of table k)) ≡ table_block_of table k
unfolding table_block_of
block_of_eight table k = sym (ap block_of (ap (take 8) (drop-map entry_word (8 * k) table) ∙ take-map entry_word 8 (drop (8 * k) table)))

-- each of eight entries fits a word if every entry of the table does
pub HaveWords-eight : (table : List (Option ℕ)) (k : ℕ) → HaveWords table → HaveWords (eight_of table k)
HaveWords-eight table k words = record {
  each = λ i n l. elim (cases_lt i 8) as (λ _. n < 2 ^ 64 - 1) [
    | inl low ↦
        let at : entry_at (eight_of table k) i ≡ entry_at table (8 * k + i)
        = get_or-take 8 (drop (8 * k) table) i None low ∙ get_or-drop (8 * k) table i None in
        words.each (8 * k + i) n (record { is = sym at ∙ l.is })
    | inr high ↦
        let past : entry_at (eight_of table k) i ≡ None
        = get_or_past (eight_of table k) i None (omega (arith, length-take 8 (drop (8 * k) table))) in
        let no : None ≡ Some n = sym past ∙ l.is in cc
  ];
}
