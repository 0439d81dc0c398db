-- The first fault of a table's entries, entry by entry; and entries in the bytes of a table.
use Rattle.std.proofs.Common.{◌≡◌, ℕ, ◌*◌, ◌/◌, ◌<◌, ◌≤◌, List, length, take, drop, Option, None, sym, ◌∙◌, ap, arith}
use Rattle.std.proofs.lemmas.List.{at_drop_all, ext_get_or, get_or-take, length-take-le}
use Rattle.std.proofs.lemmas.List.FromFn.{length-map-range_with_len, get_or-map-range_with_len}
use Rattle.thy_block.specs.LittleEndian.{number_at}
use Rattle.thy_block.proofs.LittleEndianLemmas.{number_at-take}
use Rattle.thy_layout.specs.declared.bad_image.BadImage.{BadImage}
use Rattle.thy_layout.specs.Files.{table_in}
use Rattle.thy_layout.specs.Entries.{entry_at}
use Rattle.thy_layout.specs.Entries.{entry_from}
use Rattle.thy_layout.specs.EntryFaults.{first_clash}

-- ---- a search that has come past the last entry

pub clash_none : (rule : ℕ → ℕ → Option BadImage) (table : List (Option ℕ)) (i : ℕ) → length table ≤ i
    → first_clash rule 0 table ≡ first_clash rule i (drop i table) → None ≡ first_clash rule 0 table
clash_none rule table i past before = sym (before ∙ at_drop_all (first_clash rule i) table i past)

-- ---- the bytes of a table

pub length-table_in : (bytes : List ℕ) → length (table_in bytes) ≡ length bytes / 8
length-table_in bytes = length-map-range_with_len (λ i. entry_from (number_at 8 bytes (8 * i))) 0 (length bytes / 8)

pub entry_at-table_in : (bytes : List ℕ) (i : ℕ) → i < length bytes / 8
    → entry_at (table_in bytes) i ≡ entry_from (number_at 8 bytes (8 * i))
entry_at-table_in bytes i l = get_or-map-range_with_len (λ i. entry_from (number_at 8 bytes (8 * i))) 0 (length bytes / 8) i i None l (omega arith)

-- the first k entries of a table are the entries of its first bytes
pub table_in-take : (bytes : List ℕ) (k : ℕ) → k ≤ length bytes / 8 → table_in (take (8 * k) bytes) ≡ take k (table_in bytes)
table_in-take bytes k most =
    let front : length (take (8 * k) bytes) ≡ 8 * k = length-take-le (8 * k) bytes (omega arith) in
    let left : length (table_in (take (8 * k) bytes)) ≡ k = omega (arith, length-table_in (take (8 * k) bytes), front) in
    let right : length (take k (table_in bytes)) ≡ k = length-take-le k (table_in bytes) (omega (arith, length-table_in bytes)) in
    ext_get_or None (table_in (take (8 * k) bytes)) (take k (table_in bytes)) (left ∙ sym right)
    (λ i below.
    let l : i < k = omega (arith, left) in
    entry_at-table_in (take (8 * k) bytes) i (omega (arith, front))
    ∙ ap entry_from (number_at-take 8 (8 * k) bytes (8 * i) (omega arith))
    ∙ sym (get_or-take k (table_in bytes) i None l ∙ entry_at-table_in bytes i (omega arith)))
