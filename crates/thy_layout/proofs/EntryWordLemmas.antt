-- Entries of tables as words.
use Rattle.std.proofs.Common.{◌≡◌, ℕ, ◌-◌, ◌^◌, ◌<◌, List, length, map, slice_index, Option, Some, None, refl, sym, ◌∙◌, arith, ap, subst}
use Rattle.std.proofs.lemmas.List.{length-map, get_or-map}
use Rattle.thy_layout.specs.Entries.{entry_at, entry_word, entry_from, HaveWords}
use Rattle.thy_block.specs.Words.{word_of, block_of}
use Rattle.thy_block.proofs.WordLemmas.{word_of-block_of}

-- a word that was made of an entry
word_fits : (e : Option ℕ) → ((n : ℕ) → e ≡ Some n → n < 2 ^ 64 - 1) → entry_word e < 2 ^ 64
word_fits None h = omega arith
word_fits (Some n) h = let l : n < 2 ^ 64 - 1 = h n refl in omega arith

pub entry_word-fits : (entries : List (Option ℕ)) (i : ℕ) → HaveWords entries → entry_word (entry_at entries i) < 2 ^ 64
entry_word-fits entries i h = word_fits (entry_at entries i) (λ n e. h.each i n (record { is = e }))

-- an entry reads back from its word
pub entry_from-entry_word : (e : Option ℕ) → entry_from (entry_word e) ≡ e
entry_from-entry_word None = refl
entry_from-entry_word (Some n) = grind arith

-- an entry reads back from its block
pub entry_back : (entries : List (Option ℕ)) (i : ℕ) → HaveWords entries → i < length entries
    → entry_from (word_of (block_of (map entry_word entries)) i) ≡ entry_at entries i
entry_back entries i have l =
    let here : slice_index (map entry_word entries) i ≡ entry_word (entry_at entries i) = get_or-map entry_word entries i None 0 l in
    ap entry_from
    (word_of-block_of (map entry_word entries) i (omega (arith, length-map entries entry_word, l))
    (subst (λ x. x < 2 ^ 64) (sym here) (entry_word-fits entries i have))
    ∙ here)
    ∙ entry_from-entry_word (entry_at entries i)
