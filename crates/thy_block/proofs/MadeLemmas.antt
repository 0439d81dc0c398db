-- Blocks put together of words of others.
use Rattle.std.proofs.Common.{◌≡◌, ◌≢◌, ◌⊎◌, ℕ, zero, suc, ◌+◌, ◌*◌, ◌<◌, ◌≤◌, List, [], ◌++◌, length, take, drop, slice_index, Contains, refl, sym, ◌∙◌, ap, subst, inl, inr, arith}
use Rattle.std.proofs.lemmas.Bool.{cases_eq, cases_lt}
use Rattle.std.proofs.lemmas.List.{drop-drop, length-drop, take-append-drop, nil_from_length}
use Rattle.thy_block.specs.declared.block.Block.{Block}
use Rattle.thy_block.specs.Device.{word_bytes, IsMadeOf, IsOneWordApart}
use Rattle.thy_block.specs.Words.{block_of}
use Rattle.thy_block.proofs.WordLemmas.{word_bytes-block_of, word_bytes-block_of_past}

-- ---- blocks with the same words are the same

-- each slice of eight bytes but the first is one of what comes after the first eight
next_slice : (xs : List ℕ) (i : ℕ) → take 8 (drop (8 * suc i) xs) ≡ take 8 (drop (8 * i) (drop 8 xs))
next_slice xs i =
    let e : 8 * suc i ≡ 8 + 8 * i = omega arith in
    ap (λ n. take 8 (drop n xs)) e ∙ ap (take 8) (sym (drop-drop (8 * i) 8 xs))

same_slices : (n : ℕ) (xs ys : List ℕ) → length xs ≤ 8 * n → length ys ≤ 8 * n
    → ((i : ℕ) → take 8 (drop (8 * i) xs) ≡ take 8 (drop (8 * i) ys)) → xs ≡ ys
same_slices zero xs ys lx ly same = nil_from_length xs (omega arith) ∙ sym (nil_from_length ys (omega arith))
same_slices (suc n) xs ys lx ly same =
    let rest : drop 8 xs ≡ drop 8 ys =
    same_slices n (drop 8 xs) (drop 8 ys) (omega (arith, length-drop 8 xs)) (omega (arith, length-drop 8 ys))
    (λ i. sym (next_slice xs i) ∙ same (suc i) ∙ next_slice ys i) in
    sym (take-append-drop 8 xs) ∙ ap (λ t. t ++ drop 8 xs) (same 0) ∙ ap (λ t. take 8 ys ++ t) rest ∙ take-append-drop 8 ys

pub same_words : (a b : Block) → ((i : ℕ) → word_bytes a i ≡ word_bytes b i) → a ≡ b
same_words a b same =
    let bytes : a.0 ≡ b.0 = same_slices (length a.0 + length b.0) a.0 b.0 (omega arith) (omega arith) same in
    ap (λ (xs : List ℕ). let c : Block = record { 0 = xs } in c) bytes

-- ---- what is made of which blocks

-- a block is made of blocks among which it is
pub IsMadeOf-one : (blocks : List Block) (b : Block) → Contains blocks b → IsMadeOf blocks b
IsMadeOf-one blocks b inside = λ i. (b, inside, refl)

module _ (few many : List Block) (b : Block) where
  -- what is made of some blocks is made of more blocks
  pub IsMadeOf-more : ((c : Block) → Contains few c → Contains many c) → IsMadeOf few b → IsMadeOf many b
  IsMadeOf-more among made = λ i. let of = made i in (of.0, among of.0 of.1, of.2)

  -- what is made of blocks that are made of others is made of those
  pub IsMadeOf-made : ((c : Block) → Contains few c → IsMadeOf many c) → IsMadeOf few b → IsMadeOf many b
  IsMadeOf-made each made = λ i.
      let of = made i in
      let within = each of.0 of.1 i in
      (within.0, within.1, of.2 ∙ within.2)

-- what is made of one block alone is that block
pub IsMadeOf-only : (blocks : List Block) (c b : Block) → ((d : Block) → Contains blocks d → d ≡ c) → IsMadeOf blocks b → b ≡ c
IsMadeOf-only blocks c b only made = same_words b c (λ i. let of = made i in of.2 ∙ ap (λ (d : Block). word_bytes d i) (only of.0 of.1))

-- ---- two blocks that differ in one word at most

pub IsOneWordApart-sym : (a c : Block) → IsOneWordApart a c → IsOneWordApart c a
IsOneWordApart-sym a c apart = record { word = apart.word; others = λ i ne. sym (apart.others i ne) }

pub IsOneWordApart-same : (a : Block) → IsOneWordApart a a
IsOneWordApart-same a = record { word = 0; others = λ i ne. refl }

module _ (blocks : List Block) (a c b : Block) (apart : IsOneWordApart a c) (each : (d : Block) → Contains blocks d → (d ≡ a) ⊎ (d ≡ c))
    (made : IsMadeOf blocks b) where
  -- a block that is made of two blocks equals the first of them except in the word in which they differ
  other_word : (i : ℕ) → i ≢ apart.word → word_bytes b i ≡ word_bytes a i
  other_word i ne =
      let of = made i in
      elim (each of.0 of.1) as (λ _. word_bytes b i ≡ word_bytes a i) [
        | inl e ↦ of.2 ∙ ap (λ (d : Block). word_bytes d i) e
        | inr e ↦ of.2 ∙ ap (λ (d : Block). word_bytes d i) e ∙ sym (apart.others i ne)
      ]

  -- with that word of the one or the other it is the one or the other
  first_of : word_bytes b apart.word ≡ word_bytes a apart.word → b ≡ a
  first_of here = same_words b a
      (λ i. elim (cases_eq i apart.word) as (λ _. word_bytes b i ≡ word_bytes a i) [
        | inl e ↦ ap (word_bytes b) e ∙ here ∙ ap (word_bytes a) (sym e)
        | inr ne ↦ other_word i ne
      ])

  second_of : word_bytes b apart.word ≡ word_bytes c apart.word → b ≡ c
  second_of here = same_words b c
      (λ i. elim (cases_eq i apart.word) as (λ _. word_bytes b i ≡ word_bytes c i) [
        | inl e ↦ ap (word_bytes b) e ∙ here ∙ ap (word_bytes c) (sym e)
        | inr ne ↦ other_word i ne ∙ apart.others i ne
      ])

  pub IsMadeOf-either : (b ≡ a) ⊎ (b ≡ c)
  IsMadeOf-either =
      let of = made apart.word in
      elim (each of.0 of.1) as (λ _. (b ≡ a) ⊎ (b ≡ c)) [
        | inl e ↦ inl (first_of (of.2 ∙ ap (λ (d : Block). word_bytes d apart.word) e))
        | inr e ↦ inr (second_of (of.2 ∙ ap (λ (d : Block). word_bytes d apart.word) e))
      ]

-- ---- blocks that are given as numbers

-- numbers that are the same but for number k make blocks that differ in word k at most
pub IsOneWordApart-block_of : (k : ℕ) (ws vs : List ℕ) → length vs ≡ length ws → ((i : ℕ) → i ≢ k → slice_index ws i ≡ slice_index vs i)
    → IsOneWordApart (block_of ws) (block_of vs)
IsOneWordApart-block_of k ws vs same others = record {
  word = k;
  others = λ i ne. elim (cases_lt i (length ws)) as (λ _. word_bytes (block_of ws) i ≡ word_bytes (block_of vs) i) [
    | inl l ↦ word_bytes-block_of ws i l (slice_index vs i) (others i ne)
        ∙ sym (word_bytes-block_of vs i (omega (arith, l, same)) (slice_index vs i) refl)
    | inr l ↦ word_bytes-block_of_past ws i l ∙ sym (word_bytes-block_of_past vs i (omega (arith, l, same)))
  ];
}
