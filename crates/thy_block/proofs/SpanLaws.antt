-- The bytes of a span in its one or two blocks are the same bytes of the list.
use Rattle.std.proofs.Common.{◌≡◌, ℕ, ◌+◌, ◌-◌, ◌*◌, ◌/◌, ◌%◌, ◌<◌, ◌≤◌, ◌==◌, Bool, true, false, if◌then◌else◌, List, [], ◌++◌, length, take, drop, slice_set, refl, sym, ◌∙◌, ap, inl, inr, arith}
use Rattle.std.proofs.lemmas.Bool.{cases_lt, eqb-true}
use Rattle.std.proofs.lemmas.List.{append-nil, nil_from_length, length-append, length-drop, length-set, length-take-le, take_all, take-append-drop, drop-drop, get_or-set_other}
use Rattle.std.proofs.Math.Seq.{take-add}
use Rattle.thy_block.specs.declared.block.Block.{Block}
use Rattle.thy_block.specs.Blocks.{block_bytes, block_written, overwritten}
use Rattle.thy_block.specs.Bytes.{written}
use Rattle.thy_block.specs.Device.{zero_block, block_at}
use Rattle.thy_block.proofs.BlockLemmas.{length-block_bytes}
use Rattle.thy_block.proofs.WrittenLemmas.{written-none, written-written}
use Rattle.thy_block.proofs.BasicLemmas.{not_zero}
use Rattle.thy_block.specs.declared.span.Span.{Span}
use Rattle.thy_block.specs.Flat.{flat}
use Rattle.thy_block.specs.Spans.{IsSpanOf, first_block, first_byte, head_len, rest_of, head_in, head_read, gathered, head_put, scattered}
use Rattle.thy_block.proofs.FlatLemmas.{length-flat, flat_part, flat-block_written}

whole_place : (i : ℕ) → 64 * (i / 64) + i % 64 ≡ i
whole_place i = omega arith

-- ---- head and rest

pub head_len-most : (s : Span) → head_len s ≤ s.len
head_len-most s = omega arith

pub head_len-inside : (s : Span) → first_byte s + head_len s ≤ 64
head_len-inside s = omega arith

-- the rest lies in one block
pub head_len-rest : (s : Span) → s.len ≤ 64 → head_len (rest_of s) ≡ s.len - head_len s
head_len-rest s h = omega arith

-- the rest of the rest is empty: a span of at most 64 bytes lies in two blocks
pub rest_of-rest : (s : Span) → s.len ≤ 64 → (rest_of (rest_of s)).len ≡ 0
rest_of-rest s h = omega (arith, head_len-rest s h)

-- a span within one block has no rest
pub rest_of-none : (s : Span) → first_byte s + s.len ≤ 64 → (rest_of s).len ≡ 0
rest_of-none s h = omega arith

first_inside : (blocks : List Block) (s : Span) → 0 < s.len → s.at + s.len ≤ 64 * length blocks → first_block s < length blocks
first_inside blocks s some l = omega arith

-- ---- reading

pub length-head_in : (block : Block) (s : Span) → length (head_in block s) ≡ head_len s
length-head_in block s =
    length-take-le (head_len s) (drop (first_byte s) (block_bytes block))
    (omega (arith, length-drop (first_byte s) (block_bytes block), length-block_bytes block, head_len-inside s))

pub length-gathered : (blocks : List Block) (s : Span) → s.len ≤ 64 → length (gathered blocks s) ≡ s.len
unfolding gathered
length-gathered blocks s h =
    omega (
      arith,
      length-append (head_read blocks s) (head_read blocks (rest_of s)),
      length-head_in (block_at blocks (first_block s)) s,
      length-head_in (block_at blocks (first_block (rest_of s))) (rest_of s),
      head_len-rest s h,
      head_len-most s,
    )

take_none : (n : ℕ) (xs ys : List ℕ) → n ≡ 0 → take n xs ≡ take n ys
take_none n xs ys h = ap (λ k. take k xs) h ∙ ap (λ k. take k ys) (sym h)

head_read-flat : (blocks : List Block) (s : Span) → s.at + s.len ≤ 64 * length blocks
    → head_read blocks s ≡ take (head_len s) (drop s.at (flat blocks))
head_read-flat blocks s l = elim (cases_lt 0 s.len) as (λ _. head_read blocks s ≡ take (head_len s) (drop s.at (flat blocks))) [
  | inl some ↦
      sym (flat_part blocks (first_block s) (first_byte s) (head_len s) (first_inside blocks s some l) (head_len-inside s))
      ∙ ap (λ x. take (head_len s) (drop x (flat blocks))) (whole_place s.at)
  | inr none ↦ take_none (head_len s) (drop (first_byte s) (block_bytes (block_at blocks (first_block s)))) (drop s.at (flat blocks)) (omega arith)
]

-- the bytes of a span
pub gathered-flat : (blocks : List Block) (s : Span) → IsSpanOf (length blocks) s → gathered blocks s ≡ take s.len (drop s.at (flat blocks))
unfolding gathered
gathered-flat blocks s h =
    let n = head_len s in
    let from = drop s.at (flat blocks) in
    let most = head_len-most s in
    let rest : n + (s.len - n) ≡ s.len = omega arith in
    ap (λ t. t ++ head_read blocks (rest_of s)) (head_read-flat blocks s h.inside)
    ∙ ap (λ t. take n from ++ t) (head_read-flat blocks (rest_of s) (omega (arith, h.inside)))
    ∙ ap (λ k. take n from ++ take k (drop (s.at + n) (flat blocks))) (head_len-rest s h.short)
    ∙ ap (λ t. take n from ++ take (s.len - n) t) (sym (drop-drop n s.at (flat blocks)))
    ∙ sym (take-add n (s.len - n) from)
    ∙ ap (λ k. take k from) rest

-- nothing is read of a span without bytes
pub gathered-none : (blocks : List Block) (s : Span) → s.len ≡ 0 → gathered blocks s ≡ []
gathered-none blocks s h = nil_from_length (gathered blocks s) (length-gathered blocks s (omega arith) ∙ h)

-- a span's first block and then the rest
pub gathered-rest : (blocks : List Block) (s : Span) → s.len ≤ 64 → head_read blocks s ++ gathered blocks (rest_of s) ≡ gathered blocks s
unfolding gathered
gathered-rest blocks s h =
    let r = rest_of s in
    let none : head_len (rest_of r) ≡ 0 = omega (arith, rest_of-rest s h, head_len-most (rest_of r)) in
    let e : head_read blocks (rest_of r) ≡ [] =
    ap (λ k. take k (drop (first_byte (rest_of r)) (block_bytes (block_at blocks (first_block (rest_of r)))))) none in
    ap (λ t. head_read blocks s ++ (head_read blocks r ++ t)) e ∙ ap (λ t. head_read blocks s ++ t) (append-nil (head_read blocks r))

-- ---- writing

-- a fact of the blocks with a piece in one of them, or as they are
if_put : (P : List Block → Type 0) (b : Bool) (old new : List Block) → (b ≡ true → P old) → (b ≡ false → P new) → P (if b then old else new)
if_put P true old new p q = p refl
if_put P false old new p q = q refl

flat-head_put : (blocks : List Block) (s : Span) (bytes : List ℕ) → s.at + s.len ≤ 64 * length blocks → head_len s ≤ length bytes
    → flat (head_put blocks s bytes) ≡ written (flat blocks) s.at (take (head_len s) bytes)
flat-head_put blocks s bytes l enough =
    let piece = take (head_len s) bytes in
    let n : length piece ≡ head_len s = length-take-le (head_len s) bytes enough in
    if_put (λ new. flat new ≡ written (flat blocks) s.at piece) (s.len == 0) blocks (block_written blocks (first_block s) (first_byte s) piece)
    (λ e.
    let none : s.len ≡ 0 = eqb-true s.len 0 e in
    let zero_len : head_len s ≡ 0 = omega arith in
    sym (ap (λ k. written (flat blocks) s.at (take k bytes)) zero_len ∙ written-none (flat blocks) s.at))
    (λ e.
    flat-block_written blocks (first_block s) (first_byte s) piece (first_inside blocks s (not_zero s.len e) l) (omega (arith, n, head_len-inside s))
    ∙ ap (λ x. written (flat blocks) x piece) (whole_place s.at))

pub length-head_put : (blocks : List Block) (s : Span) (bytes : List ℕ) → length (head_put blocks s bytes) ≡ length blocks
length-head_put blocks s bytes =
    let b = overwritten (first_byte s) (take (head_len s) bytes) (block_at blocks (first_block s)) in
    if_put (λ new. length new ≡ length blocks) (s.len == 0) blocks (slice_set blocks (first_block s) b) (λ _. refl)
    (λ _. length-set blocks (first_block s) b)

head_put-none : (blocks : List Block) (s : Span) (bytes : List ℕ) → s.len ≡ 0 → head_put blocks s bytes ≡ blocks
head_put-none blocks s bytes h =
    if_put (λ new. new ≡ blocks) (s.len == 0) blocks (block_written blocks (first_block s) (first_byte s) (take (head_len s) bytes))
    (λ _. refl)
    (λ e. absurd (omega (arith, not_zero s.len e)))

module _ (blocks : List Block) (s : Span) (bytes : List ℕ) where
  -- over a span without bytes nothing is written
  pub scattered-none : s.len ≡ 0 → scattered blocks s bytes ≡ blocks
  unfolding scattered
  scattered-none h =
      head_put-none (head_put blocks s bytes) (rest_of s) (drop (head_len s) bytes) (omega arith) ∙ head_put-none blocks s bytes h

  -- the bytes of blocks, with others written over a span
  pub flat-scattered : IsSpanOf (length blocks) s → length bytes ≡ s.len
      → flat (scattered blocks s bytes) ≡ written (flat blocks) s.at bytes
  unfolding scattered
  flat-scattered h is =
      let n = head_len s in
      let most = head_len-most s in
      let one = take n bytes in
      let two = drop n bytes in
      let l : length one ≡ n = length-take-le n bytes (omega (arith, is)) in
      let m : length two ≡ s.len - n = length-drop n bytes ∙ ap (λ k. k - n) is in
      let r = head_len-rest s h.short in
      let after = head_put blocks s bytes in
      let same = length-head_put blocks s bytes in
      flat-head_put after (rest_of s) two (omega (arith, same, h.inside)) (omega (arith, r, m))
      ∙ ap (λ t. written (flat after) (s.at + n) t) (take_all (head_len (rest_of s)) two (omega (arith, r, m)))
      ∙ ap (λ t. written t (s.at + n) two) (flat-head_put blocks s bytes h.inside (omega (arith, is)))
      ∙ ap (λ k. written (written (flat blocks) s.at one) (s.at + k) two) (sym l)
      ∙ written-written (flat blocks) s.at one two (omega (arith, l, length-flat blocks, h.inside))
      ∙ ap (written (flat blocks) s.at) (take-append-drop n bytes)

  -- a span's first block and then the rest
  pub scattered-rest : s.len ≤ 64 → scattered (head_put blocks s bytes) (rest_of s) (drop (head_len s) bytes) ≡ scattered blocks s bytes
  unfolding scattered
  scattered-rest h =
      let r = rest_of s in
      let now = head_put (head_put blocks s bytes) r (drop (head_len s) bytes) in
      let more = drop (head_len r) (drop (head_len s) bytes) in
      if_put (λ new. new ≡ now) ((rest_of r).len == 0) now
      (block_written now (first_block (rest_of r)) (first_byte (rest_of r)) (take (head_len (rest_of r)) more))
      (λ _. refl)
      (λ e. absurd (omega (arith, not_zero (rest_of r).len e, rest_of-rest s h)))

  -- a block in which a span has no bytes at its start is as before
  pub head_put-others : (b : ℕ) → (0 < s.len → b ≡ first_block s → ⊥) → block_at (head_put blocks s bytes) b ≡ block_at blocks b
  head_put-others b other =
      let c = overwritten (first_byte s) (take (head_len s) bytes) (block_at blocks (first_block s)) in
      if_put (λ new. block_at new b ≡ block_at blocks b) (s.len == 0) blocks (slice_set blocks (first_block s) c)
      (λ _. refl)
      (λ e. get_or-set_other blocks (first_block s) b c zero_block (other (not_zero s.len e)))
