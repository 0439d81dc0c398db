-- Lists with a piece written over them.
use Rattle.std.proofs.Common.{◌≡◌, ℕ, ◌+◌, ◌-◌, ◌≤◌, List, [], ◌++◌, length, take, drop, sym, ◌∙◌, ap, arith, append_assoc}
use Rattle.std.proofs.lemmas.List.{length-append, length-drop, length-take-le, take-append-drop, take-append-le, drop-append-le, take_at, drop_at, drop-drop, drop-take, take-take}
use Rattle.std.proofs.Math.Seq.{take-add}
use Rattle.thy_block.specs.Bytes.{written}

-- a write keeps the length
pub length-written : (bytes : List ℕ) (at : ℕ) (piece : List ℕ) → at + length piece ≤ length bytes
    → length (written bytes at piece) ≡ length bytes
length-written bytes at piece l =
    omega (
      arith,
      length-append (take at bytes) (piece ++ drop (at + length piece) bytes),
      length-append piece (drop (at + length piece) bytes),
      length-take-le at bytes (omega arith),
      length-drop (at + length piece) bytes,
    )

-- a piece without bytes changes nothing
pub written-none : (bytes : List ℕ) (at : ℕ) → written bytes at [] ≡ bytes
written-none bytes at = let e : at + 0 ≡ at = omega arith in ap (λ n. take at bytes ++ drop n bytes) e ∙ take-append-drop at bytes

-- a piece written at the start
pub written-start : (bytes piece : List ℕ) → written bytes 0 piece ≡ piece ++ drop (length piece) bytes
written-start bytes piece = let e : 0 + length piece ≡ length piece = omega arith in ap (λ n. piece ++ drop n bytes) e

-- a piece written into the first of two lists
pub written-left : (xs ys piece : List ℕ) (j : ℕ) → j + length piece ≤ length xs → written (xs ++ ys) j piece ≡ written xs j piece ++ ys
written-left xs ys piece j l =
    ap (λ t. t ++ (piece ++ drop (j + length piece) (xs ++ ys))) (take-append-le j xs ys (omega arith))
    ∙ ap (λ t. take j xs ++ (piece ++ t)) (drop-append-le (j + length piece) xs ys l)
    ∙ ap (λ t. take j xs ++ t) (sym (append_assoc piece (drop (j + length piece) xs) ys))
    ∙ sym (append_assoc (take j xs) (piece ++ drop (j + length piece) xs) ys)

-- a piece written into the second of two lists leaves the first
pub written-right : (xs ys piece : List ℕ) (n i : ℕ) → length xs ≡ n → written (xs ++ ys) (n + i) piece ≡ xs ++ written ys i piece
written-right xs ys piece n i h =
    let e : n + i + length piece ≡ n + (i + length piece) = omega arith in
    let front : take (n + i) (xs ++ ys) ≡ xs ++ take i ys =
    take-add n i (xs ++ ys) ∙ ap (λ t. t ++ take i (drop n (xs ++ ys))) (take_at xs ys n h) ∙ ap (λ t. xs ++ take i t) (drop_at xs ys n h) in
    let back : drop (n + i + length piece) (xs ++ ys) ≡ drop (i + length piece) ys =
    ap (λ x. drop x (xs ++ ys)) e ∙ sym (drop-drop (i + length piece) n (xs ++ ys)) ∙ ap (drop (i + length piece)) (drop_at xs ys n h) in
    ap (λ t. t ++ (piece ++ drop (n + i + length piece) (xs ++ ys))) front
    ∙ ap (λ t. (xs ++ take i ys) ++ (piece ++ t)) back
    ∙ append_assoc xs (take i ys) (piece ++ drop (i + length piece) ys)

module _ (bytes : List ℕ) (i s : ℕ) (piece : List ℕ) where
  -- the first bytes with a piece written among them
  pub take-written : i + length piece ≤ s → s ≤ length bytes → take s (written bytes i piece) ≡ written (take s bytes) i piece
  take-written l most =
      let here = length-take-le s bytes most in
      ap (λ t. take s (written t i piece)) (sym (take-append-drop s bytes))
      ∙ ap (take s) (written-left (take s bytes) (drop s bytes) piece i (omega (arith, here)))
      ∙ take_at (written (take s bytes) i piece) (drop s bytes) s (length-written (take s bytes) i piece (omega (arith, here)) ∙ here)

  -- what is after them stays
  pub drop-written : i + length piece ≤ s → s ≤ length bytes → drop s (written bytes i piece) ≡ drop s bytes
  drop-written l most =
      let here = length-take-le s bytes most in
      ap (λ t. drop s (written t i piece)) (sym (take-append-drop s bytes))
      ∙ ap (drop s) (written-left (take s bytes) (drop s bytes) piece i (omega (arith, here)))
      ∙ drop_at (written (take s bytes) i piece) (drop s bytes) s (length-written (take s bytes) i piece (omega (arith, here)) ∙ here)

  -- a piece written after the first s bytes leaves those
  pub take-written_behind : s ≤ length bytes → take s (written bytes (s + i) piece) ≡ take s bytes
  take-written_behind most =
      let here = length-take-le s bytes most in
      ap (λ t. take s (written t (s + i) piece)) (sym (take-append-drop s bytes))
      ∙ ap (take s) (written-right (take s bytes) (drop s bytes) piece s i here)
      ∙ take_at (take s bytes) (written (drop s bytes) i piece) s here

  -- a piece written after the first s bytes is written among the bytes after them
  pub drop-written_behind : s ≤ length bytes → drop s (written bytes (s + i) piece) ≡ written (drop s bytes) i piece
  drop-written_behind most =
      let here = length-take-le s bytes most in
      ap (λ t. drop s (written t (s + i) piece)) (sym (take-append-drop s bytes))
      ∙ ap (drop s) (written-right (take s bytes) (drop s bytes) piece s i here)
      ∙ drop_at (take s bytes) (written (drop s bytes) i piece) s here

-- two pieces, one after the other, are one
pub written-written : (bytes : List ℕ) (at : ℕ) (one two : List ℕ) → at + length one ≤ length bytes
    → written (written bytes at one) (at + length one) two ≡ written bytes at (one ++ two)
written-written bytes at one two l =
    let front = take at bytes in
    let rest = drop (at + length one) bytes in
    let n : length (front ++ one) ≡ at + length one = omega (arith, length-append front one, length-take-le at bytes (omega arith)) in
    let e : at + length one + 0 ≡ at + length one = omega arith in
    let all : at + length one + length two ≡ at + length (one ++ two) = omega (arith, length-append one two) in
    let behind : drop (length two) rest ≡ drop (at + length (one ++ two)) bytes =
    drop-drop (length two) (at + length one) bytes ∙ ap (λ k. drop k bytes) all in
    ap (λ t. written t (at + length one) two) (sym (append_assoc front one rest))
    ∙ ap (λ k. written ((front ++ one) ++ rest) k two) (sym e)
    ∙ written-right (front ++ one) rest two (at + length one) 0 n
    ∙ append_assoc front one (written rest 0 two)
    ∙ ap (λ t. front ++ (one ++ t)) (written-start rest two)
    ∙ ap (λ t. front ++ (one ++ (two ++ t))) behind
    ∙ ap (λ t. front ++ t) (sym (append_assoc one two (drop (at + length (one ++ two)) bytes)))

-- the first bytes, up to the end of a piece written among them
pub take-written_end : (bytes : List ℕ) (at : ℕ) (piece : List ℕ) → at ≤ length bytes
    → take (at + length piece) (written bytes at piece) ≡ take at bytes ++ piece
take-written_end bytes at piece l =
    let front = take at bytes in
    let n : length (front ++ piece) ≡ at + length piece = omega (arith, length-append front piece, length-take-le at bytes l) in
    ap (take (at + length piece)) (sym (append_assoc front piece (drop (at + length piece) bytes)))
    ∙ take_at (front ++ piece) (drop (at + length piece) bytes) (at + length piece) n

-- bytes of the first ones
pub take-drop_take : (bytes : List ℕ) (at len size : ℕ) → at + len ≤ size → take len (drop at (take size bytes)) ≡ take len (drop at bytes)
take-drop_take bytes at len size l =
    let e : at + (size - at) ≡ size = omega arith in
    ap (λ n. take len (drop at (take n bytes))) (sym e)
    ∙ ap (take len) (drop-take at (size - at) bytes)
    ∙ take-take len (size - at) (drop at bytes) (omega arith)
