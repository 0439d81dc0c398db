-- A piece written after a piece.
use Rattle.std.proofs.Common.{◌≡◌, ℕ, ◌+◌, ◌-◌, ◌≤◌, List, ◌++◌, length, take, drop, sym, ap, ◌∙◌, append_assoc, length-append, arith}
use Rattle.std.proofs.lemmas.List.{drop-drop, length-take, length-drop}
use Rattle.std.proofs.lemmas.Slice.{take-put_mid, drop-put_mid}
use borrow.Rule.Slice.PartMut.{put_mid}
use Rattle.thy_block.specs.Bytes.{written}

-- a piece written, and then one after it, is both written at once
pub put_mid_twice : (memory first second : List ℕ) (at n z : ℕ)
    → n ≡ length first → z ≡ length second → at + n + z ≤ length memory
    → put_mid (at + n) (at + n + z - (at + n)) (put_mid at (at + n - at) memory first) second ≡ written memory at (first ++ second)
put_mid_twice memory first second at n z is_n is_z fits =
    let once : List ℕ = put_mid at (at + n - at) memory first in
    let before : take (at + n) once ≡ take at memory ++ first = take-put_mid at (at + n - at) memory first (at + n) (omega arith) (omega arith) in
    let joined : drop (at + n + z - (at + n)) (drop (at + n) once) ≡ drop (at + length (first ++ second)) once =
    drop-drop (at + n + z - (at + n)) (at + n) once ∙ ap (λ i. drop i once) (omega (arith, length-append first second)) in
    let after : drop (at + length (first ++ second)) once ≡ drop (at + length (first ++ second)) memory =
    drop-put_mid at (at + n - at) memory first (at + length (first ++ second)) (omega (arith, length-append first second))
    (omega arith) (omega arith) in
    rw (before, joined, after) (
    append_assoc (take at memory) first (second ++ drop (at + length (first ++ second)) memory)
    ∙ ap (λ xs. take at memory ++ xs) (sym (append_assoc first second (drop (at + length (first ++ second)) memory))))

-- a list is as long after a write to a part of it
pub length-put_mid : (memory piece : List ℕ) (at n : ℕ) → n ≡ length piece → at + n ≤ length memory
    → length (put_mid at n memory piece) ≡ length memory
length-put_mid memory piece at n is_n fits =
    simp (length-append, length-take, length-drop) (omega arith)
