-- Numbers in parts of a list of bytes, and their bounds.
use Rattle.std.proofs.Common.{◌≡◌, ℕ, zero, suc, ◌+◌, ◌*◌, ◌<◌, ◌≤◌, ◌^◌, List, take, drop, slice_index, refl, ◌∙◌, ap, arith, pow-suc}
use Rattle.std.proofs.lemmas.List.{get_or-take, get_or-drop}
use Rattle.byteorder.specs.Endian.{little_from}
use Rattle.thy_block.specs.LittleEndian.{number_at}

from_below : (n : ℕ) (bytes : List ℕ) (i : ℕ) → ((k : ℕ) → slice_index bytes k < 256) → little_from i n bytes < 256 ^ n
from_below zero bytes i h = omega arith
from_below (suc n) bytes i h =
    let low : slice_index bytes i < 256 = h i in
    omega (arith, from_below n bytes (suc i) h, pow-suc 256 n)

-- n bytes are a number below 256 ^ n
pub number_at-below : (n : ℕ) (bytes : List ℕ) (i : ℕ) → ((k : ℕ) → slice_index bytes k < 256) → number_at n bytes i < 256 ^ n
unfolding number_at
number_at-below n bytes i h = from_below n bytes i h

from_take : (n m : ℕ) (bytes : List ℕ) (i : ℕ) → i + n ≤ m → little_from i n (take m bytes) ≡ little_from i n bytes
from_take zero m bytes i l = refl
from_take (suc n) m bytes i l =
    ap (λ x. x + 256 * little_from (suc i) n (take m bytes)) (get_or-take m bytes i 0 (omega arith))
    ∙ ap (λ x. slice_index bytes i + 256 * x) (from_take n m bytes (suc i) (omega arith))

from_drop : (n j : ℕ) (bytes : List ℕ) (i : ℕ) → little_from i n (drop j bytes) ≡ little_from (j + i) n bytes
from_drop zero j bytes i = refl
from_drop (suc n) j bytes i =
    let moved : j + suc i ≡ suc (j + i) = omega arith in
    ap (λ x. x + 256 * little_from (suc i) n (drop j bytes)) (get_or-drop j bytes i 0)
    ∙ ap (λ x. slice_index bytes (j + i) + 256 * x) (from_drop n j bytes (suc i) ∙ ap (λ k. little_from k n bytes) moved)

-- the first m bytes hold the same number
pub number_at-take : (n m : ℕ) (bytes : List ℕ) (i : ℕ) → i + n ≤ m → number_at n (take m bytes) i ≡ number_at n bytes i
unfolding number_at
number_at-take n m bytes i l = from_take n m bytes i l

-- the bytes from byte j on hold the same number, j places earlier
pub number_at-drop : (n j : ℕ) (bytes : List ℕ) (i : ℕ) → number_at n (drop j bytes) i ≡ number_at n bytes (j + i)
unfolding number_at
number_at-drop n j bytes i = from_drop n j bytes i

-- the number at byte j is read at the start of the bytes from j on, as code reads it
pub little_from-drop : (n j : ℕ) (bytes : List ℕ) → little_from 0 n (drop j bytes) ≡ number_at n bytes j
unfolding number_at
little_from-drop n j bytes = let start : j + 0 ≡ j = omega arith in from_drop n j bytes 0 ∙ ap (λ k. little_from k n bytes) start

-- the number at byte j is read at the start of a part of the bytes that begins at j, if the part is long enough
pub little_from-part : (n m j : ℕ) (bytes : List ℕ) → n ≤ m → little_from 0 n (take m (drop j bytes)) ≡ number_at n bytes j
little_from-part n m j bytes l = from_take n m (drop j bytes) 0 (omega arith) ∙ little_from-drop n j bytes
