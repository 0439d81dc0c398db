-- A loop that writes draws over bytes, and the draws of each block.
use Rattle.std.proofs.Common.{◌≡◌, ℕ, zero, suc, ◌+◌, ◌*◌, ◌<◌, ◌%◌, List, [], ◌∷◌, ◌++◌, length, take, drop, replicate, slice_set, refl, sym, ◌∙◌, ap, arith}
use Rattle.std.proofs.lemmas.List.{append_assoc, take_more_set, drop-set-lt, at_drop_more}
use Rattle.thy_block.specs.declared.block.Block.{Block}
use Rattle.thy_block.specs.Device.{block_at}
use Rattle.thy_block.specs.Lcg.{lcg_next, lcg_draw}
use Rattle.thy_dram.specs.Draws.{bytes_over, after_bytes, drawn_block, after_block, blocks_over}
use Rattle.thy_dram.specs.Jumps.{after_draws}
use Rattle.thy_dram.proofs.JumpLemmas.{after_draws-none, after_draws-more, after_draws-add}

-- one byte more is written over
pub bytes_over-step : (xs : List ℕ) (i draws draw next : ℕ) → i < length xs → draw ≡ lcg_draw (lcg_next draws) % 256 → next ≡ lcg_next draws
    → take (i + 1) (slice_set xs i draw) ++ bytes_over next (drop (i + 1) (slice_set xs i draw)) ≡ take i xs ++ bytes_over draws (drop i xs)
unfolding bytes_over
bytes_over-step xs i draws draw next l e f =
    let after : i < i + 1 = omega arith in
    let rest : bytes_over draws (drop i xs) ≡ lcg_draw (lcg_next draws) % 256 ∷ bytes_over (lcg_next draws) (drop (i + 1) xs) =
    at_drop_more (bytes_over draws) xs i 0 l in
    ap (λ ys. ys ++ bytes_over next (drop (i + 1) (slice_set xs i draw))) (take_more_set xs i draw l)
    ∙ append_assoc (take i xs) (draw ∷ []) (bytes_over next (drop (i + 1) (slice_set xs i draw)))
    ∙ ap (λ ys. take i xs ++ draw ∷ bytes_over next ys) (drop-set-lt (i + 1) xs i draw after)
    ∙ ap (λ d. take i xs ++ d ∷ bytes_over next (drop (i + 1) xs)) e
    ∙ ap (λ n. take i xs ++ (lcg_draw (lcg_next draws) % 256) ∷ bytes_over n (drop (i + 1) xs)) f
    ∙ ap (λ ys. take i xs ++ ys) (sym rest)

-- the draws that are left after one more draw begin with the next state
pub after_bytes-step : (xs : List ℕ) (i draws draw next : ℕ) → i < length xs → next ≡ lcg_next draws
    → after_bytes next (drop (i + 1) (slice_set xs i draw)) ≡ after_bytes draws (drop i xs)
unfolding after_bytes
after_bytes-step xs i draws draw next l f =
    let after : i < i + 1 = omega arith in
    let rest : after_bytes draws (drop i xs) ≡ after_bytes (lcg_next draws) (drop (i + 1) xs) = at_drop_more (after_bytes draws) xs i 0 l in
    ap (after_bytes next) (drop-set-lt (i + 1) xs i draw after) ∙ ap (λ n. after_bytes n (drop (i + 1) xs)) f ∙ sym rest

-- what is written over does not matter
pub blocks_over-length : (seed : ℕ) (xs ys : List Block) → length xs ≡ length ys → blocks_over seed xs ≡ blocks_over seed ys
blocks_over-length seed [] [] e = refl
blocks_over-length seed [] (y ∷ ys) e = absurd (omega arith)
blocks_over-length seed (x ∷ xs) [] e = absurd (omega arith)
blocks_over-length seed (x ∷ xs) (y ∷ ys) e = ap (λ bs. drawn_block seed ∷ bs) (blocks_over-length (after_block seed) xs ys (omega arith))

-- a loss of power leaves the same number of blocks
pub length-over : (seed : ℕ) (xs : List Block) → length (blocks_over seed xs) ≡ length xs
length-over seed [] = refl
length-over seed (x ∷ xs) = ap suc (length-over (after_block seed) xs)

-- each byte takes one draw
after_bytes-draws : (seed : ℕ) (bs : List ℕ) → after_bytes seed bs ≡ after_draws (length bs) seed
unfolding after_bytes
after_bytes-draws seed [] = sym (after_draws-none seed)
after_bytes-draws seed (b ∷ bs) = after_bytes-draws (lcg_next seed) bs ∙ sym (after_draws-more (length bs) seed)

-- a block takes 64 draws
pub after_block-draws : (seed : ℕ) → after_block seed ≡ after_draws 64 seed
unfolding after_block
after_block-draws seed = after_bytes-draws seed (replicate 64 0)

-- each block takes its draws after all draws of the blocks before it
pub block_at-over : (seed : ℕ) (xs : List Block) (x : ℕ) → x < length xs
    → block_at (blocks_over seed xs) x ≡ drawn_block (after_draws (x * 64) seed)
block_at-over seed [] x l = absurd (omega arith)
block_at-over seed (b ∷ bs) zero l = ap drawn_block (sym (after_draws-none seed))
block_at-over seed (b ∷ bs) (suc x) l =
    let next : 64 + x * 64 ≡ suc x * 64 = omega arith in
    block_at-over (after_block seed) bs x (omega arith)
    ∙ ap drawn_block (ap (after_draws (x * 64)) (after_block-draws seed) ∙ sym (after_draws-add 64 (x * 64) seed)
    ∙ ap (λ n. after_draws n seed) next)
