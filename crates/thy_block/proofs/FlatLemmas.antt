-- The bytes of a list of blocks: how many there are, and where a block's bytes are.
use Rattle.std.proofs.Common.{◌≡◌, ℕ, zero, suc, ◌+◌, ◌*◌, ◌<◌, ◌≤◌, List, [], ◌∷◌, ◌++◌, length, take, drop, get_or, slice_index, refl, sym, ◌∙◌, ap, arith, append_assoc}
use Rattle.std.proofs.lemmas.List.{append-nil, length-append, length-drop, length-take-le, take-append-drop, take_at, take_more, get_or_append_left, get_or-append-add, take-append-le, drop-append-le, drop-drop, drop_at}
use Rattle.thy_block.specs.declared.block.Block.{Block}
use Rattle.thy_block.specs.Blocks.{block_bytes, block_written}
use Rattle.thy_block.specs.Bytes.{written}
use Rattle.thy_block.specs.Device.{block_at}
use Rattle.thy_block.proofs.BlockLemmas.{length-block_bytes, block_bytes-overwritten}
use Rattle.thy_block.proofs.WrittenLemmas.{written-left, written-right}
use Rattle.thy_block.specs.Flat.{flat}

pub flat-nil : flat [] ≡ []
unfolding flat
flat-nil = refl

-- how many bytes blocks have
pub length-flat : (blocks : List Block) → length (flat blocks) ≡ 64 * length blocks
unfolding flat
length-flat [] = refl
length-flat (b ∷ bs) = omega (arith, length-append (block_bytes b) (flat bs), length-block_bytes b, length-flat bs)

pub flat-append : (xs ys : List Block) → flat (xs ++ ys) ≡ flat xs ++ flat ys
unfolding flat
flat-append [] ys = refl
flat-append (b ∷ xs) ys = ap (λ t. block_bytes b ++ t) (flat-append xs ys) ∙ sym (append_assoc (block_bytes b) (flat xs) (flat ys))

-- byte j of block k
pub flat_at : (blocks : List Block) (k j : ℕ) → k < length blocks → j < 64
    → slice_index (flat blocks) (64 * k + j) ≡ slice_index (block_bytes (block_at blocks k)) j
unfolding flat
flat_at [] k j l small = absurd (omega arith)
flat_at (b ∷ bs) zero j l small =
    let one = length-block_bytes b in
    let e : 64 * zero + j ≡ j = omega arith in
    ap (slice_index (block_bytes b ++ flat bs)) e ∙ get_or_append_left (block_bytes b) (flat bs) 0 j (omega (arith, one))
flat_at (b ∷ bs) (suc k) j l small =
    let one = length-block_bytes b in
    let e : 64 * suc k + j ≡ length (block_bytes b) + (64 * k + j) = omega (arith, one) in
    ap (slice_index (block_bytes b ++ flat bs)) e
    ∙ get_or-append-add (block_bytes b) (flat bs) (64 * k + j) 0
    ∙ flat_at bs k j (omega arith) small

-- a piece written within block k is written among the bytes
pub flat-block_written : (blocks : List Block) (k j : ℕ) (piece : List ℕ) → k < length blocks → j + length piece ≤ 64
    → flat (block_written blocks k j piece) ≡ written (flat blocks) (64 * k + j) piece
unfolding flat
flat-block_written [] k j piece l small = absurd (omega arith)
flat-block_written (b ∷ bs) zero j piece l small =
    let one = length-block_bytes b in
    let e : j ≡ 64 * zero + j = omega arith in
    ap (λ t. t ++ flat bs) (block_bytes-overwritten j piece b small)
    ∙ sym (written-left (block_bytes b) (flat bs) piece j (omega (arith, one)))
    ∙ ap (λ x. written (block_bytes b ++ flat bs) x piece) e
flat-block_written (b ∷ bs) (suc k) j piece l small =
    let one = length-block_bytes b in
    let e : 64 + (64 * k + j) ≡ 64 * suc k + j = omega arith in
    ap (λ t. block_bytes b ++ t) (flat-block_written bs k j piece (omega arith) small)
    ∙ sym (written-right (block_bytes b) (flat bs) piece 64 (64 * k + j) one)
    ∙ ap (λ x. written (block_bytes b ++ flat bs) x piece) e

-- the bytes of block k from byte j on
pub flat_part : (blocks : List Block) (k j n : ℕ) → k < length blocks → j + n ≤ 64
    → take n (drop (64 * k + j) (flat blocks)) ≡ take n (drop j (block_bytes (block_at blocks k)))
unfolding flat
flat_part [] k j n l small = absurd (omega arith)
flat_part (b ∷ bs) zero j n l small =
    let one = length-block_bytes b in
    let e : 64 * zero + j ≡ j = omega arith in
    ap (λ x. take n (drop x (block_bytes b ++ flat bs))) e
    ∙ ap (take n) (drop-append-le j (block_bytes b) (flat bs) (omega (arith, one)))
    ∙ take-append-le n (drop j (block_bytes b)) (flat bs) (omega (arith, one, length-drop j (block_bytes b)))
flat_part (b ∷ bs) (suc k) j n l small =
    let e : 64 * suc k + j ≡ 64 + (64 * k + j) = omega arith in
    ap (λ x. take n (drop x (block_bytes b ++ flat bs))) e
    ∙ ap (take n) (sym (drop-drop (64 * k + j) 64 (block_bytes b ++ flat bs))
    ∙ ap (drop (64 * k + j)) (drop_at (block_bytes b) (flat bs) 64 (length-block_bytes b)))
    ∙ flat_part bs k j n (omega arith) small

-- ---- the first blocks, and the rest

module _ (k : ℕ) (blocks : List Block) where
  flat_parts : flat (take k blocks) ++ flat (drop k blocks) ≡ flat blocks
  flat_parts = sym (flat-append (take k blocks) (drop k blocks)) ∙ ap flat (take-append-drop k blocks)

  length-flat_take : k ≤ length blocks → length (flat (take k blocks)) ≡ 64 * k
  length-flat_take l = length-flat (take k blocks) ∙ ap (λ n. 64 * n) (length-take-le k blocks l)

  pub flat-take : k ≤ length blocks → flat (take k blocks) ≡ take (64 * k) (flat blocks)
  flat-take l =
      sym (ap (take (64 * k)) (sym flat_parts) ∙ take_at (flat (take k blocks)) (flat (drop k blocks)) (64 * k) (length-flat_take l))

  pub flat-drop : k ≤ length blocks → flat (drop k blocks) ≡ drop (64 * k) (flat blocks)
  flat-drop l =
      sym (ap (drop (64 * k)) (sym flat_parts) ∙ drop_at (flat (take k blocks)) (flat (drop k blocks)) (64 * k) (length-flat_take l))

-- the bytes of one block alone
pub flat-one : (b : Block) → flat (b ∷ []) ≡ block_bytes b
unfolding flat
flat-one b = append-nil (block_bytes b)

-- the bytes of one block more
pub flat_more : (blocks : List Block) (i : ℕ) (d : Block) → i < length blocks
    → flat (take (i + 1) blocks) ≡ flat (take i blocks) ++ block_bytes (get_or blocks i d)
flat_more blocks i d l =
    ap flat (take_more blocks i d l)
    ∙ flat-append (take i blocks) (get_or blocks i d ∷ [])
    ∙ ap (λ xs. flat (take i blocks) ++ xs) (flat-one (get_or blocks i d))
