-- The 64 bytes of a block.
use Rattle.std.proofs.Common.{◌≡◌, ℕ, ◌+◌, ◌≤◌, List, ◌++◌, length, replicate, ◌∙◌, ap, arith, slice_index_or, inl, inr}
use Rattle.std.proofs.lemmas.List.{length-append, length-replicate, length-take-le, take_at, get_or-replicate, get_or_past}
use Rattle.std.proofs.lemmas.Bool.{cases_lt}
use Rattle.thy_block.specs.declared.block.Block.{Block}
use Rattle.thy_block.specs.Blocks.{block_bytes, overwritten}
use Rattle.thy_block.specs.Bytes.{written}
use Rattle.thy_block.proofs.WrittenLemmas.{length-written}
use Rattle.thy_block.specs.Device.{zero_block}

pub length-block_bytes : (b : Block) → length (block_bytes b) ≡ 64
unfolding block_bytes
length-block_bytes b =
    length-take-le 64 (b.0 ++ replicate 64 0) (omega (arith, length-append b.0 (replicate 64 0), length-replicate {A = ℕ} 64 0))

-- the 64 bytes of a block that has 64 bytes are its own
pub block_bytes-long : (b : Block) → length b.0 ≡ 64 → block_bytes b ≡ b.0
unfolding block_bytes
block_bytes-long b h = take_at b.0 (replicate 64 0) 64 h

module _ (j : ℕ) (piece : List ℕ) (b : Block) where
  -- a piece written over a block changes those bytes, and gives a block that has 64
  pub length-overwritten : j + length piece ≤ 64 → length (overwritten j piece b).0 ≡ 64
  length-overwritten l =
      let all = length-block_bytes b in
      length-written (block_bytes b) j piece (omega (arith, all)) ∙ all

  pub block_bytes-overwritten : j + length piece ≤ 64 → block_bytes (overwritten j piece b) ≡ written (block_bytes b) j piece
  block_bytes-overwritten l = block_bytes-long (overwritten j piece b) (length-overwritten l)

  -- over a block that has 64 bytes it is written over its own
  pub overwritten-long : length b.0 ≡ 64 → overwritten j piece b ≡ record { 0 = written b.0 j piece }
  overwritten-long h = ap (λ (bytes : List ℕ). let c : Block = record { 0 = written bytes j piece } in c) (block_bytes-long b h)

-- each byte of a block of zeros is 0
pub zero_block-at : (j : ℕ) → slice_index_or zero_block.0 j 0 ≡ 0
unfolding zero_block
zero_block-at j = elim (cases_lt j 64) as (λ _. slice_index_or (replicate {A = ℕ} 64 0) j 0 ≡ 0) [
  | inl l ↦ get_or-replicate {A = ℕ} 64 j 0 0 l
  | inr m ↦ get_or_past {X = ℕ} (replicate {A = ℕ} 64 0) j 0 (omega (arith, length-replicate {A = ℕ} 64 0))
]
