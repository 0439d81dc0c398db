-- The blocks of bytes.
use Rattle.std.proofs.Common.{◌≡◌, ℕ, ◌+◌, ◌*◌, ◌/◌, ◌%◌, ◌<◌, ◌≤◌, List, ◌++◌, length, drop, slice_index, map, replicate, sym, ◌∙◌, ap, subst, inl, inr, lit<, arith}
use Rattle.std.specs.List.{All}
use Rattle.std.proofs.lemmas.Bool.{cases_lt}
use Rattle.std.proofs.lemmas.List.{length-take-le, length-drop, length-map, get_or_past, get_or-map}
use Rattle.std.proofs.lemmas.List.Elements.{All-append, All-replicate, All-take, All-drop, All-from_get_or}
use Rattle.thy_block.specs.declared.block.Block.{Block}
use Rattle.thy_block.specs.Blocks.{block_bytes}
use Rattle.thy_block.specs.Device.{zero_block, block_at}
use Rattle.thy_block.specs.Flat.{flat, AllLong}
use Rattle.thy_block.proofs.FlatLemmas.{length-flat, flat_at}
use Rattle.thy_isa.specs.Storable.{IsByte}
use Rattle.thy_isa.proofs.MemoryBounds.{anywhere}
use Rattle.thy_layout.specs.Files.{blocks_of}
use Rattle.thy_layout.proofs.FileLemmas.{length-blocks_of, block_at-blocks_of}

-- each block of bytes is whole
pub AllLong-blocks_of : (bytes : List ℕ) → AllLong (blocks_of bytes)
AllLong-blocks_of bytes = record {
  each = λ k l. let inside : k < length bytes / 64 = omega (arith, length-blocks_of bytes) in
      ap (λ (b : Block). length b.0) (block_at-blocks_of bytes k inside)
      ∙ length-take-le 64 (drop (64 * k) bytes) (omega (arith, length-drop (64 * k) bytes));
}

-- ---- their bytes

-- the blocks of a list are of bytes
pub record AreOfBytes (blocks : List Block) : Type 0 where
  pub each : (k : ℕ) → All IsByte (block_at blocks k).0

of_bytes-zero : All IsByte zero_block.0
unfolding zero_block
of_bytes-zero = All-replicate IsByte 64 0 (lit< tt)

of_bytes-past : (blocks : List Block) (k : ℕ) → length blocks ≤ k → All IsByte (block_at blocks k).0
of_bytes-past blocks k l = subst (λ (b : Block). All IsByte b.0) (sym (get_or_past blocks k zero_block l)) of_bytes-zero

pub AreOfBytes-blocks_of : (bytes : List ℕ) → All IsByte bytes → AreOfBytes (blocks_of bytes)
AreOfBytes-blocks_of bytes h = record {
  each = λ k. elim (cases_lt k (length bytes / 64)) as (λ _. All IsByte (block_at (blocks_of bytes) k).0) [
    | inl l ↦ subst (λ (b : Block). All IsByte b.0) (sym (block_at-blocks_of bytes k l))
        (All-take IsByte 64 (drop (64 * k) bytes) (All-drop IsByte (64 * k) bytes h))
    | inr l ↦ of_bytes-past (blocks_of bytes) k (omega (arith, length-blocks_of bytes))
  ];
}

-- blocks that are picked from an image by their numbers
pub AreOfBytes-picked : (image : List Block) (numbers : List ℕ) → AreOfBytes image → AreOfBytes (map (block_at image) numbers)
AreOfBytes-picked image numbers h = record {
  each = λ k. elim (cases_lt k (length numbers)) as (λ _. All IsByte (block_at (map (block_at image) numbers) k).0) [
    | inl l ↦ subst (λ (b : Block). All IsByte b.0) (sym (get_or-map (block_at image) numbers k 0 zero_block l)) (h.each (slice_index numbers k))
    | inr l ↦ of_bytes-past (map (block_at image) numbers) k (omega (arith, length-map numbers (block_at image)))
  ];
}

block_bytes-bytes : (b : Block) → All IsByte b.0 → All IsByte (block_bytes b)
unfolding block_bytes
block_bytes-bytes b h = All-take IsByte 64 (b.0 ++ replicate 64 0) (All-append IsByte b.0 (replicate 64 0) h (All-replicate IsByte 64 0 (lit< tt)))

pub flat-bytes : (blocks : List Block) → AreOfBytes blocks → All IsByte (flat blocks)
flat-bytes blocks h =
    All-from_get_or IsByte (flat blocks) 0
    (λ i l.
    let at : 64 * (i / 64) + i % 64 ≡ i = omega arith in
    let inside : i / 64 < length blocks = omega (arith, length-flat blocks) in
    let there : slice_index (flat blocks) i ≡ slice_index (block_bytes (block_at blocks (i / 64))) (i % 64) =
    ap (slice_index (flat blocks)) (sym at) ∙ flat_at blocks (i / 64) (i % 64) inside (omega arith) in
    subst IsByte (sym there) (anywhere IsByte (lit< tt) (block_bytes (block_at blocks (i / 64))) (block_bytes-bytes (block_at blocks (i / 64)) (h.each (i / 64))) (i % 64)))
