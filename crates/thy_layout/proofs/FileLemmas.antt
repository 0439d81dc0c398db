-- The blocks of bytes: their words, and tables in them.
use Rattle.std.proofs.Common.{◌≡◌, ℕ, ◌+◌, ◌-◌, ◌*◌, ◌/◌, ◌%◌, ◌<◌, ◌≤◌, List, length, map, take, drop, None, sym, ◌∙◌, ap, arith}
use Rattle.std.proofs.lemmas.List.{take_all, ext_get_or, length-drop, length-take-le, drop-drop, drop-take, take-take, length-map}
use Rattle.std.proofs.lemmas.List.FromFn.{length-map-range_with_len, get_or-map-range_with_len, length-range_with_len}
use Rattle.std.specs.List.{range_with_len}
use Rattle.thy_block.specs.declared.block.Block.{Block}
use Rattle.thy_block.specs.Blocks.{block_bytes}
use Rattle.thy_block.specs.Device.{zero_block, block_at}
use Rattle.thy_block.specs.LittleEndian.{number_at}
use Rattle.thy_block.proofs.BlockLemmas.{length-block_bytes, block_bytes-long}
use Rattle.thy_block.proofs.LittleEndianLemmas.{number_at-take, number_at-drop}
use Rattle.thy_block.specs.Flat.{flat, AllLong}
use Rattle.thy_block.proofs.FlatLemmas.{length-flat, flat_part}
use Rattle.thy_block.specs.Words.{word_of}
use Rattle.thy_layout.specs.Cpu.{record_word}
use Rattle.thy_layout.specs.Entries.{entry_from}
use Rattle.thy_layout.specs.Files.{block_in, blocks_of, table_in}
use Rattle.thy_layout.specs.Slots.{entries_in}
use Rattle.thy_layout.proofs.ClashLemmas.{length-table_in, entry_at-table_in}
use Rattle.thy_layout.proofs.AskingLemmas.{block_at-numbers}
use Rattle.thy_layout.proofs.SlotLemmas.{length-entries_in, entry_at-entries_in}

-- the blocks of bytes: one for each 64 of them
pub length-blocks_of : (bytes : List ℕ) → length (blocks_of bytes) ≡ length bytes / 64
length-blocks_of bytes = length-map-range_with_len (block_in bytes) 0 (length bytes / 64)

pub block_at-blocks_of : (bytes : List ℕ) (k : ℕ) → k < length bytes / 64 → block_at (blocks_of bytes) k ≡ block_in bytes k
block_at-blocks_of bytes k l = get_or-map-range_with_len (block_in bytes) 0 (length bytes / 64) k k zero_block l (omega arith)

-- word i of their blocks
pub record_word-blocks_of : (bytes : List ℕ) (i : ℕ) → i / 8 < length bytes / 64
    → record_word (blocks_of bytes) i ≡ number_at 8 bytes (8 * i)
unfolding record_word word_of
record_word-blocks_of bytes i l =
    let at : 64 * (i / 8) + 8 * (i % 8) ≡ 8 * i = omega arith in
    ap (λ (b : Block). number_at 8 b.0 (8 * (i % 8))) (block_at-blocks_of bytes (i / 8) l)
    ∙ number_at-take 8 64 (drop (64 * (i / 8)) bytes) (8 * (i % 8)) (omega arith)
    ∙ number_at-drop 8 (64 * (i / 8)) bytes (8 * (i % 8))
    ∙ ap (number_at 8 bytes) at

-- n entries in these bytes, from word `first` on
pub table_in-part : (bytes : List ℕ) (first n : ℕ) → 8 * first + 8 * n ≤ 64 * (length bytes / 64)
    → table_in (take (8 * n) (drop (8 * first) bytes)) ≡ entries_in (blocks_of bytes) first n
table_in-part bytes first n inside =
    let part = take (8 * n) (drop (8 * first) bytes) in
    let long : length (take (8 * n) (drop (8 * first) bytes)) ≡ 8 * n
    = length-take-le (8 * n) (drop (8 * first) bytes) (omega (arith, length-drop (8 * first) bytes)) in
    let left : length (table_in (take (8 * n) (drop (8 * first) bytes))) ≡ n =
    omega (arith, length-table_in (take (8 * n) (drop (8 * first) bytes)), long) in
    let right = length-entries_in (blocks_of bytes) first n in
    ext_get_or None (table_in (take (8 * n) (drop (8 * first) bytes))) (entries_in (blocks_of bytes) first n) (left ∙ sym right)
    (λ i below.
    let l : i < n = omega (arith, left) in
    let at : 8 * first + 8 * i ≡ 8 * (first + i) = omega arith in
    entry_at-table_in (take (8 * n) (drop (8 * first) bytes)) i (omega (arith, long))
    ∙ ap entry_from (number_at-take 8 (8 * n) (drop (8 * first) bytes) (8 * i) (omega arith)
    ∙ number_at-drop 8 (8 * first) bytes (8 * i)
    ∙ ap (number_at 8 bytes) at
    ∙ sym (record_word-blocks_of bytes (first + i) (omega arith)))
    ∙ sym (entry_at-entries_in (blocks_of bytes) first n i l))

-- block k of n blocks of bytes, from block s on
pub block_in-part : (bytes : List ℕ) (s n k : ℕ) → k < n → block_in (take (64 * n) (drop (64 * s) bytes)) k ≡ block_in bytes (s + k)
block_in-part bytes s n k l =
    let whole : 64 * k + (64 * n - 64 * k) ≡ 64 * n = omega arith in
    let at : 64 * s + 64 * k ≡ 64 * (s + k) = omega arith in
    let same : take 64 (drop (64 * k) (take (64 * n) (drop (64 * s) bytes))) ≡ take 64 (drop (64 * (s + k)) bytes) =
    ap (λ m. take 64 (drop (64 * k) (take m (drop (64 * s) bytes)))) (sym whole)
    ∙ ap (take 64) (drop-take (64 * k) (64 * n - 64 * k) (drop (64 * s) bytes))
    ∙ take-take 64 (64 * n - 64 * k) (drop (64 * k) (drop (64 * s) bytes)) (omega arith)
    ∙ ap (take 64) (drop-drop (64 * k) (64 * s) bytes ∙ ap (λ m. drop m bytes) at) in
    ap (λ bytes. record { 0 = bytes }) same

-- n blocks of bytes from block x on
pub blocks_of-part : (bytes : List ℕ) (x n : ℕ) → x + n ≤ length bytes / 64
    → blocks_of (take (64 * n) (drop (64 * x) bytes)) ≡ map (block_at (blocks_of bytes)) (range_with_len x n)
blocks_of-part bytes x n inside =
    let part : length (take (64 * n) (drop (64 * x) bytes)) ≡ 64 * n
    = length-take-le (64 * n) (drop (64 * x) bytes) (omega (arith, length-drop (64 * x) bytes)) in
    let left : length (blocks_of (take (64 * n) (drop (64 * x) bytes))) ≡ n =
    omega (arith, length-blocks_of (take (64 * n) (drop (64 * x) bytes)), part) in
    let right : length (map (block_at (blocks_of bytes)) (range_with_len x n)) ≡ n
    = length-map (range_with_len x n) (block_at (blocks_of bytes)) ∙ length-range_with_len x n in
    ext_get_or zero_block (blocks_of (take (64 * n) (drop (64 * x) bytes))) (map (block_at (blocks_of bytes)) (range_with_len x n))
    (left ∙ sym right)
    (λ k below.
    let l : k < n = omega (arith, left) in
    block_at-blocks_of (take (64 * n) (drop (64 * x) bytes)) k (omega (arith, part))
    ∙ block_in-part bytes x n k l
    ∙ sym (block_at-blocks_of bytes (x + k) (omega arith))
    ∙ sym (block_at-numbers (block_at (blocks_of bytes)) x n k l))

pub table_in-slice : (bytes : List ℕ) (m x first n : ℕ) → m ≡ 8 * n → x ≡ 8 * first → 8 * first + 8 * n ≤ 64 * (length bytes / 64)
    → table_in (take m (drop x bytes)) ≡ entries_in (blocks_of bytes) first n
table_in-slice bytes m x first n e f inside =
    ap (λ k. table_in (take k (drop x bytes))) e ∙ ap (λ k. table_in (take (8 * n) (drop k bytes))) f ∙ table_in-part bytes first n inside

-- the blocks of an image's bytes are the image's
pub blocks_of-flat : (image : List Block) → AllLong image → blocks_of (flat image) ≡ image
blocks_of-flat image long =
    let all : length (flat image) / 64 ≡ length image = omega (arith, length-flat image) in
    let same = length-blocks_of (flat image) in
    ext_get_or zero_block (blocks_of (flat image)) image (same ∙ all)
    (λ k below.
    let l : k < length image = omega (arith, same, all) in
    let plain : 64 * k ≡ 64 * k + 0 = omega arith in
    let one = long.each k l in
    let bytes : take 64 (drop (64 * k) (flat image)) ≡ (block_at image k).0 =
    ap (λ x. take 64 (drop x (flat image))) plain
    ∙ flat_part image k 0 64 l (omega arith)
    ∙ take_all 64 (block_bytes (block_at image k)) (omega (arith, length-block_bytes (block_at image k)))
    ∙ block_bytes-long (block_at image k) one in
    block_at-blocks_of (flat image) k (omega (arith, all)) ∙ ap (λ bytes. record { 0 = bytes }) bytes)
