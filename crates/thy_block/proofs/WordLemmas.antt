-- Words of a block that was made of words.
use Rattle.std.proofs.Common.{◌≡◌, ℕ, zero, suc, ◌+◌, ◌*◌, ◌^◌, ◌<◌, ◌≤◌, List, [], ◌∷◌, ◌++◌, length, take, drop, slice_index, refl, sym, ◌∙◌, ap, arith}
use Rattle.std.proofs.lemmas.List.{drop-drop, drop_all, take_at, length-append}
use Rattle.std.specs.List.{flat_map}
use Rattle.byteorder.specs.Endian.{little_bytes, little_number}
use Rattle.byteorder.specs.Numbers.{little_number-reads_back, length-bytes_low_first}
use Rattle.thy_block.specs.Device.{word_bytes}
use Rattle.thy_block.specs.LittleEndian.{number_bytes}
use Rattle.thy_block.proofs.LittleEndianLemmas.{little_from-drop}
use Rattle.thy_block.specs.Words.{word_of, block_of}

-- the bytes of words from word i on
drop-words : (ws : List ℕ) (i : ℕ) → i < length ws
    → drop (8 * i) (flat_map (little_bytes 8) ws) ≡ little_bytes 8 (slice_index ws i) ++ flat_map (little_bytes 8) (drop (suc i) ws)
drop-words [] i l = absurd (omega arith)
drop-words (w ∷ ws) zero l = refl
drop-words (w ∷ ws) (suc i) l =
    let e : 8 * suc i ≡ 8 + 8 * i = omega arith in
    ap (λ n. drop n (flat_map (little_bytes 8) (w ∷ ws))) e
    ∙ sym (drop-drop (8 * i) 8 (flat_map (little_bytes 8) (w ∷ ws)))
    ∙ drop-words ws i (omega arith)

-- a word that was written reads back
pub word_of-block_of : (ws : List ℕ) (i : ℕ) → i < length ws → slice_index ws i < 2 ^ 64 → word_of (block_of ws) i ≡ slice_index ws i
unfolding word_of block_of number_bytes
word_of-block_of ws i l fits =
    sym (little_from-drop 8 (8 * i) (flat_map (little_bytes 8) ws))
    ∙ ap (little_number 8) (drop-words ws i l)
    ∙ little_number-reads_back 8 (slice_index ws i) (flat_map (little_bytes 8) (drop (suc i) ws)) fits

-- the bytes of a word that was written are its number's
pub word_bytes-block_of : (ws : List ℕ) (i : ℕ) → i < length ws → (w : ℕ) → slice_index ws i ≡ w
    → word_bytes (block_of ws) i ≡ little_bytes 8 w
unfolding block_of number_bytes
word_bytes-block_of ws i l w is =
    ap (take 8) (drop-words ws i l)
    ∙ take_at (little_bytes 8 (slice_index ws i)) (flat_map (little_bytes 8) (drop (suc i) ws)) 8 (length-bytes_low_first 0 8 (slice_index ws i))
    ∙ ap (little_bytes 8) is

length-words : (ws : List ℕ) → length (flat_map (little_bytes 8) ws) ≡ 8 * length ws
length-words [] = refl
length-words (w ∷ ws) =
    let more : length (flat_map (little_bytes 8) (w ∷ ws)) ≡ length (little_bytes 8 w) + length (flat_map (little_bytes 8) ws)
    = length-append (little_bytes 8 w) (flat_map (little_bytes 8) ws) in
    omega (arith, more, length-bytes_low_first 0 8 w, length-words ws)

-- past the last word there is none
pub word_bytes-block_of_past : (ws : List ℕ) (i : ℕ) → length ws ≤ i → word_bytes (block_of ws) i ≡ []
unfolding block_of number_bytes
word_bytes-block_of_past ws i l =
    ap (take 8) (drop_all (8 * i) (flat_map (little_bytes 8) ws) (omega (arith, length-words ws, l)))
