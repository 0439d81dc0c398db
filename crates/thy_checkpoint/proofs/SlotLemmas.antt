-- The blocks of the slot, as they are read; what a boot has read once it has migrated, and the image that this is.
use Rattle.std.proofs.Common.{◌≡◌, ℕ, ◌+◌, ◌*◌, ◌/◌, ◌-◌, ◌<◌, ◌≤◌, List, ◌++◌, length, map, take, drop, refl, sym, ◌∙◌, ap, subst, inl, inr, arith, [], ◌∷◌, replicate, slice_set}
use Rattle.std.specs.List.{range_with_len}
use Rattle.std.proofs.lemmas.Bool.{cases_eq, cases_lt}
use Rattle.std.proofs.lemmas.List.{length-map, ext_get_or, length-take, length-take-le, length-drop, drop-append-le, take-append-le, drop-take, take-take, take_at, drop_at, get_or-take, length-append, length-replicate, take-append-drop, append_assoc, drop-drop, drop-replicate, take-replicate, get_or_past}
use Rattle.std.proofs.lemmas.List.FromFn.{length-range_with_len, get_or-map-range_with_len, fill_by_all}
use Rattle.thy_block.specs.declared.block.Block.{Block}
use Rattle.thy_block.specs.Bytes.{written}
use Rattle.thy_block.specs.Device.{block_at, zero_block, Device, write_of, applied, drained, surplus, written_to, at_rest}
use Rattle.thy_block.specs.declared.nvm.Write.{Write}
use Rattle.thy_block.proofs.DeviceLemmas.{applied-append}
use Rattle.thy_layout.specs.Saved.{next_image}
use Rattle.thy_layout.specs.Files.{block_in, blocks_of}
use Rattle.thy_layout.specs.Layout.{Layout, slot_in}
use Rattle.thy_layout.proofs.FileLemmas.{length-blocks_of, block_at-blocks_of, block_in-part}
use Rattle.thy_computer.specs.Issuing.{slot_of}
use Rattle.thy_checkpoint.specs.Boot.{Booting, layout_in, slot_read}
use Rattle.thy_checkpoint.specs.Filling.{FillingOf, IsFilling, anew}
use Rattle.thy_checkpoint.specs.Recovers.{HasCommit, HasSlot}
use Rattle.thy_checkpoint.specs.Migrating.{cleared, renewed, renewed_parts}

-- what is below what was written
pub take_below : (xs ys : List ℕ) (a n b : ℕ) → a + n ≤ b → b ≤ length xs → take n (drop a (take b xs ++ ys)) ≡ take n (drop a xs)
take_below xs ys a n b l inside =
    let size : length (take b xs) ≡ b = length-take b xs ∙ omega (arith, inside) in
    let part : length (drop a (take b xs)) ≡ b - a = length-drop a (take b xs) ∙ ap (λ k. k - a) size in
    let whole : a + (b - a) ≡ b = omega arith in
    ap (take n) (drop-append-le a (take b xs) ys (omega (arith, size)))
    ∙ take-append-le n (drop a (take b xs)) ys (omega (arith, part))
    ∙ ap (λ k. take n (drop a (take k xs))) (sym whole) ∙ ap (take n) (drop-take a (b - a) xs)
    ∙ take-take n (b - a) (drop a xs) (omega arith)

-- the bytes that were written, read back
take_here : (xs ys zs : List ℕ) (b n : ℕ) → b ≤ length xs → length ys ≡ n → take n (drop b (take b xs ++ (ys ++ zs))) ≡ ys
take_here xs ys zs b n inside size =
    let long : length (take b xs) ≡ b = length-take b xs ∙ omega (arith, inside) in
    ap (take n) (drop_at (take b xs) (ys ++ zs) b long) ∙ take_at ys zs n size

-- a block below the one that was written
pub block_in-below : (slot : List ℕ) (m k : ℕ) (block : Block) → m < k → 64 * k + 64 ≤ length slot
    → block_in (written slot (64 * k) block.0) m ≡ block_in slot m
block_in-below slot m k block below room =
    ap (λ (bytes : List ℕ). record { 0 = bytes })
    (take_below slot (block.0 ++ drop (64 * k + length block.0) slot) (64 * m) 64 (64 * k) (omega arith) (omega (arith, room)))

-- the blocks that were kept, with one more
pub HasSlot-more : (l : Layout) (g : List Block) (commit : Block) (k : ℕ) (slot : List ℕ) (block : Block) → 64 * k + 64 ≤ length slot
    → length block.0 ≡ 64
    → block ≡ block_at g (l.slot_place commit + k) → HasSlot l g commit k slot → HasSlot l g commit (k + 1) (written slot (64 * k) block.0)
HasSlot-more l g commit k slot block room size is h = record {
  each = λ m below. elim (cases_eq m k) as (λ _. block_in (written slot (64 * k) block.0) m ≡ block_at g (l.slot_place commit + m)) [
    | inl e ↦
        subst (λ (i : ℕ). block_in (written slot (64 * k) block.0) i ≡ block_at g (l.slot_place commit + i)) (sym e)
        (ap (λ (bytes : List ℕ). record { 0 = bytes })
        (take_here slot block.0 (drop (64 * k + length block.0) slot) (64 * k) 64 (omega (arith, room)) size) ∙ is)
    | inr ne ↦
        block_in-below slot m k block (omega (arith, below, ne)) room ∙ h.each m (omega arith)
  ];
}

-- the first blocks of the room are an image's, if each of them is
whole_blocks : (g : List Block) (slot : List ℕ) (room z first : ℕ) → length slot ≡ 64 * room → z ≤ room
    → ((i : ℕ) → i < z → block_in slot i ≡ block_at g (first + i)) → take z (blocks_of slot) ≡ map (block_at g) (range_with_len first z)
whole_blocks g slot room z first size most each =
    let count : length slot / 64 ≡ room = omega (arith, size) in
    let blocks : length (blocks_of slot) ≡ room
    = length-map (range_with_len 0 (length slot / 64)) (block_in slot) ∙ length-range_with_len 0 (length slot / 64) ∙ count in
    let size_a : length (take z (blocks_of slot)) ≡ z = length-take z (blocks_of slot) ∙ omega (arith, blocks, most) in
    let size_b : length (map (block_at g) (range_with_len first z)) ≡ z
    = length-map (range_with_len first z) (block_at g) ∙ length-range_with_len first z in
    ext_get_or zero_block (take z (blocks_of slot)) (map (block_at g) (range_with_len first z)) (size_a ∙ sym size_b)
    (λ i below.
    let inside : i < z = omega (arith, below, size_a) in
    get_or-take z (blocks_of slot) i zero_block inside
    ∙ get_or-map-range_with_len (block_in slot) 0 (length slot / 64) i i zero_block (omega (arith, inside, count, most)) (omega arith)
    ∙ each i inside
    ∙ sym (get_or-map-range_with_len (block_at g) first z i (first + i) zero_block inside refl))

-- the blocks of the first bytes
pub blocks_of-take : (bytes : List ℕ) (n : ℕ) → 64 * n ≤ length bytes → blocks_of (take (64 * n) bytes) ≡ take n (blocks_of bytes)
blocks_of-take bytes n inside =
    let part : length (take (64 * n) bytes) ≡ 64 * n = length-take-le (64 * n) bytes inside in
    let left : length (blocks_of (take (64 * n) bytes)) ≡ n = omega (arith, length-blocks_of (take (64 * n) bytes), part) in
    let right : length (take n (blocks_of bytes)) ≡ n = length-take-le n (blocks_of bytes) (omega (arith, length-blocks_of bytes)) in
    ext_get_or zero_block (blocks_of (take (64 * n) bytes)) (take n (blocks_of bytes)) (left ∙ sym right)
    (λ k below.
    let l : k < n = omega (arith, left) in
    let plain : 0 + k ≡ k = omega arith in
    block_at-blocks_of (take (64 * n) bytes) k (omega (arith, part))
    ∙ block_in-part bytes 0 n k l ∙ ap (block_in bytes) plain
    ∙ sym (get_or-take n (blocks_of bytes) k zero_block l ∙ block_at-blocks_of bytes k (omega arith)))

-- all blocks of the slot, read into the room, are the slot
pub slot_is_whole : {C : Type 0} (F : FillingOf C) (g : List Block) (b : Booting) (k : ℕ) → HasCommit g b.commit
    → length b.slot ≡ 64 * (layout_in F b).most_slot
    → (layout_in F b).slot_blocks b.commit ≤ (layout_in F b).most_slot → k ≡ (layout_in F b).slot_blocks b.commit
    → HasSlot (layout_in F b) g b.commit k b.slot
    → slot_read F b ≡ slot_in (layout_in F b) g
slot_is_whole F g b k commit room most all h =
    let l : Layout = layout_in F b in
    whole_blocks g b.slot l.most_slot (l.slot_blocks b.commit) (l.slot_place b.commit) room most (λ i inside. h.each i (omega (arith, inside, all)))
    ∙ ap (λ (x : Block). map (block_at g) (range_with_len (l.slot_place x) (l.slot_blocks x))) (sym commit.is)

-- ---- the slot

pub length-cleared : (from : ℕ) (bytes : List ℕ) → from ≤ length bytes → length (cleared from bytes) ≡ length bytes
length-cleared from bytes inside =
    length-append (take from bytes) (replicate (length bytes - from) 0)
    ∙ omega (arith, inside, length-take-le from bytes inside, length-replicate {A = ℕ} (length bytes - from) 0)

-- a block after the ones that were kept
cleared-behind : (n i : ℕ) (bytes : List ℕ) → n ≤ i → 64 * i + 64 ≤ length bytes → block_in (cleared (64 * n) bytes) i ≡ zero_block
unfolding zero_block
cleared-behind n i bytes past inside =
    let kept : List ℕ = take (64 * n) bytes in
    let zeros : List ℕ = replicate (length bytes - 64 * n) 0 in
    let long : length kept ≡ 64 * n = length-take-le (64 * n) bytes (omega (arith, past, inside)) in
    let more : ℕ = 64 * i - 64 * n in
    let at : 64 * n + more ≡ 64 * i = omega (arith, past) in
    let rest : drop (64 * i) (kept ++ zeros) ≡ replicate (length bytes - 64 * n - more) 0
    = ap (λ (k : ℕ). drop k (kept ++ zeros)) (sym at)
    ∙ sym (drop-drop more (64 * n) (kept ++ zeros))
    ∙ ap (drop more) (drop_at kept zeros (64 * n) long)
    ∙ drop-replicate more (length bytes - 64 * n) 0 in
    ap (λ (xs : List ℕ). record { 0 = xs })
    (ap (take 64) rest ∙ take-replicate 64 (length bytes - 64 * n - more) 0 (omega (arith, past, inside)))

module _ {C : Type 0} (F : FillingOf C) (laws : IsFilling F) (b : Booting) (room : length b.slot ≡ 64 * (layout_in F b).most_slot) where
  abbrev l : Layout
  l = layout_in F b

  abbrev found : ℕ
  found = l.slot_blocks b.commit

  abbrev more : ℕ
  more = l.slot_blocks (anew b.commit)

  abbrev bytes : List ℕ
  bytes = cleared (64 * found) b.slot

  most_found : found ≤ l.most_slot
  most_found = (laws.laid.slot b.p b.commit).most

  most_more : more ≤ l.most_slot
  most_more = (laws.laid.slot b.p (anew b.commit)).most

  pub length-renewed : length bytes ≡ 64 * l.most_slot
  length-renewed = length-cleared (64 * found) b.slot (omega (arith, room, most_found)) ∙ room

  same_block : (k : ℕ) → k < more → block_in bytes k ≡ block_at (slot_read F b) k
  same_block k below = elim (cases_lt k found) as (λ _. block_in bytes k ≡ block_at (slot_read F b) k) [
    | inl low ↦
        ap (λ (xs : List ℕ). record { 0 = xs })
        (take_below b.slot (replicate (length b.slot - 64 * found) 0) (64 * k) 64 (64 * found) (omega (arith, low))
        (omega (arith, room, most_found)))
        ∙ sym (block_at-blocks_of b.slot k (omega (arith, room, low, most_found)))
        ∙ sym (get_or-take found (blocks_of b.slot) k zero_block low)
    | inr past ↦
        let size : length (take found (blocks_of b.slot)) ≡ found
        = length-take-le found (blocks_of b.slot) (omega (arith, length-blocks_of b.slot, room, most_found)) in
        cleared-behind found k b.slot past (omega (arith, room, below, most_more))
        ∙ sym (get_or_past (take found (blocks_of b.slot)) k zero_block (omega (arith, size, past)))
  ]

  -- what a boot that has migrated has of the slot is what was written
  pub renewed-slot : slot_read F (renewed F b) ≡ slot_of (renewed_parts F b)
  renewed-slot =
      let whole : length (take more (blocks_of bytes)) ≡ more
      = length-take-le more (blocks_of bytes) (omega (arith, length-blocks_of bytes, length-renewed, most_more)) in
      fill_by_all (block_at (slot_read F b)) (take more (blocks_of bytes)) more zero_block whole
      (λ k below.
      get_or-take more (blocks_of bytes) k zero_block below
      ∙ block_at-blocks_of bytes k (omega (arith, length-renewed, below, most_more))
      ∙ same_block k below)

-- ---- the image

-- a write of the commit block, and all writes before it, make the next image
pub next-written : (n : Device) (commit : Block) → (at_rest (written_to n 1 commit)).image ≡ next_image n commit
next-written n commit =
    let w : List Write = write_of 1 commit ∷ [] in
    let first : List Write = take (surplus n) n.queue in
    let rest : List Write = drop (surplus n) n.queue in
    sym (applied-append n.image first (rest ++ w))
    ∙ ap (applied n.image) (sym (append_assoc first rest w))
    ∙ ap (λ (q : List Write). applied n.image (q ++ w)) (take-append-drop (surplus n) n.queue)
    ∙ applied-append n.image n.queue w

pub settled-drained : (n : Device) → (at_rest (drained n)).image ≡ (at_rest n).image
settled-drained n =
    sym (applied-append n.image (take 1 n.queue) (drop 1 n.queue)) ∙ ap (applied n.image) (take-append-drop 1 n.queue)

pub next-drained : (n : Device) (commit : Block) → next_image (drained n) commit ≡ next_image n commit
next-drained n commit = ap (λ (image : List Block). slice_set image 1 commit) (settled-drained n)
