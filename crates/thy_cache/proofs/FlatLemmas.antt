-- A cache read as a flat list, after one of its sets has changed.
use Rattle.std.proofs.Common.{◌≡◌, ◌≢◌, ℕ, ◌<◌, ◌%◌, List, length, slice_set, Option, sym, ◌∙◌, ap, inl, inr, arith}
use Rattle.std.proofs.lemmas.Bool.{cases_eq}
use Rattle.std.proofs.lemmas.List.{length-set, get_or-set_same, get_or-set_other, ext_get_or}
use Rattle.std.proofs.lemmas.List.FromFn.{length-map-range_with_len, get_or-map-range_with_len}
use Rattle.thy_block.specs.declared.block.Block.{Block}
use Rattle.thy_block.specs.Device.{zero_block, block_at}
use Rattle.thy_cache.specs.declared.line.Line.{Line}
use Rattle.thy_cache.specs.Ways.{Ways, line_in}
use Rattle.thy_cache.specs.Contents.{Contents, no_ways, set_at, set_of, index_of, line_of, with_set}
use Rattle.thy_cache.specs.Flat.{flat_at, flat, SetAgrees, Agrees}

-- the flat list is as long as the store's
pub length-flat : (c : Contents) (blocks : List Block) → length (flat c blocks) ≡ length blocks
unfolding flat
length-flat c blocks = length-map-range_with_len (flat_at c blocks) 0 (length blocks)

-- a block of the flat list
pub block_at-flat : (c : Contents) (blocks : List Block) (b : ℕ) → b < length blocks → block_at (flat c blocks) b ≡ flat_at c blocks b
unfolding flat
block_at-flat c blocks b inside = get_or-map-range_with_len (flat_at c blocks) 0 (length blocks) b b zero_block inside (omega arith)

-- two that read the same at each block are one list
pub flat-same : (c d : Contents) (blocks others : List Block) → length blocks ≡ length others
    → ((b : ℕ) → b < length blocks → flat_at c blocks b ≡ flat_at d others b) → flat c blocks ≡ flat d others
flat-same c d blocks others e each =
    ext_get_or zero_block (flat c blocks) (flat d others) (length-flat c blocks ∙ e ∙ sym (length-flat d others))
    (λ i l. let inside : i < length blocks = omega (arith, l, length-flat c blocks) in
    let inside_too : i < length others = omega (arith, inside, e) in
    block_at-flat c blocks i inside ∙ each i inside ∙ sym (block_at-flat d others i inside_too))

module _ (c d : Contents) (blocks : List Block) (b : ℕ) (block : Block) (inside : b < length blocks) (here : flat_at c blocks b ≡ block)
    (others : ((x : ℕ) → x ≢ b → flat_at c blocks x ≡ flat_at d blocks x)) where
  -- a block of a flat list in which one was put
  pub put_at : (i : ℕ) → i < length blocks → flat_at c blocks i ≡ block_at (slice_set (flat d blocks) b block) i
  put_at i inside_i = elim (cases_eq i b) as (λ _. flat_at c blocks i ≡ block_at (slice_set (flat d blocks) b block) i) [
    | inl same ↦
        let in_flat : b < length (flat d blocks) = omega (arith, inside, length-flat d blocks) in
        ap (flat_at c blocks) same ∙ here ∙ sym (get_or-set_same (flat d blocks) b block zero_block in_flat)
        ∙ ap (block_at (slice_set (flat d blocks) b block)) (sym same)
    | inr other ↦ others i other ∙ sym (block_at-flat d blocks i inside_i) ∙ sym (get_or-set_other (flat d blocks) b i block zero_block other)
  ]

  -- two flat lists that read the same but for one block are the same but for that block
  pub flat-put : flat c blocks ≡ slice_set (flat d blocks) b block
  flat-put =
      ext_get_or zero_block (flat c blocks) (slice_set (flat d blocks) b block)
      (length-flat c blocks ∙ sym (length-flat d blocks) ∙ sym (length-set (flat d blocks) b block))
      (λ i l. let inside_i : i < length blocks = omega (arith, l, length-flat c blocks) in
      block_at-flat c blocks i inside_i ∙ put_at i inside_i)

-- the flat list of a cache that holds no block otherwise than the store is the store's list
pub flat-none : (c : Contents) (blocks : List Block) → ((b : ℕ) → b < length blocks → flat_at c blocks b ≡ block_at blocks b)
    → flat c blocks ≡ blocks
flat-none c blocks each =
    ext_get_or zero_block (flat c blocks) blocks (length-flat c blocks)
    (λ i l. let inside : i < length blocks = omega (arith, l, length-flat c blocks) in block_at-flat c blocks i inside ∙ each i inside)

-- a changed set by its number
pub set_at-same : (c : Contents) (s : ℕ) (set : Ways) → s < length c.sets → set_at (with_set s set c) s ≡ set
set_at-same c s set inside = get_or-set_same c.sets s set no_ways inside

pub set_at-other : (c : Contents) (s t : ℕ) (set : Ways) → t ≢ s → set_at (with_set s set c) t ≡ set_at c t
set_at-other c s t set other = get_or-set_other c.sets s t set no_ways other

-- replacing a set leaves the number of sets
pub sets-same : (c : Contents) (s : ℕ) (set : Ways) → length (with_set s set c).sets ≡ length c.sets
sets-same c s set = length-set c.sets s set

-- a block's set, where that has changed and where another has
pub set_of-same : (c : Contents) (s : ℕ) (set : Ways) (x : ℕ) → s < length c.sets → index_of c x ≡ s → set_of (with_set s set c) x ≡ set
set_of-same c s set x inside e = ap (λ n. set_at (with_set s set c) (x % n)) (sets-same c s set) ∙ ap (set_at (with_set s set c)) e
    ∙ set_at-same c s set inside

pub set_of-other : (c : Contents) (s : ℕ) (set : Ways) (x : ℕ) → index_of c x ≢ s → set_of (with_set s set c) x ≡ set_of c x
set_of-other c s set x other = ap (λ n. set_at (with_set s set c) (x % n)) (sets-same c s set) ∙ set_at-other c s (index_of c x) set other

-- what is the same of each block's line in the set is so in the cache
pub line_of-kept : {Y : Type 0} (g : Option Line → Y) (c : Contents) (s : ℕ) (set : Ways) (x : ℕ) → s < length c.sets
    → g (line_in set x) ≡ g (line_in (set_at c s) x) → g (line_of (with_set s set c) x) ≡ g (line_of c x)
line_of-kept g c s set x inside same = elim (cases_eq (index_of c x) s) as (λ _. g (line_of (with_set s set c) x) ≡ g (line_of c x)) [
  | inl here ↦ ap (λ w. g (line_in w x)) (set_of-same c s set x inside here) ∙ same ∙ ap (λ t. g (line_in (set_at c t) x)) (sym here)
  | inr other ↦ ap (λ w. g (line_in w x)) (set_of-other c s set x other)
]

-- a cache agrees where the changed set does, and the others do with what the store holds now
pub Agrees-with_set : (c : Contents) (s : ℕ) (set : Ways) (blocks : List Block) → s < length c.sets
    → SetAgrees (length c.sets) blocks s set → ((t : ℕ) → t ≢ s → SetAgrees (length c.sets) blocks t (set_at c t))
    → Agrees (with_set s set c) blocks
Agrees-with_set c s set blocks inside here others = record {
  sets = λ t. rw (sets-same c s set) (elim (cases_eq t s) as (λ _. SetAgrees (length c.sets) blocks t (set_at (with_set s set c) t)) [
    | inl same ↦ rw same (rw (set_at-same c s set inside) here)
    | inr other ↦ rw (set_at-other c s t set other) (others t other)
  ]);
}
