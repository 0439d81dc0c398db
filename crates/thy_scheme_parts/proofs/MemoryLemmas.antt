-- Memory as a list of blocks: read at places, and with another block in it.
use Rattle.std.proofs.Common.{◌≡◌, ◌≢◌, ℕ, ◌<◌, List, length, map, slice_set, sym, ◌∙◌, ap, inl, inr, arith}
use Rattle.std.specs.List.{range_with_len}
use Rattle.std.proofs.lemmas.Bool.{cases_eq}
use Rattle.std.proofs.lemmas.List.{length-set, get_or-set_same, get_or-set_other, ext_get_or}
use Rattle.std.proofs.lemmas.List.FromFn.{length-map-range_with_len, get_or-map-range_with_len}
use Rattle.std.proofs.lemmas.Simd.{map-map}
use Rattle.thy_block.specs.declared.block.Block.{Block}
use Rattle.thy_block.specs.Device.{zero_block, block_at}
use Rattle.thy_block.proofs.BasicLemmas.{Contains-range}
use Rattle.thy_layout.proofs.AskingLemmas.{map-alike}

-- two functions that are alike at each number make the same list of blocks
pub map_below : (size : ℕ) (f g : ℕ → Block) → ((b : ℕ) → b < size → f b ≡ g b)
    → map f (range_with_len 0 size) ≡ map g (range_with_len 0 size)
map_below size f g each =
    map-alike f g (range_with_len 0 size)
    (λ b inside.
    let at = Contains-range 0 size b inside in
    let l = at.1 in
    let e = at.2 in
    each b (omega (arith, l, e)))

-- a list of blocks that are read at places
pub map_places : (size : ℕ) (read : ℕ → Block) (place : ℕ → ℕ) (look : ℕ → Block)
    → ((b : ℕ) → b < size → read (place b) ≡ look b)
    → map read (map place (range_with_len 0 size)) ≡ map look (range_with_len 0 size)
map_places size read place look each =
    map-map read place (range_with_len 0 size)
    ∙ map_below size (λ (b : ℕ). read (place b)) look each

-- a list of blocks, with another block at one place
pub map_set : (size : ℕ) (f g : ℕ → Block) (b : ℕ) (block : Block) → b < size → f b ≡ block → ((c : ℕ) → c < size → c ≢ b → f c ≡ g c)
    → map f (range_with_len 0 size) ≡ slice_set (map g (range_with_len 0 size)) b block
map_set size f g b block small here there =
    let long : length (map f (range_with_len 0 size)) ≡ size = length-map-range_with_len f 0 size in
    let old : length (map g (range_with_len 0 size)) ≡ size = length-map-range_with_len g 0 size in
    let set : List Block = slice_set (map g (range_with_len 0 size)) b block in
    ext_get_or zero_block (map f (range_with_len 0 size)) set (long ∙ sym (length-set (map g (range_with_len 0 size)) b block ∙ old))
    (λ c low.
    let below : c < size = omega (arith, low, long) in
    let gives : block_at (map f (range_with_len 0 size)) c ≡ f c = get_or-map-range_with_len f 0 size c c zero_block below (omega arith) in
    elim (cases_eq c b) as (λ _. block_at (map f (range_with_len 0 size)) c ≡ block_at set c) [
      | inl same ↦
          gives ∙ ap f same ∙ here
          ∙ sym (get_or-set_same (map g (range_with_len 0 size)) b block zero_block (omega (arith, small, old)))
          ∙ sym (ap (block_at set) same)
      | inr other ↦
          gives ∙ there c below other
          ∙ sym (get_or-map-range_with_len g 0 size c c zero_block below (omega arith))
          ∙ sym (get_or-set_other (map g (range_with_len 0 size)) b c block zero_block other)
    ])
