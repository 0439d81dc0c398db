-- Blocks that are read one after the other, and the bytes of the console in them.
use Rattle.std.proofs.Common.{◌≡◌, ℕ, zero, suc, ◌+◌, ◌-◌, ◌*◌, ◌/◌, ◌%◌, ◌<◌, ◌≤◌, List, [], ◌∷◌, ◌++◌, length, take, drop, Option, Some, None, unwrap_or, refl, ap, sym, ◌∙◌, arith}
use Rattle.std.proofs.lemmas.List.{take_more, length-take-le, drop-append-le, drop-drop, drop-take}
use Rattle.thy_block.specs.declared.block.Block.{Block}
use Rattle.thy_block.specs.declared.parameters.Parameters.{Parameters}
use Rattle.thy_block.specs.Blocks.{block_bytes}
use Rattle.thy_block.specs.Device.{zero_block, block_at}
use Rattle.thy_block.specs.Geometry.{program_size}
use Rattle.thy_block.specs.Flat.{flat, console_bytes}
use Rattle.thy_cache.specs.Contents.{Contents, peeked}
use Rattle.thy_cache.specs.Flat.{flat as cached}
use Rattle.thy_cache.proofs.FlatLemmas.{length-flat, block_at-flat}
use Rattle.thy_block.proofs.FlatLemmas.{flat-nil, flat-one, flat-append, flat-take, flat-drop}

-- ---- a block through the cache

module _ (c : Contents) (blocks : List Block) (b : ℕ) where
  pub loads_inside : b < length (cached c blocks) → b < length blocks
  loads_inside l = omega (arith, l, length-flat c blocks)

  pub block_hit : (line : Option Block) (block : Block) → b < length (cached c blocks) → line ≡ peeked c b → line ≡ Some block
      → block ≡ block_at (cached c blocks) b
  block_hit line block l is some =
      sym (block_at-flat c blocks b (loads_inside l) ∙ ap (λ (o : Option Block). unwrap_or o (block_at blocks b)) (sym is ∙ some))

  pub block_miss : (line : Option Block) → b < length (cached c blocks) → line ≡ peeked c b → line ≡ None
      → block_at blocks b ≡ block_at (cached c blocks) b
  block_miss line l is none =
      sym (block_at-flat c blocks b (loads_inside l) ∙ ap (λ (o : Option Block). unwrap_or o (block_at blocks b)) (sym is ∙ none))

-- ---- blocks one after the other

pub read_none : (first : ℕ) (bs : List Block) → [] ≡ flat (drop first (take first bs))
read_none first bs =
    let same : first + 0 ≡ first = omega arith in
    sym (ap flat (ap (λ n. drop first (take n bs)) (sym same) ∙ drop-take first 0 bs) ∙ flat-nil)

one_more : (first i : ℕ) (bs : List Block) → first ≤ i → i < length bs
    → flat (drop first (take (i + 1) bs)) ≡ flat (drop first (take i bs)) ++ block_bytes (block_at bs i)
one_more first i bs l within =
    let whole : length (take i bs) ≡ i = length-take-le i bs (omega arith) in
    ap (λ (xs : List Block). flat (drop first xs)) (take_more bs i zero_block within)
    ∙ ap flat (drop-append-le first (take i bs) (block_at bs i ∷ []) (omega arith))
    ∙ flat-append (drop first (take i bs)) (block_at bs i ∷ [])
    ∙ ap (λ (xs : List ℕ). flat (drop first (take i bs)) ++ xs) (flat-one (block_at bs i))

-- the blocks that were read, with one more
pub read_more : (first i : ℕ) (bs now : List Block) (bytes new : List ℕ) → now ≡ bs → first ≤ i → i < length bs
    → bytes ≡ flat (drop first (take i bs)) → new ≡ bytes ++ block_bytes (block_at now i) → new ≡ flat (drop first (take (i + 1) bs))
read_more first i bs now bytes new same l within so_far is =
    is ∙ ap (λ (xs : List ℕ). xs ++ block_bytes (block_at now i)) so_far
    ∙ ap (λ (blocks : List Block). flat (drop first (take i bs)) ++ block_bytes (block_at blocks i)) same
    ∙ sym (one_more first i bs l within)

-- ---- the bytes from one on, out of the blocks that have them

take_take : (r m : ℕ) (xs : List ℕ) → r ≤ m → take r (take m xs) ≡ take r xs
take_take zero m xs l = refl
take_take (suc r) zero xs l = absurd (omega arith)
take_take (suc r) (suc m) [] l = refl
take_take (suc r) (suc m) (x ∷ xs) l = ap (λ rest. x ∷ rest) (take_take r m xs (omega arith))

-- the first bytes of a list, from one on, are the bytes from that one on in a longer first part
cut_from : (from len all : ℕ) (xs : List ℕ) → from ≤ len → len ≤ all → take (len - from) (drop from (take all xs)) ≡ drop from (take len xs)
cut_from from len all xs l most =
    let most_is : from + (all - from) ≡ all = omega arith in
    let len_is : from + (len - from) ≡ len = omega arith in
    ap (λ k. take (len - from) (drop from (take k xs))) (sym most_is)
    ∙ ap (take (len - from)) (drop-take from (all - from) xs)
    ∙ take_take (len - from) (all - from) (drop from xs) (omega arith)
    ∙ sym (drop-take from (len - from) xs)
    ∙ ap (λ k. drop from (take k xs)) len_is

-- the bytes from one on, below a length, from the blocks that hold them
piece_of : (from len end : ℕ) (bs : List Block) → from < len → len ≤ 64 * end → end ≤ length bs
    → take (len - from) (drop (from % 64) (flat (drop (from / 64) (take end bs)))) ≡ drop from (take len (flat bs))
piece_of from len end bs l most within =
    let first : ℕ = from / 64 in
    let blocks : length (take end bs) ≡ end = length-take-le end bs within in
    let at : 64 * first + from % 64 ≡ from = omega arith in
    ap (λ (xs : List ℕ). take (len - from) (drop (from % 64) xs))
    (flat-drop first (take end bs) (omega arith) ∙ ap (drop (64 * first)) (flat-take end bs within))
    ∙ ap (take (len - from)) (drop-drop (from % 64) (64 * first) (take (64 * end) (flat bs)) ∙ ap (λ k. drop k (take (64 * end) (flat bs))) at)
    ∙ cut_from from len (64 * end) (flat bs) (omega arith) most

-- the console from a byte on, out of the blocks after program memory
pub console_piece : (p : Parameters) (base from len end : ℕ) (bs : List Block) → base ≡ program_size p → from < len
    → base + len ≤ 64 * end → end ≤ length bs
    → take (len - from) (drop ((base + from) % 64) (flat (drop ((base + from) / 64) (take end bs)))) ≡ drop from (console_bytes p bs len)
console_piece p base from len end bs is l most within =
    let rest : base + len - (base + from) ≡ len - from = omega arith in
    ap (λ k. take k (drop ((base + from) % 64) (flat (drop ((base + from) / 64) (take end bs))))) (sym rest)
    ∙ piece_of (base + from) (base + len) end bs (omega arith) most within
    ∙ ap (λ k. drop k (take (base + len) (flat bs))) (omega arith)
    ∙ sym (drop-drop from base (take (base + len) (flat bs)))
    ∙ ap (drop from) (drop-take base len (flat bs))
    ∙ ap (λ k. drop from (take len (drop k (flat bs)))) is
