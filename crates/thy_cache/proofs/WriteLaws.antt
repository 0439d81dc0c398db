-- What a read of a block and a write to one leave.
use Rattle.std.proofs.Common.{◌≡◌, ◌≢◌, ℕ, ◌+◌, ◌^◌, ◌<◌, true, false, cond, List, length, Option, Some, None, option_and_then, unwrap_or, refl, sym, ◌∙◌, ap, inl, inr, arith}
use Rattle.std.specs.Option.{option_map, option_map_or, is_some}
use Rattle.std.proofs.lemmas.Bool.{cases_eq}
use Rattle.std.proofs.lemmas.List.{length-set}
use Rattle.thy_block.specs.declared.block.Block.{Block}
use Rattle.thy_block.specs.Blocks.{overwritten}
use Rattle.thy_block.specs.Device.{block_at}
use Rattle.thy_cache.specs.declared.line.Line.{Line}
use Rattle.thy_cache.specs.Ways.{Ways, line_at, line_in, way_of, is_dirty, used, used_for, over_line, changed, written_to, dirty_lines}
use Rattle.thy_cache.specs.Contents.{Contents, IsSoundCache, set_of, index_of, line_of, peeked, hits, read_from, written_at, dirty_count}
use Rattle.thy_cache.specs.Flat.{flat, SetAgrees, PeeksSame, HitsSame, ReadsSame, ReadsAs, WritesOver, AgreesStill}
use Rattle.thy_cache.proofs.LineLemmas.{KeepsBlock, location-way_of, held, line_in-changed, line_in-other}
use Rattle.thy_cache.proofs.AgreeLemmas.{SetAgrees-same, SetAgrees-over_line}
use Rattle.thy_cache.proofs.FlatLemmas.{block_at-flat, flat-same, flat-put, set_of-same, line_of-kept, Agrees-with_set}
use Rattle.thy_cache.proofs.CountLemmas.{dirt, dirty_lines-rewritten, dirty_count-with_set, dirty-fits}

-- true is not false
pub true_is_not_false : true ≡ false → ⊥
true_is_not_false e = cc

-- if each block's line holds the same, the flat list is the same
pub ReadsSame-peeks : (c d : Contents) → PeeksSame c d → ReadsSame c d
ReadsSame-peeks c d same blocks = flat-same d c blocks blocks refl (λ b inside. ap (λ o. unwrap_or o (block_at blocks b)) (same b))

-- a use changes no line
pub used_for-lines : (b : ℕ) (ways : Ways) → (used_for b ways).lines ≡ ways.lines
used_for-lines b ways = elim (way_of ways b) as (λ o. (option_map_or (λ w. used w ways) o ways).lines ≡ ways.lines) [ None ↦ refl | Some w ↦ refl ]

pub line_in-lines : (old new : Ways) (x : ℕ) → new.lines ≡ old.lines → line_in new x ≡ line_in old x
line_in-lines old new x e = ap (λ (ls : List (Option Line)). line_in (record { lines = ls; order = old.order }) x) e

pub read-line_of : (c : Contents) (b : ℕ) → index_of c b < length c.sets → (x : ℕ) → line_of (read_from b c) x ≡ line_of c x
read-line_of c b inside x =
    line_of-kept (λ o. o) c (index_of c b) (used_for b (set_of c b)) x inside
    (line_in-lines (set_of c b) (used_for b (set_of c b)) x (used_for-lines b (set_of c b)))

pub read-peeks : (c : Contents) (b : ℕ) → index_of c b < length c.sets → PeeksSame c (read_from b c)
read-peeks c b inside x = ap (option_map (λ (line : Line). line.block)) (read-line_of c b inside x)

pub read-agrees : (c : Contents) (b : ℕ) → index_of c b < length c.sets → AgreesStill c (read_from b c)
read-agrees c b inside blocks agrees =
    Agrees-with_set c (index_of c b) (used_for b (set_of c b)) blocks inside
    (SetAgrees-same (length c.sets) blocks (index_of c b) (set_of c b) (used_for b (set_of c b)) (used_for-lines b (set_of c b))
    (agrees.sets (index_of c b)))
    (λ t other. agrees.sets t)

-- a read gives the block of the flat list
pub ReadsAs-peeked : (c : Contents) (b : ℕ) (block : Block) → peeked c b ≡ Some block → ReadsAs c b block
ReadsAs-peeked c b block e blocks inside = block_at-flat c blocks b inside ∙ ap (λ o. unwrap_or o (block_at blocks b)) e

-- a write leaves a line's block
pub changed-keeps : (at : ℕ) (bytes : List ℕ) → KeepsBlock (changed at bytes)
changed-keeps at bytes line = refl

-- a set after a write to a block, by where that has its line
abbrev pub written_in : ℕ → List ℕ → Ways → Option ℕ → Ways
written_in at bytes ways o = option_map_or (λ w. over_line (changed at bytes) w (used w ways)) o ways

-- the block's line was written to
pub written-here : (b at : ℕ) (bytes : List ℕ) (ways : Ways) (o : Option ℕ) → way_of ways b ≡ o
    → line_in (written_in at bytes ways o) b ≡ option_map (changed at bytes) (line_in ways b)
written-here b at bytes ways None e =
    let none : line_in ways b ≡ None = ap (option_and_then (line_at ways)) e in
    none ∙ ap (option_map (changed at bytes)) (sym none)
written-here b at bytes ways (Some w) e =
    let there = location-way_of ways b w e in
    line_in-changed (changed at bytes) (changed-keeps at bytes) (used w ways) w b there.1 there.0

-- no line but the block's was written to
pub written-other : (b at : ℕ) (bytes : List ℕ) (ways : Ways) (o : Option ℕ) (x : ℕ) → way_of ways b ≡ o → x ≢ b
    → line_in (written_in at bytes ways o) x ≡ line_in ways x
written-other b at bytes ways None x e other = refl
written-other b at bytes ways (Some w) x e other = line_in-other (changed at bytes) (changed-keeps at bytes) (used w ways) b w x e other

-- the set still agrees after a write
pub written-agrees : (n : ℕ) (blocks : List Block) (s b at : ℕ) (bytes : List ℕ) (ways : Ways) (o : Option ℕ) → SetAgrees n blocks s ways
    → SetAgrees n blocks s (written_in at bytes ways o)
written-agrees n blocks s b at bytes ways None agrees = agrees
written-agrees n blocks s b at bytes ways (Some w) agrees =
    SetAgrees-over_line n blocks s (changed at bytes) w (used w ways) (changed-keeps at bytes) (λ line e pure. absurd (true_is_not_false pure))
    (SetAgrees-same n blocks s ways (used w ways) refl agrees)

-- a write leaves the number of lines of a set
pub written-width : (at : ℕ) (bytes : List ℕ) (ways : Ways) (o : Option ℕ) → length (written_in at bytes ways o).lines ≡ length ways.lines
written-width at bytes ways None = refl
written-width at bytes ways (Some w) = length-set ways.lines w (option_map (changed at bytes) (line_at ways w))

-- the line of the block is dirty now
pub written-count : (b at : ℕ) (bytes : List ℕ) (ways : Ways) (o : Option ℕ) → way_of ways b ≡ o → is_some (line_in ways b) ≡ true
    → dirty_lines (written_in at bytes ways o) + dirt (line_in ways b) ≡ dirty_lines ways + 1
written-count b at bytes ways None e hit = absurd (true_is_not_false (sym hit ∙ ap (λ p. is_some (option_and_then (line_at ways) p)) e))
written-count b at bytes ways (Some w) e hit =
    let there = location-way_of ways b w e in
    let was = held b (line_at ways w) there.2 in
    let same : line_in ways b ≡ line_at ways w = ap (option_and_then (line_at ways)) e in
    let grown : dirt (option_map (changed at bytes) (line_at ways w)) ≡ 1 = ap (λ p. dirt (option_map (changed at bytes) p)) was.1 in
    let counts = dirty_lines-rewritten (used w ways) w (option_map (changed at bytes) (line_at ways w)) there.1 in
    ap (λ p. dirty_lines (written_in at bytes ways (Some w)) + dirt p) same ∙ counts ∙ ap (λ k. dirty_lines ways + k) grown

module _ (c : Contents) (b at : ℕ) (bytes : List ℕ) (inside : index_of c b < length c.sets) where
  pub write-here : line_of (written_at b at bytes c) b ≡ option_map (changed at bytes) (line_of c b)
  write-here =
      ap (λ set. line_in set b) (set_of-same c (index_of c b) (written_to b at bytes (set_of c b)) b inside refl)
      ∙ written-here b at bytes (set_of c b) (way_of (set_of c b) b) refl

  pub write-other : (x : ℕ) → x ≢ b → line_of (written_at b at bytes c) x ≡ line_of c x
  write-other x other =
      line_of-kept (λ o. o) c (index_of c b) (written_to b at bytes (set_of c b)) x inside
      (written-other b at bytes (set_of c b) (way_of (set_of c b) b) x refl other)

-- a changed line holds the bytes
pub flat-changed : (at : ℕ) (bytes : List ℕ) (o : Option Line) (block : Block) → is_some o ≡ true
    → unwrap_or (option_map (λ (line : Line). line.block) (option_map (changed at bytes) o)) block
    ≡ overwritten at bytes (unwrap_or (option_map (λ (line : Line). line.block) o) block)
flat-changed at bytes None block e = absurd (true_is_not_false (sym e))
flat-changed at bytes (Some line) block e = refl

pub write-flat : (c : Contents) (b at : ℕ) (bytes : List ℕ) → index_of c b < length c.sets → hits c b ≡ true
    → WritesOver b at bytes c (written_at b at bytes c)
write-flat c b at bytes inside hit blocks below =
    flat-put (written_at b at bytes c) c blocks b (overwritten at bytes (block_at (flat c blocks) b)) below
    (ap (λ o. unwrap_or (option_map (λ (line : Line). line.block) o) (block_at blocks b)) (write-here c b at bytes inside)
    ∙ flat-changed at bytes (line_of c b) (block_at blocks b) hit
    ∙ ap (overwritten at bytes) (sym (block_at-flat c blocks b below)))
    (λ x other. ap (λ o. unwrap_or (option_map (λ (line : Line). line.block) o) (block_at blocks x)) (write-other c b at bytes inside x other))

-- applying a function to an option leaves whether it holds something
pub is_some-map : {X Y : Type 0} (f : X → Y) (o : Option X) → is_some (option_map f o) ≡ is_some o
is_some-map f None = refl
is_some-map f (Some x) = refl

pub write-hits : (c : Contents) (b at : ℕ) (bytes : List ℕ) → index_of c b < length c.sets → HitsSame c (written_at b at bytes c)
write-hits c b at bytes inside x = elim (cases_eq x b) as (λ _. hits (written_at b at bytes c) x ≡ hits c x) [
  | inl same ↦
      ap (hits (written_at b at bytes c)) same ∙ ap is_some (write-here c b at bytes inside) ∙ is_some-map (changed at bytes) (line_of c b)
      ∙ ap (hits c) (sym same)
  | inr other ↦ ap is_some (write-other c b at bytes inside x other)
]

pub write-agrees : (c : Contents) (b at : ℕ) (bytes : List ℕ) → index_of c b < length c.sets → AgreesStill c (written_at b at bytes c)
write-agrees c b at bytes inside blocks agrees =
    Agrees-with_set c (index_of c b) (written_to b at bytes (set_of c b)) blocks inside
    (written-agrees (length c.sets) blocks (index_of c b) b at bytes (set_of c b) (way_of (set_of c b) b) (agrees.sets (index_of c b)))
    (λ t other. agrees.sets t)

pub write-count : (c : Contents) (b at : ℕ) (bytes : List ℕ) → index_of c b < length c.sets → hits c b ≡ true
    → dirty_count (written_at b at bytes c) + dirt (line_of c b) ≡ dirty_count c + 1
write-count c b at bytes inside hit =
    omega (
      arith,
      dirty_count-with_set c (index_of c b) (written_to b at bytes (set_of c b)) inside,
      written-count b at bytes (set_of c b) (way_of (set_of c b) b) refl hit,
    )

-- the count of dirty lines fits 64 bits after one more line becomes dirty
pub write-fits : (c : Contents) (b at : ℕ) (bytes : List ℕ) (dirty modulus : ℕ) → IsSoundCache c.sets dirty modulus
    → index_of c b < length c.sets → hits c b ≡ true
    → is_dirty (line_of c b) ≡ false → dirty + 1 < 2 ^ 64
write-fits c b at bytes dirty modulus sound inside hit pure =
    let none : dirt (line_of c b) ≡ 0 = ap (λ t. cond t 1 0) pure in
    omega (
      arith,
      sound.counted,
      none,
      write-count c b at bytes inside hit,
      dirty-fits c (index_of c b) (written_to b at bytes (set_of c b)) dirty modulus sound inside
          (written-width at bytes (set_of c b) (way_of (set_of c b) b)),
    )
