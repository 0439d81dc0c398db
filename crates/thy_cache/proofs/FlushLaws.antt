-- Where no line is dirty, and what a cache reads as then.
use Rattle.std.proofs.Common.{◌≡◌, ℕ, ◌*◌, ◌<◌, ◌≤◌, Bool, true, false, cond, nat_lt, List, length, get_or, replicate, All, Option, Some, None, option_and_then, unwrap_or, refl, sym, ◌∙◌, ap, inl, inr, arith}
use Rattle.std.specs.List.{position, position_or_len}
use Rattle.std.specs.Option.{option_map, is_some}
use Rattle.std.proofs.lemmas.Bool.{cases_Bool, cases_lt, ltb-false}
use Rattle.std.proofs.lemmas.List.{get_or_past, get_or-replicate, length-replicate}
use Rattle.std.proofs.lemmas.List.Folds.{sum_by-replicate}
use Rattle.std.proofs.lemmas.List.Sums.{sum_by-le, get_or-le-sum_by}
use Rattle.std.proofs.lemmas.List.Elements.{All-from_get_or}
use Rattle.std.proofs.lemmas.List.Quantifiers.{position-Some}
use Rattle.thy_block.specs.declared.block.Block.{Block}
use Rattle.thy_block.specs.Device.{block_at}
use Rattle.thy_block.proofs.BasicLemmas.{not_some}
use Rattle.thy_cache.specs.declared.line.Line.{Line}
use Rattle.thy_cache.specs.Ways.{Ways, line_at, is_dirty, has_dirty, dirty_lines, empty_ways}
use Rattle.thy_cache.specs.Contents.{Contents, empty_cache, no_ways, set_at, set_of, index_of, line_of, dirty_line_in, HasNoneDirty, dirty_count}
use Rattle.thy_cache.specs.Flat.{flat, Agrees}
use Rattle.thy_cache.proofs.LineLemmas.{passed_over, line_in-found}
use Rattle.thy_cache.proofs.AgreeLemmas.{none_is_none}
use Rattle.thy_cache.proofs.FlatLemmas.{flat-none}
use Rattle.thy_cache.proofs.CountLemmas.{dirt}
use Rattle.thy_cache.proofs.WriteLaws.{true_is_not_false}

-- if no element is found to pass, each fails
pub position-None : {X : Type 0} (p : X → Bool) (xs : List X) (k : ℕ) (d : X) → position p xs ≡ None → k < length xs
    → p (get_or xs k d) ≡ false
position-None p xs k d e inside = elim (cases_Bool (nat_lt (position_or_len p xs) (length xs))) as (λ _. p (get_or xs k d) ≡ false) [
  | inl is_so ↦ let found : Some (position_or_len p xs) ≡ None = sym (ap (λ t. cond t (Some (position_or_len p xs)) None) is_so) ∙ e in
      absurd (none_is_none (position_or_len p xs) (sym found))
  | inr not_so ↦ passed_over p xs k d (ltb-false _ _ not_so) inside
]

-- a set without dirty lines counts none
pub none-in_set : (set : Ways) → has_dirty set ≡ false → dirty_lines set ≡ 0
none-in_set set e =
    let None_here : Option Line → Type 0 = λ o. dirt o ≤ 0 in
    let each : All None_here set.lines = All-from_get_or None_here set.lines None
    (λ i inside. let pure = position-None is_dirty set.lines i None (not_some (position is_dirty set.lines) e) inside in
    let none : dirt (line_at set i) ≡ 0 = ap (λ t. cond t 1 0) pure in omega (arith, none)) in
    omega (arith, sum_by-le dirt 0 set.lines each)

-- a cache has no dirty line if no set has one
pub none-dirty : (c : Contents) → position has_dirty c.sets ≡ None → dirty_count c ≡ 0
none-dirty c e =
    let None_here : Ways → Type 0 = λ set. dirty_lines set ≤ 0 in
    let each : All None_here c.sets = All-from_get_or None_here c.sets no_ways
    (λ i inside. let none = none-in_set (set_at c i) (position-None has_dirty c.sets i no_ways e inside) in omega (arith, none)) in
    omega (arith, sum_by-le dirty_lines 0 c.sets each)

-- the first dirty line is dirty
pub first-dirty : (set : Ways) (w : ℕ) → position is_dirty set.lines ≡ Some w → is_dirty (line_at set w) ≡ true
first-dirty set w e = (position-Some is_dirty set.lines w None e).1

-- a set that has one does not lack one
pub first-there : (c : Contents) (s : ℕ) → position has_dirty c.sets ≡ Some s → position is_dirty (set_at c s).lines ≡ None → ⊥
first-there c s e none =
    let has = (position-Some has_dirty c.sets s no_ways e).1 in
    true_is_not_false (sym has ∙ ap is_some none)

-- a dirty line is counted
pub some-dirty : (c : Contents) (s w : ℕ) → is_dirty (line_at (set_at c s) w) ≡ true → 0 < dirty_count c
some-dirty c s w e =
    let one : dirt (line_at (set_at c s) w) ≡ 1 = ap (λ t. cond t 1 0) e in
    elim (cases_lt s (length c.sets)) as (λ _. 0 < dirty_count c) [
      | inl inside ↦ elim (cases_lt w (length (set_at c s).lines)) as (λ _. 0 < dirty_count c) [
        | inl within ↦
            omega (arith, one, get_or-le-sum_by dirt (set_at c s).lines w None within, get_or-le-sum_by dirty_lines c.sets s no_ways inside)
        | inr past ↦ absurd (true_is_not_false (sym e ∙ ap is_dirty (get_or_past (set_at c s).lines w None past)))
      ]
      | inr past ↦ absurd (true_is_not_false (sym e ∙ ap (λ set. is_dirty (line_at set w)) (get_or_past c.sets s no_ways past)))
    ]

-- if the count of dirty lines is 0, no line is dirty
pub none-counted : (c : Contents) (s w : ℕ) → dirty_count c ≡ 0 → is_dirty (line_at (set_at c s) w) ≡ false
none-counted c s w e = elim (cases_Bool (is_dirty (line_at (set_at c s) w))) as (λ _. is_dirty (line_at (set_at c s) w) ≡ false) [
  | inl is_so ↦ let some = some-dirty c s w is_so in absurd (omega (arith, some, e))
  | inr not_so ↦ not_so
]

-- if no set has a dirty line, there is none
pub HasNoneDirty-none : (c : Contents) → position has_dirty c.sets ≡ None → HasNoneDirty c
HasNoneDirty-none c e = record {
  first = ap (option_and_then (λ s. dirty_line_in (set_at c s))) e;
  none = λ s w. none-counted c s w (none-dirty c e);
}

-- a line that is found is then the store's block
pub flat_at-clean : (c : Contents) (blocks : List Block) (b : ℕ) (o : Option Line) → dirty_count c ≡ 0 → Agrees c blocks → line_of c b ≡ o
    → unwrap_or (option_map (λ (line : Line). line.block) o) (block_at blocks b) ≡ block_at blocks b
flat_at-clean c blocks b None none agrees e = refl
flat_at-clean c blocks b (Some line) none agrees e =
    let found = line_in-found (set_of c b) b line e in
    let pure : line.dirty ≡ false = ap is_dirty (sym found.1) ∙ none-counted c (index_of c b) found.0 none in
    ((agrees.sets (index_of c b)).lines found.0 line found.1).clean pure ∙ ap (block_at blocks) found.2

-- without dirty lines the flat list is the store's list
pub flat-clean : (c : Contents) (blocks : List Block) → dirty_count c ≡ 0 → Agrees c blocks → flat c blocks ≡ blocks
flat-clean c blocks none agrees = flat-none c blocks (λ b inside. flat_at-clean c blocks b (line_of c b) none agrees refl)

-- new ways have no line
pub none-at : (ways w : ℕ) → line_at (empty_ways ways) w ≡ None
none-at ways w = elim (cases_lt w ways) as (λ _. line_at (empty_ways ways) w ≡ None) [
  | inl inside ↦ get_or-replicate ways w None None inside
  | inr past ↦ get_or_past (empty_ways ways).lines w None (omega (arith, past, length-replicate {A = Option Line} ways None))
]

-- a new cache has no lines
pub empty-line_at : (sets ways s w : ℕ) → line_at (set_at (empty_cache sets ways) s) w ≡ None
empty-line_at sets ways s w = elim (cases_lt s sets) as (λ _. line_at (set_at (empty_cache sets ways) s) w ≡ None) [
  | inl inside ↦ ap (λ set. line_at set w) (get_or-replicate sets s (empty_ways ways) no_ways inside) ∙ none-at ways w
  | inr past ↦ ap (λ set. line_at set w)
      (get_or_past (replicate sets (empty_ways ways)) s no_ways (omega (arith, past, length-replicate sets (empty_ways ways))))
]

-- a new cache agrees with every store
pub empty-agrees : (sets ways : ℕ) (blocks : List Block) → Agrees (empty_cache sets ways) blocks
empty-agrees sets ways blocks = record {
  sets = λ s. record {
    lines = λ w line e. absurd (none_is_none line (sym (empty-line_at sets ways s w) ∙ e));
    single = λ w v line other e f g. absurd (none_is_none line (sym (empty-line_at sets ways s w) ∙ e));
  };
}

-- an empty cache has no dirty line
pub empty-count : (sets ways : ℕ) → dirty_count (empty_cache sets ways) ≡ 0
empty-count sets ways =
    let none : dirty_lines (empty_ways ways) ≡ 0 = omega (arith, sum_by-replicate dirt ways None) in
    let all : dirty_count (empty_cache sets ways) ≡ sets * 0 = sum_by-replicate dirty_lines sets (empty_ways ways) ∙ ap (λ k. sets * k) none in
    omega (arith, all)

-- an empty cache reads as its store
pub empty-flat : (sets ways : ℕ) (blocks : List Block) → flat (empty_cache sets ways) blocks ≡ blocks
empty-flat sets ways blocks = flat-clean (empty_cache sets ways) blocks (empty-count sets ways) (empty-agrees sets ways blocks)
