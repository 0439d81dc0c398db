-- Where a set has the line of a block, and where it has it after a way was written.
use Rattle.std.proofs.Common.{◌≡◌, ◌≢◌, ℕ, ◌<◌, ◌≤◌, ◌==◌, Bool, true, false, cond, not, nat_lt, List, length, get_or, Option, Some, None, option_and_then, refl, sym, ◌∙◌, ap, inl, inr, arith}
use Rattle.std.specs.List.{position_or_len}
use Rattle.std.specs.Option.{option_map}
use Rattle.std.proofs.lemmas.Bool.{cases_Bool, cases_eq, cases_lt, eqb-true, eq-eqb, ltb-false, lt-ltb, not-true}
use Rattle.std.proofs.lemmas.List.{get_or-set_same, get_or-set_other, get_or_past}
use Rattle.std.proofs.lemmas.List.Folds.{position_or_len-set}
use Rattle.std.proofs.lemmas.List.Sums.{position_or_len_is, prefix_len_passes}
use Rattle.std.proofs.lemmas.List.Quantifiers.{position-Some}
use Rattle.thy_cache.specs.declared.line.Line.{Line}
use Rattle.thy_cache.specs.Ways.{Ways, line_at, holds, way_of, line_in, over_line}

-- the first way that has a block's line, or the number of ways
abbrev pub location : Ways → ℕ → ℕ
location ways b = position_or_len (holds b) ways.lines

-- a way that has a block's line has a line
pub held : (b : ℕ) (o : Option Line) → holds b o ≡ true → (line : Line) × (o ≡ Some line) × (line.at ≡ b)
held b None h = cc
held b (Some line) h = (line, refl, eqb-true line.at b h)

-- a way with a line of a block has that block's line
pub holding : (b : ℕ) (o : Option Line) (line : Line) → o ≡ Some line → line.at ≡ b → holds b o ≡ true
holding b o line e f = rw e (eq-eqb line.at b f)

-- one way has the line of one block
pub holds_one : (b x : ℕ) (o : Option Line) → holds b o ≡ true → x ≢ b → holds x o ≡ false
holds_one b x o h n = elim (cases_Bool (holds x o)) as (λ _. holds x o ≡ false) [
  | inl is_so ↦ let one = held b o h in let other = held x o is_so in
      let same : Some one.0 ≡ Some other.0 = sym one.1 ∙ other.1 in
      let e : one.0 ≡ other.0 = cc in
      absurd (n (sym other.2 ∙ sym (ap (λ (l : Line). l.at) e) ∙ one.2))
  | inr not_so ↦ not_so
]

-- a block's line is what stands in its first way
pub line_in-location : (ways : Ways) (b : ℕ) → line_in ways b ≡ line_at ways (location ways b)
line_in-location ways b = elim (cases_Bool (nat_lt (location ways b) (length ways.lines)))
    as (λ _. line_in ways b ≡ line_at ways (location ways b)) [
      | inl is_so ↦ ap (λ t. option_and_then (line_at ways) (cond t (Some (location ways b)) None)) is_so
      | inr not_so ↦ ap (λ t. option_and_then (line_at ways) (cond t (Some (location ways b)) None)) not_so
          ∙ sym (get_or_past ways.lines (location ways b) None (ltb-false _ _ not_so))
    ]

-- a way that has a block's line, found first
pub location-way_of : (ways : Ways) (b w : ℕ) → way_of ways b ≡ Some w
    → (location ways b ≡ w) × (w < length ways.lines) × (holds b (line_at ways w) ≡ true)
location-way_of ways b w e = elim (cases_Bool (nat_lt (location ways b) (length ways.lines)))
    as (λ _. (location ways b ≡ w) × (w < length ways.lines) × (holds b (line_at ways w) ≡ true)) [
      | inl is_so ↦
          let is : Some (location ways b) ≡ Some w = sym (ap (λ t. cond t (Some (location ways b)) None) is_so) ∙ e in
          let same : location ways b ≡ w = cc in
          let found = position-Some (holds b) ways.lines w None e in
          (same, found.0, found.1)
      | inr not_so ↦ let is : None ≡ Some w = sym (ap (λ t. cond t (Some (location ways b)) None) not_so) ∙ e in cc
    ]

-- a line that is found stands in a way, and is the block's
pub line_in-found : (ways : Ways) (b : ℕ) (line : Line) → line_in ways b ≡ Some line → (w : ℕ) × (line_at ways w ≡ Some line) × (line.at ≡ b)
line_in-found ways b line e = elim (cases_Bool (nat_lt (location ways b) (length ways.lines)))
    as (λ _. (w : ℕ) × (line_at ways w ≡ Some line) × (line.at ≡ b)) [
      | inl is_so ↦
          let is : way_of ways b ≡ Some (location ways b) = ap (λ t. cond t (Some (location ways b)) None) is_so in
          let there = location-way_of ways b (location ways b) is in
          let stands : line_at ways (location ways b) ≡ Some line = sym (line_in-location ways b) ∙ e in
          let other = held b (line_at ways (location ways b)) there.2 in
          let same : Some other.0 ≡ Some line = sym other.1 ∙ stands in
          let is_it : other.0 ≡ line = cc in
          (location ways b, stands, sym (ap (λ (l : Line). l.at) is_it) ∙ other.2)
      | inr not_so ↦
          let none : line_in ways b ≡ None = ap (λ t. option_and_then (line_at ways) (cond t (Some (location ways b)) None)) not_so in
          let is : None ≡ Some line = sym none ∙ e in cc
    ]

-- a way's number is below the count if the way has a line
pub line_at-inside : (ways : Ways) (w : ℕ) (line : Line) → line_at ways w ≡ Some line → w < length ways.lines
line_at-inside ways w line e = elim (cases_lt w (length ways.lines)) as (λ _. w < length ways.lines) [
  | inl l ↦ l
  | inr l ↦ let is : None ≡ Some line = sym (get_or_past ways.lines w None l) ∙ e in cc
]

-- a change of lines that leaves each the line of its block
abbrev pub KeepsBlock : (Line → Line) → Type 0
KeepsBlock f = (line : Line) → (f line).at ≡ line.at

-- a change of lines that keeps each line's block leaves which block a way has
pub holds-map : (f : Line → Line) → KeepsBlock f → (b : ℕ) (o : Option Line) → holds b (option_map f o) ≡ holds b o
holds-map f keeps b None = refl
holds-map f keeps b (Some line) = ap (λ a. a == b) (keeps line)

-- a change of a line that keeps its block leaves where each block's line is
pub location-over_line : (f : Line → Line) → KeepsBlock f → (ways : Ways) (w x : ℕ) → location (over_line f w ways) x ≡ location ways x
location-over_line f keeps ways w x =
    position_or_len-set (holds x) ways.lines w (option_map f (line_at ways w)) None (holds-map f keeps x (line_at ways w))

-- the line of a block in the way that was changed
pub line_in-changed : (f : Line → Line) → KeepsBlock f → (ways : Ways) (w x : ℕ) → w < length ways.lines → location ways x ≡ w
    → line_in (over_line f w ways) x ≡ option_map f (line_in ways x)
line_in-changed f keeps ways w x inside e =
    line_in-location (over_line f w ways) x
    ∙ ap (line_at (over_line f w ways)) (location-over_line f keeps ways w x ∙ e)
    ∙ get_or-set_same ways.lines w (option_map f (line_at ways w)) None inside
    ∙ ap (λ v. option_map f (line_at ways v)) (sym e)
    ∙ ap (option_map f) (sym (line_in-location ways x))

module _ (f : Line → Line) (keeps : KeepsBlock f) (ways : Ways) where
  -- the line of a block in a way that was not changed
  pub line_in-unchanged : (w x : ℕ) → location ways x ≢ w → line_in (over_line f w ways) x ≡ line_in ways x
  line_in-unchanged w x n =
      line_in-location (over_line f w ways) x
      ∙ ap (line_at (over_line f w ways)) (location-over_line f keeps ways w x)
      ∙ get_or-set_other ways.lines w (location ways x) (option_map f (line_at ways w)) None n
      ∙ sym (line_in-location ways x)

  -- a change in the way of a block changes no other block's line
  pub line_in-other : (b w x : ℕ) → way_of ways b ≡ Some w → x ≢ b → line_in (over_line f w ways) x ≡ line_in ways x
  line_in-other b w x e n = elim (cases_eq (location ways x) w) as (λ _. line_in (over_line f w ways) x ≡ line_in ways x) [
    | inl same ↦
        let there = location-way_of ways b w e in
        let inside : location ways x < length ways.lines = omega (arith, same, there.1) in
        let found : way_of ways x ≡ Some (location ways x) = ap (λ t. cond t (Some (location ways x)) None) (lt-ltb _ _ inside) in
        let held_x : holds x (line_at ways (location ways x)) ≡ true = (location-way_of ways x (location ways x) found).2 in
        let no : holds x (line_at ways w) ≡ false = holds_one b x (line_at ways w) there.2 n in
        let at : holds x (line_at ways (location ways x)) ≡ holds x (line_at ways w) = ap (λ v. holds x (line_at ways v)) same in
        let wrong : true ≡ false = sym held_x ∙ at ∙ no in
        cc
    | inr other ↦ line_in-unchanged w x other
  ]

-- what a change does not touch of a line it does not touch of any block's line
pub line_in-kept : {Y : Type 0} (g : Option Line → Y) (f : Line → Line) → KeepsBlock f → ((o : Option Line) → g (option_map f o) ≡ g o)
    → (ways : Ways) (w x : ℕ) → w < length ways.lines → g (line_in (over_line f w ways) x) ≡ g (line_in ways x)
line_in-kept g f keeps same ways w x inside = elim (cases_eq (location ways x) w) as (λ _. g (line_in (over_line f w ways) x) ≡ g (line_in ways x)) [
  | inl here ↦ ap g (line_in-changed f keeps ways w x inside here) ∙ same (line_in ways x)
  | inr other ↦ ap g (line_in-unchanged f keeps ways w x other)
]

-- if no element passes, each fails
pub passed_over : {X : Type 0} (p : X → Bool) (xs : List X) (w : ℕ) (d : X) → length xs ≤ position_or_len p xs → w < length xs
    → p (get_or xs w d) ≡ false
passed_over p xs w d l inside = not-true (p (get_or xs w d)) (prefix_len_passes (λ x. not (p x)) xs w d (omega arith))

-- if no way has a block's line, the block has none
pub line_in-none : (ways : Ways) (b : ℕ) → ((w : ℕ) → w < length ways.lines → holds b (line_at ways w) ≡ false) → line_in ways b ≡ None
line_in-none ways b none =
    let last : location ways b ≡ length ways.lines
    = position_or_len_is (holds b) ways.lines (length ways.lines) None (omega arith) none (λ l. absurd (omega arith)) in
    line_in-location ways b ∙ get_or_past ways.lines (location ways b) None (omega arith)

-- if a block has no line, no way has a line of it
pub none_held : (ways : Ways) (b w : ℕ) (line : Line) → line_in ways b ≡ None → line_at ways w ≡ Some line → line.at ≢ b
none_held ways b w line none e = λ same. elim (cases_lt (location ways b) (length ways.lines)) as (λ _. ⊥) [
  | inl l ↦
      let found : way_of ways b ≡ Some (location ways b) = ap (λ t. cond t (Some (location ways b)) None) (lt-ltb _ _ l) in
      let there = held b (line_at ways (location ways b)) (location-way_of ways b (location ways b) found).2 in
      let wrong : None ≡ Some there.0 = sym none ∙ line_in-location ways b ∙ there.1 in
      cc
  | inr l ↦
      let fails : holds b (line_at ways w) ≡ false = passed_over (holds b) ways.lines w None l (line_at-inside ways w line e) in
      let passes : holds b (line_at ways w) ≡ true = holding b (line_at ways w) line e same in
      let wrong : true ≡ false = sym passes ∙ fails in
      cc
]
