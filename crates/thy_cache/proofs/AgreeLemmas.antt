-- A set and a store that agree still do after each change.
use Rattle.std.proofs.Common.{◌≡◌, ◌≢◌, ◌⊎◌, ℕ, ◌<◌, ◌%◌, false, List, length, get_or, slice_set, Option, Some, None, refl, sym, ◌∙◌, ap, inl, inr, arith}
use Rattle.std.specs.Option.{option_map}
use Rattle.std.proofs.lemmas.Bool.{cases_eq}
use Rattle.std.proofs.lemmas.List.{length-set, get_or-set_same, get_or-set_other}
use Rattle.thy_block.specs.declared.block.Block.{Block}
use Rattle.thy_block.specs.Device.{zero_block, block_at}
use Rattle.thy_cache.specs.declared.line.Line.{Line}
use Rattle.thy_cache.specs.Ways.{Ways, line_at, line_in, over_line}
use Rattle.thy_cache.specs.Flat.{SetAgrees}
use Rattle.thy_cache.proofs.LineLemmas.{KeepsBlock, line_at-inside, line_in-found, none_held}

-- a set in which one way was written
abbrev pub rewritten : ℕ → Option Line → Ways → Ways
rewritten w o ways = record ways { lines = slice_set ways.lines w o }

-- a set in which one way was written has the new line there, and the old lines elsewhere
pub line_at-rewritten : (ways : Ways) (w v : ℕ) (o : Option Line) (line : Line) → line_at (rewritten w o ways) v ≡ Some line
    → ((v ≡ w) × (o ≡ Some line)) ⊎ ((v ≢ w) × (line_at ways v ≡ Some line))
line_at-rewritten ways w v o line e = elim (cases_eq v w) as (λ _. ((v ≡ w) × (o ≡ Some line)) ⊎ ((v ≢ w) × (line_at ways v ≡ Some line))) [
  | inl same ↦
      let inside : w < length ways.lines = omega (arith, same, line_at-inside (rewritten w o ways) v line e, length-set ways.lines w o) in
      inl (same, sym (get_or-set_same ways.lines w o None inside) ∙ ap (line_at (rewritten w o ways)) (sym same) ∙ e)
  | inr other ↦ inr (other, sym (get_or-set_other ways.lines w v o None other) ∙ e)
]

module _ (n : ℕ) (blocks : List Block) (s : ℕ) (ways : Ways) (w : ℕ) (line : Line) where
  -- what a look-up of a line's block finds is that line
  pub found_is : (o : Option Line) → SetAgrees n blocks s ways → line_at ways w ≡ Some line → line_in ways line.at ≡ o → o ≡ Some line
  found_is None agrees h e = absurd (none_held ways line.at w line e h refl)
  found_is (Some m) agrees h e =
      let found = line_in-found ways line.at m e in
      let same : found.0 ≡ w = agrees.single found.0 w m line found.1 h found.2 in
      sym found.1 ∙ ap (line_at ways) same ∙ h

  pub line_in-single : SetAgrees n blocks s ways → line_at ways w ≡ Some line → line_in ways line.at ≡ Some line
  line_in-single agrees h = found_is (line_in ways line.at) agrees h refl

-- a set agrees if one with the same lines does
pub SetAgrees-same : (n : ℕ) (blocks : List Block) (s : ℕ) (old new : Ways) → new.lines ≡ old.lines → SetAgrees n blocks s old
    → SetAgrees n blocks s new
SetAgrees-same n blocks s old new e agrees =
    let at : (w : ℕ) (line : Line) → line_at new w ≡ Some line → line_at old w ≡ Some line = λ w line f. sym (ap (λ ls. get_or ls w None) e) ∙ f in
    record {
      lines = λ w line f. agrees.lines w line (at w line f);
      single = λ w v line other f g. agrees.single w v line other (at w line f) (at v other g);
    }

-- an option that holds nothing is not one that holds something
pub none_is_none : {Y : Type 0} (y : Y) → None ≡ Some y → ⊥
none_is_none y e = cc

pub some_is : {Y : Type 0} (x y : Y) → Some x ≡ Some y → x ≡ y
some_is x y e = cc

-- a line that was the store's block still is where its block was not stored, or is what was stored
pub stored_clean : (blocks : List Block) (at : ℕ) (block : Block) (line : Line) → line.at < length blocks
    → line.block ≡ block_at blocks line.at
    → (line.at ≡ at → line.block ≡ block) → line.block ≡ block_at (slice_set blocks at block) line.at
stored_clean blocks at block line inside old stored =
    elim (cases_eq line.at at) as (λ _. line.block ≡ block_at (slice_set blocks at block) line.at) [
      | inl same ↦
          let here : at < length blocks = omega (arith, same, inside) in
          stored same ∙ sym (get_or-set_same blocks at block zero_block here) ∙ ap (block_at (slice_set blocks at block)) (sym same)
      | inr other ↦ old ∙ sym (get_or-set_other blocks at line.at block zero_block other)
    ]

-- what was there before a change
pub map-Some : {X Y : Type 0} (f : X → Y) (o : Option X) (y : Y) → option_map f o ≡ Some y → (x : X) × (o ≡ Some x) × (f x ≡ y)
map-Some f None y e = absurd (none_is_none y e)
map-Some f (Some x) y e = (x, refl, some_is (f x) y e)

pub before : (f : Line → Line) (w : ℕ) (ways : Ways) (v : ℕ) (line : Line) → line_at (over_line f w ways) v ≡ Some line
    → (old : Line) × (line_at ways v ≡ Some old) × ((line ≡ old) ⊎ ((v ≡ w) × (f old ≡ line)))
before f w ways v line e =
    elim (line_at-rewritten ways w v (option_map f (line_at ways w)) line e)
    as (λ _. (old : Line) × (line_at ways v ≡ Some old) × ((line ≡ old) ⊎ ((v ≡ w) × (f old ≡ line)))) [
      | inl here ↦ let was = map-Some f (line_at ways w) line here.1 in (was.0, ap (line_at ways) here.0 ∙ was.1, inr (here.0, was.2))
      | inr there ↦ (line, there.1, inl refl)
    ]

-- a changed line is of the block that it was of
pub before-at : (f : Line → Line) → KeepsBlock f → (line old : Line) (v w : ℕ) → (line ≡ old) ⊎ ((v ≡ w) × (f old ≡ line)) → line.at ≡ old.at
before-at f keeps line old v w (inl same) = ap (λ (l : Line). l.at) same
before-at f keeps line old v w (inr here) = sym (ap (λ (l : Line). l.at) here.1) ∙ keeps old

module _ (n : ℕ) (blocks : List Block) (s : ℕ) (f : Line → Line) (w : ℕ) (ways : Ways) (keeps : KeepsBlock f)
    (becomes : ((line : Line) → line_at ways w ≡ Some line → (f line).dirty ≡ false → (f line).block ≡ block_at blocks line.at))
    (agrees : SetAgrees n blocks s ways) where
  -- a line of a set that agrees, as its own part
  pub clean-before : (v : ℕ) (line old : Line) → line_at ways v ≡ Some old → (line ≡ old) ⊎ ((v ≡ w) × (f old ≡ line))
      → line.dirty ≡ false → line.block ≡ block_at blocks line.at
  clean-before v line old e (inl same) = λ pure. rw same ((agrees.lines v old e).clean (sym (ap (λ (l : Line). l.dirty) same) ∙ pure))
  clean-before v line old e (inr here) = λ pure.
      let at_w : line_at ways w ≡ Some old = ap (line_at ways) (sym here.0) ∙ e in
      let pure_too : (f old).dirty ≡ false = ap (λ (l : Line). l.dirty) here.1 ∙ pure in
      sym (ap (λ (l : Line). l.block) here.1) ∙ becomes old at_w pure_too ∙ ap (block_at blocks) (sym (before-at f keeps line old v w (inr here)))

  -- a change of the line in a way
  pub SetAgrees-over_line : SetAgrees n blocks s (over_line f w ways)
  SetAgrees-over_line = record {
    lines = λ v line e.
        let was = before f w ways v line e in
        let old = agrees.lines v was.0 was.1 in
        let same : line.at ≡ was.0.at = before-at f keeps line was.0 v w was.2 in
        record {
          inside = omega (arith, same, old.inside);
          own_set = old.own_set ∙ ap (λ a. a % n) (sym same);
          clean = clean-before v line was.0 was.1 was.2;
        };
    single = λ v u line other e g h.
        let one = before f w ways v line e in
        let two = before f w ways u other g in
        agrees.single v u one.0 two.0 one.1 two.1 (sym (before-at f keeps line one.0 v w one.2) ∙ h ∙ before-at f keeps other two.0 u w two.2);
  }

-- a block was stored: each line of it in the set is what was stored
pub SetAgrees-stored : (n : ℕ) (blocks : List Block) (t : ℕ) (ways : Ways) (at : ℕ) (block : Block)
    → ((v : ℕ) (line : Line) → line_at ways v ≡ Some line → line.at ≡ at → line.block ≡ block)
    → SetAgrees n blocks t ways → SetAgrees n (slice_set blocks at block) t ways
SetAgrees-stored n blocks t ways at block stored agrees = record {
  lines = λ v line e.
      let old = agrees.lines v line e in
      record {
        inside = omega (arith, old.inside, length-set blocks at block);
        own_set = old.own_set;
        clean = λ pure. stored_clean blocks at block line old.inside (old.clean pure) (stored v line e);
      };
  single = agrees.single;
}
