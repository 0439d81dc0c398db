-- The parts that tell an epoch's harts, and the line around them.
use Rattle.std.proofs.Common.{◌≡◌, ◌≢◌, ◌==◌, ℕ, Bool, true, false, if◌then◌else◌, List, [], ◌∷◌, refl, sym, ap, subst, Result}
use Rattle.std.proofs.lemmas.Bool.{eqb-true}
use Rattle.std.specs.Prelude.{codes}
use Rattle.std.specs.Fmt.{decimal}
use Rattle.thy_block.specs.declared.outside.SinkError.{SinkError}
use Rattle.thy_block.specs.Outside.{Stream}
use Rattle.thy_text.specs.Lines.{line_feed, turns_by, harts_parts}
use Rattle.thy_text.specs.Writing.{Wrote}

-- with one hart an epoch's line ends with the line feed alone
pub parts-one : (harts : ℕ) (turns : List ℕ) → harts ≡ 1 → line_feed ∷ [] ≡ harts_parts harts turns
parts-one harts turns one = ap (λ n. harts_parts n turns) (sym one)

-- with two harts an epoch's line has the numbers of both
abbrev both : List ℕ → List (List ℕ)
both turns = codes " harts " ∷ decimal (turns_by 0 turns) ∷ codes " " ∷ decimal (turns_by 1 turns) ∷ line_feed ∷ []

pub parts-two : (harts : ℕ) (turns : List ℕ) → harts ≢ 1 → both turns ≡ harts_parts harts turns
parts-two harts turns two = by_test (harts == 1) refl
  where
    by_test : (b : Bool) → (harts == 1) ≡ b → both turns ≡ (if b then line_feed ∷ [] else both turns)
    by_test true e = absurd (two (eqb-true harts 1 e))
    by_test false e = refl

-- a line with another end that is the same
pub wrote-with : (r : Result (Unit {0}) SinkError) (a b : Stream) (line : List ℕ → List ℕ) (x y : List ℕ) → x ≡ y
    → Wrote r a b (line x) → Wrote r a b (line y)
wrote-with r a b line x y e h = subst (λ (end : List ℕ). Wrote r a b (line end)) e h
