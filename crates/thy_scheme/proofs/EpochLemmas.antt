-- An epoch after an instruction, and how many steps an instruction has left.
use Rattle.std.proofs.Common.{◌≡◌, ℕ, ◌+◌, ◌==◌, ◌<◌, ◌≤◌, Bool, true, false, if◌then◌else◌, Option, Some, None, refl, arith, inl, inr}
use Rattle.std.proofs.lemmas.Bool.{eqb-true, eq-eqb, cases_eq}
use Rattle.thy_block.specs.declared.cause.EndCause.TheVariants.{Length, Ended}
use Rattle.thy_hart.specs.Epoch.{over_after, HasRetired}
use Rattle.thy_hart.specs.declared.hand.Hand.{Hand}
use Rattle.thy_hart.specs.declared.hand.Hand.TheVariants.{Nothing, Reading, Securing, Writing, Retiring}
use Rattle.thy_hart.specs.HartState.{blocks_of, next_block}
use Rattle.thy_block.specs.declared.span.Span.{Span}
use Rattle.thy_block.specs.Spans.{rest_of}
use Rattle.thy_hart.specs.Moments.{Moment, left_behind, moves_left}
use Rattle.thy_hart.proofs.StepLemmas.{touch_most}
use Rattle.thy_scheme.specs.Machine.{moves_begun}

-- one instruction more is within the epoch's length
pub retired-on : (running : Bool) (span retired : ℕ) → retired < span → HasRetired span (retired + 1) (over_after running span (retired + 1))
retired-on running span retired l = by_cause running (retired + 1 == span) refl
  where
    by_cause : (run last : Bool) → (retired + 1 == span) ≡ last
        → HasRetired span (retired + 1) (if run then (if last then Some Length else None) else Some Ended)
    by_cause true true e = eqb-true (retired + 1) span e
    by_cause true false e = elim (cases_eq (retired + 1) span) as (λ _. retired + 1 < span) [
      | inl same ↦ absurd (let t = eq-eqb (retired + 1) span same in cc)
      | inr other ↦ omega (arith, other)
    ]
    by_cause false last e = (omega arith, omega arith)

pub two_blocks : (to : Span) → blocks_of to ≤ 2
two_blocks to = by_len ((rest_of to).len == 0)
  where
    by_len : (a : Bool) → (if a then 1 else 2) ≤ 2
    by_len true = omega arith
    by_len false = omega arith

few_behind : (h : Hand) → left_behind h ≤ 13
few_behind Nothing = omega arith
few_behind (Reading e from to) = omega (arith, two_blocks from)
few_behind (Securing e to) = omega (arith, two_blocks to)
few_behind (Writing e to done) = omega (arith, two_blocks to)
few_behind (Retiring e wrote) = omega arith

pub few-moves : (m : Moment) → moves_left m ≤ 16
few-moves m = omega (arith, touch_most m.cache (next_block m.hart), few_behind m.hart.hand)

-- at most 16 moves are left, whichever hart's instruction is begun
pub few-begun : (begun : Option ℕ) (m : Moment) → moves_begun begun (moves_left m) ≤ 16
few-begun None m = omega arith
few-begun (Some hart) m = few-moves m
