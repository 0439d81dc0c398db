use Rattle.std.proofs.Common.{◌≡◌, ◌∙◌, ◌+◌, ◌==◌, ◌≤◌, ℕ, Bool, true, false, ap₂, arith, cond, sym}
use Rattle.std.proofs.lemmas.List.Sums.{sum_by_more}
use Rattle.thy_text.proofs.line.count_turns.Goals as goal

-- one turn is at most 1
at_most_one : (b : Bool) (n : ℕ) → n ≡ cond b 1 0 → n ≤ 1
at_most_one true n e = omega arith
at_most_one false n e = omega arith

pub overflow_add-count : goal.overflow_add-count
overflow_add-count c = let few : c.turn_in-count.result ≤ 1 = at_most_one _ _ c.turn_in-count.ensures in omega arith

pub loop-turn-preserved : goal.loop-turn-preserved
loop-turn-preserved c =
    let before = c.loop-turn.invariant in
    let one : c.turn_in-count.result ≤ 1 = at_most_one _ _ c.turn_in-count.ensures in
    record {
      count = ap₂ ◌+◌ before.count c.turn_in-count.ensures
          ∙ sym (sum_by_more (λ (t : ℕ). cond (t == c.args.hart) 1 0) c.args.turns.now c.loop-turn.turn-index _ c.loop-turn-test.true);
      few = omega arith;
    }
