use Rattle.std.proofs.Common.{◌≡◌, ◌+◌, ◌-◌, ◌<◌, ℕ, true, false, ap, sym, subst, ◌∙◌, arith}
use Rattle.thy_isa.specs.Step.{is_running, steps}
use Rattle.thy_plain.specs.Machine.{Machine, StopsAt, after_steps, stepped}
use Rattle.thy_plain.proofs.RunLaws.{Ran-none, Ran-more, after_none, after_more, count_below, count_more, stops_at_once, stops_after}
use Rattle.thy_plain.proofs.plain.Plain.run.Goals as goal

pub loop-done-init : goal.loop-done-init
loop-done-init c =
    let runs : is_running c.args.self.now.state.status ≡ true = cc in
    record { ran = Ran-none c.args.self.now; state = sym (after_none c.args.self.now); runs = runs }

pub advance-requires-clause-count : goal.advance-requires-clause-count
advance-requires-clause-count c =
    count_below c.args.self.now c.loop-done.self c.loop-done.done _ c.loop-done.invariant.state c.loop-done.invariant.runs (omega arith)

pub loop-done-preserved : goal.loop-done-preserved
loop-done-preserved c =
    let m = c.args.self.now in
    let still : is_running (steps m.setting c.loop-done.done m.state).status ≡ true =
    ap (λ (n : Machine). is_running n.state.status) (sym c.loop-done.invariant.state) ∙ c.loop-done.invariant.runs in
    let runs : is_running c.advance.new.self.state.status ≡ true = cc in
    record {
      ran = Ran-more m c.loop-done.done c.loop-done.invariant.ran still;
      state = c.advance.ensures.state ∙ ap stepped c.loop-done.invariant.state ∙ after_more m c.loop-done.done;
      runs = runs;
    }

pub returns-then-not-is_running-clause-stops : goal.returns-then-not-is_running-clause-stops
returns-then-not-is_running-clause-stops c =
    let ended : is_running c.args.self.now.state.status ≡ false = cc in
    stops_at_once c.args.self.now c.args.limit ended

pub returns-then-not-is_running-clause-state : goal.returns-then-not-is_running-clause-state
returns-then-not-is_running-clause-state c = sym (after_none c.args.self.now)

-- the machine after the step that ended the program
last : (c : goal.After-count-now) → c.advance.new.self ≡ after_steps (c.loop-done.done + 1) c.args.self.now
last c = c.advance.ensures.state ∙ ap stepped c.loop-done.invariant.state ∙ after_more c.args.self.now c.loop-done.done

-- the program ran before that step
ran : (c : goal.After-count-now) → is_running (steps c.args.self.now.setting c.loop-done.done c.args.self.now.state).status ≡ true
ran c = ap (λ (n : Machine). is_running n.state.status) (sym c.loop-done.invariant.state) ∙ c.loop-done.invariant.runs

-- how many steps were taken is what the count has gained
gained : (c : goal.After-count-now) → c.count-now.result ≡ c.count-before.result + (c.loop-done.done + 1)
gained c =
    omega (
      arith,
      c.count-before.ensures,
      c.count-now.ensures,
      count_more c.args.self.now c.advance.new.self c.loop-done.done (ran c) (last c),
    )

taken : (c : goal.After-count-now) → c.loop-done.done + 1 ≡ c.count-now.result - c.count-before.result
taken c = omega (arith, gained c)

pub overflow_sub-result : goal.overflow_sub-result
overflow_sub-result c = omega (arith, gained c)

pub returns-then-not-advance-clause-stops : goal.returns-then-not-advance-clause-stops
returns-then-not-advance-clause-stops c =
    let m = c.args.self.now in
    let k = c.loop-done.done in
    let below : k < c.args.limit = omega arith in
    let ended : is_running c.advance.new.self.state.status ≡ false = cc in
    subst (StopsAt m c.args.limit) (taken c)
    (stops_after m c.advance.new.self c.args.limit k below c.loop-done.invariant.ran (ran c) (last c) ended)

pub returns-then-not-advance-clause-state : goal.returns-then-not-advance-clause-state
returns-then-not-advance-clause-state c = last c ∙ ap (λ (k : ℕ). after_steps k c.args.self.now) (taken c)
