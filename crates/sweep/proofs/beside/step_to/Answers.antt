use Rattle.std.proofs.Common.{ℕ, ◌-◌, subst, arith}
use Rattle.thy_plain.specs.Machine.{StopsAt}
use Rattle.sweep.proofs.beside.step_to.Goals as goal

pub returns-then-count-now : goal.returns-then-count-now
returns-then-count-now c = λ no_less few. absurd (omega (arith, c.count-now.ensures, no_less, c.if-count-now.true))

pub returns-then-count-ge-MANY : goal.returns-then-count-ge-MANY
returns-then-count-ge-MANY c = λ no_less few. absurd (omega (arith, few, c.if-count-ge-MANY.true))

pub returns : goal.returns
returns c = λ no_less few. (
  c.run-done.result,
  subst (λ (k : ℕ). StopsAt c.args.plain.now (c.args.count - k) c.run-done.result) c.count-now.ensures c.run-done.ensures.stops,
  c.run-done.ensures.state,
)
