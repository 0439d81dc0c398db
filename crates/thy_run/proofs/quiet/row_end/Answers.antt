use Rattle.std.proofs.Common.{ap, arith}
use Rattle.thy_run.proofs.quiet.row_end.Goals as goal

pub returns-clause-limit : goal.returns-clause-limit
returns-clause-limit c = λ k l. omega (arith, l, c.saturating_sub.ensures, ap (λ p. p.limit) c.numbers-limit.ensures.same)

pub returns-clause-below : goal.returns-clause-below
returns-clause-below c = λ k l. omega (arith, l, c.saturating_sub.ensures)
