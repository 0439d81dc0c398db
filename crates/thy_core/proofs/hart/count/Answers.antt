use Rattle.std.proofs.Common.{sym, ◌∙◌}
use Rattle.thy_core.proofs.CalmLaws.{moves_on}
use Rattle.thy_core.proofs.hart.count.Goals as goal

pub returns-then-not-ends-clause-calm : goal.returns-then-not-ends-clause-calm
returns-then-not-ends-clause-calm g c = moves_on c.args.step c.args.m.now.store.calm (sym c.ends.ensures ∙ c.if-not-ends.true)
