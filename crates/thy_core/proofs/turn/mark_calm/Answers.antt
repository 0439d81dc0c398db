use Rattle.std.proofs.Common.{sym, ◌∙◌}
use Rattle.thy_core.proofs.turn.mark_calm.Goals as goal

pub returns-then-m-clause-calm : goal.returns-then-m-clause-calm
returns-then-m-clause-calm g c = c.if-m.true ∙ sym (c.requires c.if-m.true)
