use Rattle.std.proofs.Common.{ap, sym, ◌∙◌}
use Rattle.thy_block.specs.declared.mix.Mix.{Mix}
use Rattle.thy_run.specs.Picks.{after_picks}
use Rattle.thy_run.proofs.picks.pass_some.Goals as goal

pub returns-in-InTurn : goal.returns-in-InTurn
returns-in-InTurn c = c.turn_after.ensures ∙ ap (λ (m : Mix). after_picks c.args.harts c.args.picks m) (sym c.in-InTurn.is)
