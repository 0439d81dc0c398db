use Rattle.std.proofs.Common.{sym, ◌∙◌}
use Rattle.thy_hart.proofs.HandLemmas.{begun-some}
use Rattle.thy_hart.proofs.micro_steps.HartParts.begin_in_pieces.Goals as goal

pub returns-clause-pieces : goal.returns-clause-pieces
returns-clause-pieces c = λ _ none.
    begun-some c.args.effect c.moves-moves.result.from c.moves-moves.result.to (sym c.begun-self.ensures ∙ none)
