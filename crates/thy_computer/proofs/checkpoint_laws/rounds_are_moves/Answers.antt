use Rattle.thy_computer.proofs.RoundLemmas.{rounds_move, failed_rounds_move}
use Rattle.thy_computer.proofs.checkpoint_laws.rounds_are_moves.Goals as goal

pub returns-clause-done : goal.returns-clause-done
returns-clause-done c = rounds_move

pub returns-clause-failed : goal.returns-clause-failed
returns-clause-failed c = failed_rounds_move
