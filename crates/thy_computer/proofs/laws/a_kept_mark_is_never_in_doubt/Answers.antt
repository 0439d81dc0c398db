use Rattle.thy_computer.proofs.SafeLemmas.{Safe-same}
use Rattle.thy_computer.proofs.laws.a_kept_mark_is_never_in_doubt.Goals as goal

pub returns : goal.returns
returns c = Safe-same
