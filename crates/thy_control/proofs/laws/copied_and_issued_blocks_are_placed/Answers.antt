use Rattle.thy_control.proofs.PlacedLemmas.{IsPlaced-copied, IsPlaced-issued}
use Rattle.thy_control.proofs.laws.copied_and_issued_blocks_are_placed.Goals as goal

pub returns-clause-copied : goal.returns-clause-copied
returns-clause-copied c = IsPlaced-copied

pub returns-clause-issued : goal.returns-clause-issued
returns-clause-issued c = IsPlaced-issued
