use Rattle.thy_control.proofs.LeftLemmas.{AreCopied-none, HasNoneLeft-copied}
use Rattle.thy_control.proofs.laws.nothing_left_is_all_copied.Goals as goal

pub returns-clause-copied : goal.returns-clause-copied
returns-clause-copied c = AreCopied-none

pub returns-clause-none : goal.returns-clause-none
returns-clause-none c = HasNoneLeft-copied
