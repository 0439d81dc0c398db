use Rattle.thy_elf.proofs.ReachLemmas.{is_in_reach}
use Rattle.thy_elf.proofs.made.laws.stores_are_in_reach.Goals as goal

pub returns : goal.returns
returns c = is_in_reach
