use Rattle.thy_hart.proofs.FollowLaws.{next-coming}
use Rattle.thy_hart.proofs.laws.the_next_state_is_to_come.Goals as goal

pub returns : goal.returns
returns c = next-coming
