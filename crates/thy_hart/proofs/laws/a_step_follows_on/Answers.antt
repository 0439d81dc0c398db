use Rattle.thy_hart.proofs.FollowLaws.{follows-on}
use Rattle.thy_hart.proofs.laws.a_step_follows_on.Goals as goal

pub returns : goal.returns
returns c = follows-on
