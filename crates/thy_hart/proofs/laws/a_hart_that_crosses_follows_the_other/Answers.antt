use Rattle.thy_hart.proofs.FollowLaws.{crosses-on}
use Rattle.thy_hart.proofs.laws.a_hart_that_crosses_follows_the_other.Goals as goal

pub returns : goal.returns
returns c = crosses-on
