use Rattle.thy_observe.proofs.FollowLemmas.{follows-runs, knows-boots}
use Rattle.thy_observe.proofs.replay.what_is_executed_follows_the_run.Goals as goal

pub returns-clause-states : goal.returns-clause-states
returns-clause-states g c = follows-runs g.M.Computer.kind

pub returns-clause-boots : goal.returns-clause-boots
returns-clause-boots g c = knows-boots g.M.Computer.kind
