use Rattle.thy_run.proofs.WorldLaws.{IsSafe-cut}
use Rattle.thy_run.proofs.laws.one_more_cut_is_safe.Goals as goal

pub returns : goal.returns
returns g c = IsSafe-cut g.M.Computer.kind
