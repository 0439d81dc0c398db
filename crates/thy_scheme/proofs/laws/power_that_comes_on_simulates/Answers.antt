use Rattle.thy_scheme.proofs.RunLaws.{left_simulates}
use Rattle.thy_scheme.proofs.laws.power_that_comes_on_simulates.Goals as goal

pub returns : goal.returns
returns g c = left_simulates g.S.Scheme.scheme
