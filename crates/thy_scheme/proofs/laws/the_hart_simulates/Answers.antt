use Rattle.thy_scheme.proofs.HartCases.{hart-simulates}
use Rattle.thy_scheme.proofs.laws.the_hart_simulates.Goals as goal

pub returns : goal.returns
returns g c = hart-simulates g.S.Scheme.scheme
