use Rattle.thy_scheme.proofs.HartCases.{hart-hands-on}
use Rattle.thy_scheme.proofs.laws.the_hart_hands_on.Goals as goal

pub returns : goal.returns
returns g c = hart-hands-on g.S.Scheme.scheme
