use Rattle.thy_scheme.proofs.MomentLaws.{leads_to_moment}
use Rattle.thy_scheme.proofs.laws.a_cycle_leads_to_a_moment.Goals as goal

pub returns : goal.returns
returns g c = leads_to_moment g.S.Scheme.scheme
