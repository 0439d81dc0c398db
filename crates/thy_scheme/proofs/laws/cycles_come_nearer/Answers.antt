use Rattle.thy_scheme.proofs.NearLaws.{cycles_come_nearer}
use Rattle.thy_scheme.proofs.laws.cycles_come_nearer.Goals as goal

pub returns : goal.returns
returns c = cycles_come_nearer
