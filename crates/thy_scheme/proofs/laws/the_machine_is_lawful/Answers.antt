use Rattle.thy_scheme.proofs.LawfulLaws.{machine_is_lawful}
use Rattle.thy_scheme.proofs.laws.the_machine_is_lawful.Goals as goal

pub returns : goal.returns
returns g c = machine_is_lawful g.S.Scheme.scheme
