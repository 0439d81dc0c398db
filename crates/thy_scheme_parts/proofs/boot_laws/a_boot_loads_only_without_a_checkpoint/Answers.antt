use Rattle.thy_scheme_parts.proofs.SeenLemmas.{loads_if_none}
use Rattle.thy_scheme_parts.proofs.boot_laws.a_boot_loads_only_without_a_checkpoint.Goals as goal

pub returns : goal.returns
returns g c = loads_if_none g.F.Fills.filling g.met.F.Fills.lawful
