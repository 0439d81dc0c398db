use Rattle.thy_scheme_parts.proofs.PowerLemmas.{own_has_mark}
use Rattle.thy_scheme_parts.proofs.boot_laws.an_image_of_the_run_has_a_mark.Goals as goal

pub returns : goal.returns
returns g c = own_has_mark g.F.Fills.filling
