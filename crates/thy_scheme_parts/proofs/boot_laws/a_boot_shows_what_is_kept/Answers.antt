use Rattle.thy_scheme_parts.proofs.SeenLemmas.{view_is_kept}
use Rattle.thy_scheme_parts.proofs.boot_laws.a_boot_shows_what_is_kept.Goals as goal

pub returns : goal.returns
returns g c = view_is_kept g.F.Fills.filling
