use Rattle.thy_scheme_parts.proofs.SeenLemmas.{fewer_has_read}
use Rattle.thy_scheme_parts.proofs.boot_laws.a_step_has_read_the_commit_block.Goals as goal

pub returns : goal.returns
returns g c = fewer_has_read g.F.Fills.filling g.met.F.Fills.lawful
