use Rattle.thy_scheme_parts.proofs.SeenLemmas.{found_is_settled, found_fails_unwritten}
use Rattle.thy_scheme_parts.proofs.boot_laws.a_boot_that_found_a_checkpoint_only_reads.Goals as goal

pub returns-clause-settled : goal.returns-clause-settled
returns-clause-settled g c = found_is_settled g.F.Fills.filling

pub returns-clause-failed : goal.returns-clause-failed
returns-clause-failed g c = found_fails_unwritten g.F.Fills.filling g.met.F.Fills.lawful
