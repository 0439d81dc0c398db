use Rattle.thy_control.proofs.FreesLemmas.{half_free}
use Rattle.thy_control.proofs.laws.a_seal_without_work_frees_entries.Goals as goal

pub returns : goal.returns
returns c = half_free
