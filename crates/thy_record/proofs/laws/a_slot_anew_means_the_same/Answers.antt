use Rattle.thy_record.proofs.MigratedLemmas.{anew_means_the_same}
use Rattle.thy_record.proofs.laws.a_slot_anew_means_the_same.Goals as goal

pub returns : goal.returns
returns c = anew_means_the_same
