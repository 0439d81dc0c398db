use Rattle.thy_record.proofs.IssuingLemmas.{free_not_looked}
use Rattle.thy_record.proofs.laws.free_is_not_looked_at.Goals as goal

pub returns : goal.returns
returns c = λ p image version epoch t x meant there free inside. free_not_looked p image version epoch t x meant there free inside
