use Rattle.thy_record.proofs.SlotLemmas.{tables_of_decoded}
use Rattle.thy_record.proofs.laws.decoded_has_tables.Goals as goal

pub returns : goal.returns
returns c = λ p ceiling image epoch state h. tables_of_decoded p ceiling image epoch state h
