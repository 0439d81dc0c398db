use Rattle.thy_record.proofs.SlotLemmas.{decode-written}
use Rattle.thy_record.proofs.laws.written_decodes.Goals as goal

pub returns : goal.returns
returns c = λ p ceiling cpu t counts epoch image r recordable s are most below has.
    decode-written p ceiling cpu t counts epoch image r recordable s are most below has
