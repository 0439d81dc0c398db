use Rattle.thy_layout.proofs.AgainLemmas.{written_again}
use Rattle.thy_layout.proofs.laws.a_record_is_written_again.Goals as goal

pub returns : goal.returns
returns c = λ p ceiling blocks i range none small. written_again p ceiling blocks i range none small
