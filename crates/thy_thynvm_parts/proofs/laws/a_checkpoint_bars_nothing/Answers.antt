use Rattle.thy_thynvm_parts.proofs.LawLemmas.{nothing_is_barred}
use Rattle.thy_thynvm_parts.proofs.laws.a_checkpoint_bars_nothing.Goals as goal

pub returns : goal.returns
returns c = nothing_is_barred
