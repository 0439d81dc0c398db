use Rattle.thy_computer.proofs.IssuingLemmas.{issued_is_checkpoint}
use Rattle.thy_computer.proofs.checkpoint_laws.what_is_issued_is_a_checkpoint.Goals as goal

pub returns : goal.returns
returns c = λ l ceiling n commit parts memory of h some none. issued_is_checkpoint l ceiling n commit parts memory of h some none
