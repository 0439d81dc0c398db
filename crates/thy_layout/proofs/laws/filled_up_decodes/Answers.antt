use Rattle.thy_layout.proofs.PlacesLemmas.{decode-filled_up}
use Rattle.thy_layout.proofs.laws.filled_up_decodes.Goals as goal

pub returns : goal.returns
returns c = decode-filled_up
