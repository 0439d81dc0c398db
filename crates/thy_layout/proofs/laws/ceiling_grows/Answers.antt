use Rattle.thy_layout.proofs.PlacesLemmas.{decode-higher}
use Rattle.thy_layout.proofs.laws.ceiling_grows.Goals as goal

pub returns : goal.returns
returns c = λ layouts p low high image epoch state are most h. decode-higher layouts are p low high image epoch state most h
