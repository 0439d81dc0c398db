use Rattle.thy_scheme_parts.specs.Design.{design_of}
use Rattle.thy_scheme_parts.proofs.SoundLemmas.{items_keep_sound}
use Rattle.thy_scheme_parts.proofs.laws.items_keep_the_checkpoints.Goals as goal

pub returns : goal.returns
returns g c = items_keep_sound (design_of g.P.Fills.filling g.P.Checkpoints.items g.P.Parts.parts) g.met.P.Parts.are_parts.design
