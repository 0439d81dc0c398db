use Rattle.thy_scheme_parts.specs.Design.{design_of}
use Rattle.thy_scheme_parts.proofs.SafeLemmas.{seal_keeps_sound}
use Rattle.thy_scheme_parts.proofs.laws.a_seal_keeps_the_checkpoints.Goals as goal

pub returns : goal.returns
returns g c = seal_keeps_sound (design_of g.P.Fills.filling g.P.Checkpoints.items g.P.Parts.parts) g.met.P.Parts.are_parts.design
