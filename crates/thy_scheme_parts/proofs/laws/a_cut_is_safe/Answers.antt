use Rattle.thy_scheme_parts.specs.Design.{design_of}
use Rattle.thy_scheme_parts.proofs.SafeLemmas.{sound_is_safe, failed_items_are_safe}
use Rattle.thy_scheme_parts.proofs.laws.a_cut_is_safe.Goals as goal

pub returns-clause-sound : goal.returns-clause-sound
returns-clause-sound g c = sound_is_safe (design_of g.P.Fills.filling g.P.Checkpoints.items g.P.Parts.parts)

pub returns-clause-failed : goal.returns-clause-failed
returns-clause-failed g c = failed_items_are_safe (design_of g.P.Fills.filling g.P.Checkpoints.items g.P.Parts.parts) g.met.P.Parts.are_parts.design
