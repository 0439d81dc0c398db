use Rattle.thy_scheme_parts.specs.Design.{design_of}
use Rattle.thy_scheme_parts.proofs.BootStepLemmas.{boots_on}
use Rattle.thy_scheme_parts.proofs.laws.a_step_of_the_boot_is_one.Goals as goal

pub returns : goal.returns
returns g c = boots_on (design_of g.P.Fills.filling g.P.Checkpoints.items g.P.Parts.parts) g.met.P.Parts.are_parts
