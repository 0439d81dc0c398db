use Rattle.thy_scheme_parts.specs.Design.{design_of}
use Rattle.thy_scheme_parts.proofs.LawfulLemmas.{lawful}
use Rattle.thy_scheme_parts.proofs.laws.parts_make_a_lawful_scheme.Goals as goal

pub returns : goal.returns
returns g c = lawful (design_of g.P.Fills.filling g.P.Checkpoints.items g.P.Parts.parts) g.met.P.Parts.are_parts
