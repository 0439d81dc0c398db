use Rattle.thy_scheme_parts.specs.Design.{design_of}
use Rattle.thy_composed_scheme.proofs.CallLemmas.{cut_sized}
use Rattle.thy_composed_scheme.proofs.scheme.ComposedScheme.cut.Goals as goal

pub returns-clause-sized : goal.returns-clause-sized
returns-clause-sized g c = λ p of. cut_sized (design_of g.P.Fills.filling g.P.Checkpoints.items g.P.Parts.parts) g.met.P.Parts.are_parts
    c.args.self c.args.pick c.power_off.result c.power_off.ensures p of
