use Rattle.thy_scheme_parts.specs.Design.{design_of}
use Rattle.std.proofs.Common.{◌∙◌}
use Rattle.thy_scheme_parts.proofs.BootLemmas.{loading-is}
use Rattle.thy_composed_scheme.proofs.scheme.ComposedScheme.loading.Goals as goal

pub returns : goal.returns
returns g c = λ o n boots. c.is_loading.ensures
    ∙ loading-is (design_of g.P.Fills.filling g.P.Checkpoints.items g.P.Parts.parts) g.met.P.Parts.are_parts o c.args.self.now n boots
