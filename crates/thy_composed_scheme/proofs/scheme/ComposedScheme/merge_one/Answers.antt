use Rattle.thy_scheme_parts.specs.Design.{design_of}
use Rattle.thy_composed_scheme.proofs.CallLemmas.{merges_then}
use Rattle.thy_composed_scheme.proofs.scheme.ComposedScheme.merge_one.Goals as goal

pub returns-clause-some : goal.returns-clause-some
returns-clause-some g c = λ some o k n stands. merges_then (design_of g.P.Fills.filling g.P.Checkpoints.items g.P.Parts.parts)
    g.met.P.Parts.are_parts o k c.args.self.now c.merge_next.new.self n c.merge_next.ensures c.requires.idle some stands
