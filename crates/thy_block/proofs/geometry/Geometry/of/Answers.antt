use Rattle.thy_block.proofs.geometry.Geometry.of.Goals as goal

pub invariant_of-result : goal.invariant_of-result
invariant_of-result g c = c.parameters.ensures.in_range
