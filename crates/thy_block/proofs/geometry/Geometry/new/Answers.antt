use Rattle.std.proofs.Common.{sym}
use Rattle.thy_block.proofs.geometry.Geometry.new.Goals as goal

pub returns-in-None-clause-in_range : goal.returns-in-None-clause-in_range
returns-in-None-clause-in_range g c = (λ same. c.in-None.ensures.faultless.0 (sym c.in-None.ensures.fault), λ all. cc)

pub returns-in-Some-clause-in_range : goal.returns-in-Some-clause-in_range
returns-in-Some-clause-in_range g c = (λ same. cc, λ all. let none = c.in-Some.ensures.faultless.1 all in cc)
