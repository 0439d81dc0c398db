-- What a geometry is whose numbers have no fault.
use Rattle.std.proofs.Common.{◌≡◌, ◌∙◌, Option, Result, Ok, Err, IfOk}
use Rattle.thy_block.specs.declared.parameters.Parameters.{Parameters}
use Rattle.thy_block.specs.Geometry.{geometry_or}
use Rattle.thy_block.proofs.RangeLemmas.{geometry_or-same}

-- a geometry of numbers has these numbers
pub geometry_is : {Fault : Type 0} (fault : Option Fault) (numbers wanted : Parameters) (r : Result Parameters Fault) → numbers ≡ wanted → r ≡ geometry_or fault numbers → IfOk r (λ p. p ≡ wanted)
geometry_is fault numbers wanted (Ok p) e h = geometry_or-same fault numbers p h ∙ e
geometry_is fault numbers wanted (Err _) e h = tt
