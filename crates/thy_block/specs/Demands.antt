-- Part of the claim.
-- What is asked of something, in order, and the first fault that it has.
use Rattle.std.specs.Prelude.{Bool, List, [], ◌∷◌, Option, Some, None, if◌then◌else◌}

-- a test, and the fault if it fails
pub record Demand (Fault : Type 0) : Type 0 where
  pub fits : Bool
  pub fault : Fault

abbrev pub asked : {Fault : Type 0} → Bool → Fault → Demand Fault
asked fits fault = record { fits = fits; fault = fault }

-- the fault of the first test that fails
abbrev pub first_fault : {Fault : Type 0} → List (Demand Fault) → Option Fault
first_fault [] = None
first_fault (d ∷ ds) = if d.fits then first_fault ds else Some d.fault
