-- The first fault of demands after demands.
use Rattle.std.proofs.Common.{◌≡◌, true, false, cond, List, [], ◌∷◌, ◌++◌, Some, refl}
use Rattle.std.specs.Option.{option_or}
use Rattle.thy_block.specs.Demands.{Demand, first_fault}

-- the first fault of two lists of demands is the first list's, or else the second's
pub first_fault-append : {Fault : Type 0} (xs ys : List (Demand Fault))
    → first_fault (xs ++ ys) ≡ option_or (first_fault xs) (first_fault ys)
first_fault-append [] ys = refl
first_fault-append (x ∷ xs) ys =
    elim (x.fits) as (λ b. cond b (first_fault (xs ++ ys)) (Some x.fault) ≡ option_or (cond b (first_fault xs) (Some x.fault)) (first_fault ys)) [
      | true ↦ first_fault-append xs ys
      | false ↦ refl
    ]
