-- Steps of a hart in a row.
use Rattle.std.specs.Prelude.{◌≡◌, ℕ, false, List, [], ◌∷◌, ◌++◌, replicate, Option, Some, None}
use Rattle.thy_block.specs.Store.{Holding}
use Rattle.thy_cache.specs.Contents.{Contents}
use Rattle.thy_hart.specs.declared.hand.HartStep.{HartStep}
use Rattle.thy_hart.specs.declared.hand.HartStep.TheVariants.{Moved}
use Rattle.thy_hart.specs.HartState.{HartState}
use Rattle.thy_hart.specs.Outcomes.{Given}
use Rattle.thy_hart.specs.Moments.{moment, brings_line}
use Rattle.thy_hart.specs.OneStep.{IsStep}

-- this many moved the instruction on, and then came this one, if one did
abbrev pub moved_then : ℕ → Option HartStep → List HartStep
moved_then moved None = replicate moved Moved
moved_then moved (Some s) = replicate moved Moved ++ s ∷ []

-- Steps one after another, from h and c to k and d, over a store that holds this. None brings a line, so all leave the store alone
abbrev pub Takes : Given → Holding → HartState → Contents → List HartStep → HartState → Contents → Type 0
Takes g held h c [] k d = (k ≡ h) × (d ≡ c)
Takes g held h c (s ∷ rest) k d =
    (l : HartState) × (e : Contents) × (brings_line (moment h c held) ≡ false)
    × IsStep g (moment h c held) (moment l e held) s × Takes g held l e rest k d
