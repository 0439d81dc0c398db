-- What a hart's pick finds.
use Rattle.std.proofs.Common.{◌≡◌, Bool, true, false, ◌&&◌, ◌||◌, not, if◌then◌else◌, Option, Some, None, refl}
use Rattle.thy_computer.specs.declared.did.Stall.{Stall}
use Rattle.thy_computer.specs.declared.did.Stall.TheVariants.{Waiting, Sealing}

-- the stall, by what decides it
abbrev pub stalled : Bool → Bool → Bool → Bool → Bool → Bool → Option Stall
stalled way barred over short stopped promotes =
    if way && (barred || over || short || (stopped && not promotes)) then Some Waiting
    else (if over || promotes then Some Sealing else None)

-- nothing stands in the way of the hart
pub record IsClear (way barred over short stopped promotes : Bool) : Type 0 where
  pub going : over ≡ false
  pub whole : promotes ≡ false
  pub free : way ≡ true → barred ≡ false
  pub enough : way ≡ true → short ≡ false
  pub lively : way ≡ true → stopped ≡ false

pub clear : (way barred over short stopped promotes : Bool) → stalled way barred over short stopped promotes ≡ None
    → IsClear way barred over short stopped promotes
clear false barred false short stopped false e = record {
  going = refl;
  whole = refl;
  free = λ f. absurd (cc);
  enough = λ f. absurd (cc);
  lively = λ f. absurd (cc);
}
clear true false false false false false e = record { going = refl; whole = refl; free = λ t. refl; enough = λ t. refl; lively = λ t. refl }
clear false barred true short stopped promotes e = absurd (cc)
clear false barred false short stopped true e = absurd (cc)
clear true true over short stopped promotes e = absurd (cc)
clear true false true short stopped promotes e = absurd (cc)
clear true false false true stopped promotes e = absurd (cc)
clear true false false false true false e = absurd (cc)
clear true false false false true true e = absurd (cc)
clear true false false false false true e = absurd (cc)
