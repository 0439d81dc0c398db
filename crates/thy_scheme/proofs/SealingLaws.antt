-- What is known at the turn of a hart whose epoch is over.
use Rattle.std.proofs.Common.{◌≡◌, ◌≢◌, ◌&&◌, ◌||◌, not, Bool, true, false, is_some, if◌then◌else◌, Option, Some, None, refl, sym, ◌∙◌, subst}
use Rattle.thy_block.specs.declared.cause.EndCause.{EndCause}
use Rattle.thy_block.specs.declared.mark.Mark.{Mark}
use Rattle.thy_block.specs.Device.{Device}
use Rattle.thy_computer.specs.declared.did.Stall.TheVariants.{Sealing, Waiting}
use Rattle.thy_computer.specs.declared.view.Phase.TheVariants.{Run}
use Rattle.thy_computer.specs.Origin.{Origin}
use Rattle.thy_computer.specs.NextActor.{has_stopped, stall_in}
use Rattle.thy_scheme.specs.Scheme.{SchemeOf}
use Rattle.thy_scheme.specs.Laws.{RunHolds}
use Rattle.thy_scheme.specs.Machine.{Machine, is_barred, shortage_of, pressure_of}
use Rattle.thy_scheme.specs.Rows.{IsSealing}
use Rattle.thy_scheme.proofs.KeepsLaws.{view_run, runs_behind}

-- the epoch is over, and no checkpoint is under way
pub record IsOver (over : Option EndCause) (way : Bool) : Type 0 where
  pub cause : EndCause
  pub over_is : over ≡ Some cause
  pub idle : way ≡ false

waits_not : (waits : Bool) → (if waits then Some Waiting else None) ≢ Some Sealing
waits_not true = λ e. absurd (cc)
waits_not false = λ e. absurd (cc)

over_in : (over : Option EndCause) (way barred short stopped promotes : Bool) → promotes ≡ false
    → (if way && (barred || is_some over || short || stopped) then Some Waiting
    else (if is_some over || promotes then Some Sealing else None)) ≡ Some Sealing
    → IsOver over way
over_in (Some cause) false barred short stopped promotes whole e = record { cause = cause; over_is = refl; idle = refl }
over_in (Some cause) true true short stopped promotes whole e = absurd (cc)
over_in (Some cause) true false short stopped promotes whole e = absurd (cc)
over_in None way barred short stopped true whole e = absurd (cc)
over_in None way barred short stopped false whole e = absurd (waits_not (way && (barred || false || short || stopped)) e)

-- if the epoch is over and no checkpoint is under way, no mark is sealed
unsealed_in : (sealed : Option Mark) (applies way : Bool) → way ≡ (is_some sealed || applies) → way ≡ false → sealed ≡ None
unsealed_in None applies way is idle = refl
unsealed_in (Some s) applies way is idle = absurd (let both : false ≡ true = sym idle ∙ is in cc)

pub unsealed_at : {S : Type 0} (K : SchemeOf S) (o : Origin) (m : Machine S) (n : Device) → RunHolds K o m.marks m.scheme n
    → K.under_way m.scheme ≡ false
    → m.marks.sealed ≡ None
unsealed_at K o m n holds idle = unsealed_in m.marks.sealed (K.applies m.scheme) (K.under_way m.scheme) holds.way idle

pub over_at : {S : Type 0} (K : SchemeOf S) (o : Origin) (m : Machine S) (n : Device) → IsSealing K o m n → K.promoting m.scheme ≡ false
    → IsOver m.hart.epoch.over (K.under_way m.scheme)
over_at K o m n sealing whole =
    let behind = runs_behind m.phase sealing.phase in
    over_in m.hart.epoch.over (K.under_way m.scheme) (is_barred K m) (is_some (shortage_of K m))
    (has_stopped o m.marks.sealed && not (K.promoting m.scheme))
    (K.promoting m.scheme) whole
    (subst (λ v. stall_in o Run v (pressure_of K m) ≡ Some Sealing) (view_run K o m n behind) sealing.stalled)
