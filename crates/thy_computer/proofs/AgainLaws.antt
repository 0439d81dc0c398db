-- A run goes on once power was cut and has come on again, also after a step that failed.
use Rattle.std.proofs.Common.{◌≡◌, ◌⊎◌, Bool, true, false, ◌||◌, if◌then◌else◌, Option, Some, None, refl, ◌∙◌, inl, inr}
use Rattle.thy_block.specs.declared.mark.Mark.{Mark}
use Rattle.thy_block.specs.Device.{cut_to}
use Rattle.thy_block.specs.Marks.{mark}
use Rattle.thy_layout.specs.Decoded.{Decoded, Nothing, Refused, At}
use Rattle.thy_computer.specs.Action.{is_commit_write}
use Rattle.thy_computer.specs.Again.{GoesOnAfterCut, GoesOnAfterFault}
use Rattle.thy_computer.specs.Kind.{KindOf, IsLawful}
use Rattle.thy_computer.specs.Origin.{Origin}
use Rattle.thy_computer.specs.Safe.{ceiling, IsOneOf}

-- a mark that is in doubt is the sealed one
flag_some : (flag : Bool) (sealed : Option Mark) (m : Mark) → (if flag then sealed else None) ≡ Some m → sealed ≡ Some m
flag_some true sealed m e = e
flag_some false sealed m e = absurd (cc)

-- what means the kept mark or the one in doubt means the kept or the sealed one
pub sealed_in : (o : Origin) (flag : Bool) (kept sealed : Option Mark) (d : Decoded)
    → IsOneOf o kept (if flag then sealed else None) d → IsOneOf o kept sealed d
sealed_in o flag kept sealed Nothing one = one
sealed_in o flag kept sealed (Refused bad) one = one
sealed_in o flag kept sealed (At epoch state) one =
    let is = mark epoch state.count in
    (elim one.0 as (λ _. (kept ≡ Some is) ⊎ (sealed ≡ Some is)) [ inl e ↦ inl e | inr e ↦ inr (flag_some flag sealed is e) ], one.1)

pub goes_on_after_cut : {M : Type 0} (K : KindOf M) → IsLawful K → GoesOnAfterCut K
goes_on_after_cut K laws o k m next n tear g wear at powered crash =
    let v = K.view o m n in
    laws.finds o k m next n (cut_to n tear g wear) at powered (record {
      up = refl;
      settled = refl;
      blocks = crash.same_length ∙ laws.sized o k m n at;
      means = sealed_in o v.written v.done v.sealed (K.decode o.geometry ceiling g) (laws.is_safe o k m n at g crash);
    })

pub goes_on_after_fault : {M : Type 0} (K : KindOf M) → IsLawful K → GoesOnAfterFault K
goes_on_after_fault K laws o k pick m stopped next n new tear g wear at leaves framed powered crash =
    let v = K.view o m n in
    laws.finds o k m next n (cut_to new tear g wear) at powered (record {
      up = refl;
      settled = refl;
      blocks = crash.same_length ∙ (framed.blocks ∙ laws.sized o k m n at);
      means = sealed_in o (is_commit_write leaves.acted.failed.action || v.written) v.done v.sealed (K.decode o.geometry ceiling g)
          (leaves.safe g crash);
    })
