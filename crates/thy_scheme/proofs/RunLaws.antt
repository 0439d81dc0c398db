-- How a run of the machine begins, and what power that comes on leads to.
use Rattle.std.proofs.Common.{◌≡◌, ℕ, ◌-◌, ◌≤◌, false, List, length, replicate, Option, Some, None, refl, sym, ◌∙◌, ap, subst, arith, inl, inr}
use Rattle.std.proofs.lemmas.List.{length-append, length-replicate}
use Rattle.thy_block.specs.declared.block.Block.{Block}
use Rattle.thy_block.specs.declared.mark.Mark.{Mark}
use Rattle.thy_block.specs.declared.nvm.Shape.{Shape}
use Rattle.thy_block.specs.Device.{Device, zero_block, fitted}
use Rattle.thy_block.specs.Marks.{mark}
use Rattle.thy_layout.specs.Decoded.{Decoded, Nothing, Refused, At}
use Rattle.thy_computer.specs.declared.view.Phase.{Phase}
use Rattle.thy_computer.specs.declared.view.Phase.TheVariants.{Boot, Run, Halt}
use Rattle.thy_computer.specs.declared.view.View.{View}
use Rattle.thy_computer.specs.Booting.{view_of_image, found_first, first_view}
use Rattle.thy_computer.specs.Origin.{Origin, StartsFrom, IsOrigin}
use Rattle.thy_computer.specs.WithTurns.{with_turns, AgreeBelow, reach}
use Rattle.thy_computer.specs.Safe.{ceiling, IsOneOf, Safe}
use Rattle.thy_computer.specs.Views.{doubt_of}
use Rattle.thy_scheme.specs.Boots.{IsBootView}
use Rattle.thy_scheme.specs.Scheme.{SchemeOf}
use Rattle.thy_scheme.specs.Laws.{IsOwn, IsFound, IsLawful as IsLawfulScheme}
use Rattle.thy_scheme.specs.Machine.{Machine, view_in, view_of}
use Rattle.thy_scheme.specs.Sound.{IsSmallMark, IsSmall, SoundIn, Sound, IsAt, IsPowered}
use Rattle.thy_scheme.specs.Runs.{MomentIsSafe, FreshSimulates, LeftSimulates}
use Rattle.thy_computer.proofs.TurnLaws.{at-agrees, at-early, IsOrigin-with_turns}

-- ---- a moment is safe

safe_in : {S : Type 0} (K : SchemeOf S) (o : Origin) (m : Machine S) (n : Device) (phase : Phase) → IsLawfulScheme K → n.down ≡ false
    → SoundIn K o phase m n
    → Safe K.decode o (view_in K o phase m n).done (doubt_of (view_in K o phase m n)) n
safe_in K o m n Boot lawful up s = (lawful.boot_holds o m.scheme n (record { boots = s.boots; up = up })).safe
safe_in K o m n Run lawful up s = (lawful.run_holds o m.marks m.scheme n (record { sound = s.checkpoints; up = up })).safe
safe_in K o m n Halt lawful up s = (lawful.run_holds o m.marks m.scheme n (record { sound = s.checkpoints; up = up })).safe

pub moment_is_safe : {S : Type 0} (K : SchemeOf S) → MomentIsSafe K
moment_is_safe K o cycles m n lawful s = safe_in K o m n m.phase lawful s.up s.moment

-- ---- the numbers of a boot

pub one_small : (k : ℕ) (a m : Mark) → Some a ≡ Some m → IsSmallMark k a → IsSmallMark k m
one_small k a m e h = let same : a ≡ m = cc in subst (IsSmallMark k) same h

-- the mark of an image is small
abbrev IsSmallIn : ℕ → Decoded → Type 0
IsSmallIn k Nothing = Unit {0}
IsSmallIn k (Refused bad) = Unit {0}
IsSmallIn k (At epoch state) = IsSmallMark k (mark epoch state.count)

-- the view of what a boot finds is small
found_small : (o : Origin) (k : ℕ) (d : Decoded) → IsOrigin o → IsOwn o d → IsSmallIn k d → IsSmall k (view_of_image o.start.count d)
found_small o k Nothing origin own small =
    let few = origin.recordable.count in
    record {
      epoch = omega arith;
      count = omega arith;
      spent = omega arith;
      lap = omega arith;
      done = λ m is. absurd (cc);
      sealed = λ m is. one_small k (mark 0 o.start.count) m is (record { epoch = omega arith; count = omega arith });
    }
found_small o k (Refused bad) origin own small = absurd own
found_small o k (At epoch state) origin own small = record {
  epoch = omega arith;
  count = omega arith;
  spent = omega arith;
  lap = omega arith;
  done = λ m is. one_small k (mark epoch state.count) m is small;
  sealed = λ m is. absurd (cc);
}

-- ---- a machine over an image of the run's own

module _ {S : Type 0} (K : SchemeOf S) (o : Origin) (cycles : ℕ) (m : Machine S) (n : Device) (lawful : IsLawfulScheme K)
    (origin : IsOrigin o)
    (on : IsPowered K o.geometry m) (found : IsFound K o n) where
  view_found : view_of K o m n ≡ view_of_image o.start.count (K.decode o.geometry ceiling n.image)
  view_found = ap (λ p. view_in K o p m n) on.phase ∙ (lawful.finds o m.scheme n origin on.scheme found).view

  sound_found : IsSmall cycles (view_of_image o.start.count (K.decode o.geometry ceiling n.image)) → Sound K o cycles m n
  sound_found small = record {
    origin = origin;
    geometry = on.geometry;
    sized = on.sized;
    up = found.up;
    unfailed = on.unfailed;
    small = subst (IsSmall cycles) (sym view_found) small;
    moment = subst (λ p. SoundIn K o p m n) (sym on.phase)
        (record { boots = (lawful.finds o m.scheme n origin on.scheme found).boots; blank = on.blank });
  }

-- ---- and so with all turns that agree as far as the image goes

own_with_turns : (o : Origin) (turns : List ℕ) (d : Decoded) → AgreeBelow o turns (reach (view_of_image o.start.count d)) → IsOwn o d
    → IsOwn (with_turns o turns) d
own_with_turns o turns Nothing agree own = own
own_with_turns o turns (Refused bad) agree own = own
own_with_turns o turns (At epoch state) agree own = own ∙ sym (at-agrees o turns state.count agree)

is_at-found : {S : Type 0} (K : SchemeOf S) (o : Origin) (cycles : ℕ) (m : Machine S) (n : Device) → IsLawfulScheme K → IsOrigin o
    → IsPowered K o.geometry m → IsFound K o n → IsSmall cycles (view_of_image o.start.count (K.decode o.geometry ceiling n.image))
    → IsAt K o cycles m n
is_at-found K o cycles m n lawful origin on found small = λ turns agree.
    sound_found K (with_turns o turns) cycles m n lawful (IsOrigin-with_turns o turns origin) on
    (record {
      up = found.up;
      sized = found.sized;
      settled = found.settled;
      own = own_with_turns o turns (K.decode o.geometry ceiling n.image)
          (subst (λ (v : View). AgreeBelow o turns (reach v)) (view_found K o cycles m n lawful origin on found) agree) found.own;
    }) small

-- ---- a fresh start

length-fitted : (shape : Shape) (start : List Block) (n : Device) → length start ≤ shape.blocks
    → length (fitted shape start n).image ≡ shape.blocks
length-fitted shape start n fits =
    length-append start (replicate (shape.blocks - length start) zero_block)
    ∙ (let rest : length (replicate (shape.blocks - length start) zero_block) ≡ shape.blocks - length start =
    length-replicate (shape.blocks - length start) zero_block in omega arith)

-- what a run begins with is its own
own_first : (o : Origin) (kept : Option Mark) → o.kept ≡ kept → IsOwn o (found_first o kept)
own_first o None is = is
own_first o (Some m) is = sym (at-early o o.start.count (omega arith))

small_first : (o : Origin) (kept : Option Mark) → IsOrigin o → StartsFrom kept o.start → IsSmallIn 0 (found_first o kept)
small_first o None origin starts = tt
small_first o (Some a) origin starts = let few = origin.recordable.count in record { epoch = omega (arith, starts.1); count = omega arith }

pub fresh_simulates : {S : Type 0} (K : SchemeOf S) → FreshSimulates K
fresh_simulates K o m shape start n lawful origin on fit =
    let new = fitted shape start n in
    let found : IsFound K o new = record {
      up = refl;
      sized = length-fitted shape start n fit.fits ∙ fit.blocks;
      settled = refl;
      own = subst (IsOwn o) (sym fit.found) (own_first o o.kept refl);
    } in
    let means : view_of_image o.start.count (K.decode o.geometry ceiling new.image) ≡ first_view o = ap (view_of_image o.start.count) fit.found in
    (is_at-found K o 0 m new lawful origin on found (subst (IsSmall 0) (sym means) (found_small o 0 (found_first o o.kept) origin (own_first o o.kept refl) (small_first o o.kept origin origin.starts))), view_found K o 0 m new lawful origin on found ∙ means)

-- ---- power that comes on again

-- the image that was left is the run's own
own_of : (o : Origin) (kept sealed : Option Mark) (d : Decoded) → IsOneOf o kept sealed d → (kept ≡ None → o.kept ≡ None) → IsOwn o d
own_of o kept sealed Nothing one none = none one
own_of o kept sealed (Refused bad) one none = one
own_of o kept sealed (At epoch state) one none = one.1

-- the mark of an image that was left is one of the view's
small_left : (o : Origin) (k : ℕ) (v : View) (d : Decoded) → IsSmall k v → IsOneOf o v.done v.sealed d → IsSmallIn k d
small_left o k v Nothing small one = tt
small_left o k v (Refused bad) small one = tt
small_left o k v (At epoch state) small one = elim one.0 as (λ _. IsSmallMark k (mark epoch state.count)) [
  | inl e ↦ small.done (mark epoch state.count) e
  | inr e ↦ small.sealed (mark epoch state.count) e
]

-- if a boot has found no checkpoint, the run began with none
boot_kept : (o : Origin) (v : View) → IsBootView o v → v.done ≡ None → o.kept ≡ None
boot_kept o v shown none = elim shown as (λ _. o.kept ≡ None) [
  | inl s ↦ absurd (let e : Some s.0 ≡ None = sym (ap (λ (w : View). w.done) s.1) ∙ none in cc)
  | inr s ↦ s.0
]

pub kept_in : {S : Type 0} (K : SchemeOf S) (o : Origin) (m : Machine S) (n : Device) (phase : Phase) → IsLawfulScheme K → n.down ≡ false
    → SoundIn K o phase m n
    → ((view_in K o phase m n).done ≡ None → o.kept ≡ None) × (length n.image ≡ K.blocks o.geometry)
kept_in K o m n Boot lawful up s =
    let holds = lawful.boot_holds o m.scheme n (record { boots = s.boots; up = up }) in
    (boot_kept o (K.boot_view o m.scheme n) holds.shown, holds.sized)
kept_in K o m n Run lawful up s = (λ none. absurd (cc), (lawful.run_holds o m.marks m.scheme n (record { sound = s.checkpoints; up = up })).sized)
kept_in K o m n Halt lawful up s = (λ none. absurd (cc), (lawful.run_holds o m.marks m.scheme n (record { sound = s.checkpoints; up = up })).sized)

pub left_simulates : {S : Type 0} (K : SchemeOf S) → LeftSimulates K
left_simulates K o cycles m next n left lawful s on is =
    let v = view_of K o m n in
    let d = K.decode o.geometry ceiling left.image in
    let own = own_of o v.done v.sealed d is.means (kept_in K o m n m.phase lawful s.up s.moment).0 in
    let found : IsFound K o left = record { up = is.up; sized = is.blocks; settled = is.settled; own = own } in
    let small = found_small o cycles d s.origin own (small_left o cycles v d s.small is.means) in
    (is_at-found K o cycles next left lawful s.origin on found small, view_found K o cycles next left lawful s.origin on found)
