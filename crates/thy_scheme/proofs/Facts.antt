-- What a moment after the boot gives, and what the hart's turn does.
use Rattle.std.proofs.Common.{◌≡◌, ℕ, ◌&&◌, ◌||◌, not, Bool, true, false, Option, Some, None, is_some, refl, ◌∙◌, ap, subst}
use Rattle.thy_block.specs.declared.mark.Mark.{Mark}
use Rattle.thy_block.specs.Device.{Device}
use Rattle.thy_block.proofs.BasicLemmas.{not_some}
use Rattle.thy_computer.specs.declared.view.Phase.TheVariants.{Run}
use Rattle.thy_computer.specs.Origin.{Origin, runs_at}
use Rattle.thy_computer.specs.NextActor.{stall_in, has_stopped}
use Rattle.thy_scheme.specs.Scheme.{SchemeOf}
use Rattle.thy_scheme.specs.Laws.{IsLawful, RunHolds, is_free_to_run}
use Rattle.thy_scheme.specs.Machine.{Machine, run_view, view_in, view_of, is_barred, shortage_of, pressure_of}
use Rattle.thy_scheme.specs.Sound.{SoundRun, SoundIn, Sound}
use Rattle.thy_scheme.specs.Rows.{At, HartGoes}
use Rattle.thy_scheme.proofs.StallLemmas.{IsClear, clear}

-- ---- the phase

module _ {S : Type 0} (K : SchemeOf S) where
  pub view-run : (o : Origin) (m : Machine S) (n : Device) → m.phase ≡ Run → view_of K o m n ≡ run_view m
  view-run o m n e = ap (λ phase. view_in K o phase m n) e

  pub sound-run : (o : Origin) (cycles : ℕ) (m : Machine S) (n : Device) → Sound K o cycles m n → m.phase ≡ Run → SoundRun K o m n
  sound-run o cycles m n s e = subst (λ phase. SoundIn K o phase m n) e s.moment

  -- after the boot the scheme holds what it promises of a run
  pub holds-run : (l : IsLawful K) (o : Origin) (cycles : ℕ) (m : Machine S) (n : Device) → Sound K o cycles m n → m.phase ≡ Run
      → RunHolds K o m.marks m.scheme n
  holds-run l o cycles m n s e = l.run_holds o m.marks m.scheme n (record { sound = (sound-run o cycles m n s e).checkpoints; up = s.up })

-- ---- the hart's turn

pub record IsGoing {S : Type 0} (K : SchemeOf S) (o : Origin) (m : Machine S) : Type 0 where
  pub going : m.hart.epoch.over ≡ None
  pub whole : K.promoting m.scheme ≡ false
  pub lively : has_stopped o m.marks.sealed ≡ false
  pub runs : runs_at o m.hart.cpu.count ≡ true
  pub free : is_free_to_run K m.scheme ≡ true
  pub enough : K.under_way m.scheme ≡ true → shortage_of K m ≡ None

stops : (o : Origin) (sealed : Option Mark) → (is_some sealed ≡ true → has_stopped o sealed ≡ false) → has_stopped o sealed ≡ false
stops o None f = refl
stops o (Some m) f = f refl

no_bar : (way overlaps : Bool) → (way ≡ true → (way && not overlaps) ≡ false) → (way && not overlaps) ≡ false
no_bar false overlaps f = refl
no_bar true overlaps f = f refl

frees : (way overlaps : Bool) → (way && not overlaps) ≡ false → (overlaps || not way) ≡ true
frees false true e = refl
frees false false e = refl
frees true true e = refl
frees true false e = absurd (cc)

pub is-going : {S : Type 0} (K : SchemeOf S) (o : Origin) (cycles : ℕ) (m : Machine S) (n : Device) → At K o cycles m n → HartGoes K o m n
    → IsGoing K o m
is-going K o cycles m n at turn =
    let run = sound-run K o cycles m n at.sound turn.phase in
    let way = (holds-run K at.lawful o cycles m n at.sound turn.phase).way in
    let c : IsClear (K.under_way m.scheme) (is_barred K m) (is_some m.hart.epoch.over) (is_some (shortage_of K m))
    (has_stopped o m.marks.sealed) (K.promoting m.scheme)
    = clear (K.under_way m.scheme) (is_barred K m) (is_some m.hart.epoch.over) (is_some (shortage_of K m)) (has_stopped o m.marks.sealed)
    (K.promoting m.scheme)
    (subst (λ v. stall_in o Run v (pressure_of K m) ≡ None) (view-run K o m n turn.phase) turn.free) in
    let going = not_some m.hart.epoch.over c.going in
    let lively = stops o m.marks.sealed (λ t. c.lively (way ∙ ap (λ b. b || K.applies m.scheme) t)) in
    let unbarred : is_barred K m ≡ false = no_bar (K.under_way m.scheme) K.overlaps c.free in
    record {
      going = going;
      whole = c.whole;
      lively = lively;
      runs = run.ended.live turn.phase going lively;
      free = frees (K.under_way m.scheme) K.overlaps unbarred;
      enough = λ t. not_some (shortage_of K m) (c.enough t);
    }
