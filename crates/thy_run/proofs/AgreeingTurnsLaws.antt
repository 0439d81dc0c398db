-- What holds between two cycles holds along all turns that agree as far as the machine is.
use Rattle.std.proofs.Common.{◌≡◌, ◌⊎◌, ℕ, ◌≤◌, Bool, List, Option, Some, None, refl, sym, ◌∙◌, ap, subst, inl, inr, arith}
use Rattle.thy_block.specs.declared.cause.EndCause.{EndCause}
use Rattle.thy_block.specs.declared.cause.EndCause.TheVariants.{Length, Exhausted, Ended as EndedCause}
use Rattle.thy_block.specs.declared.mark.Mark.{Mark}
use Rattle.thy_block.proofs.BasicLemmas.{some_same}
use Rattle.thy_isa.specs.Step.{State, is_running}
use Rattle.thy_layout.specs.Decoded.{Decoded, Nothing as NothingLeft, Refused as RefusedImage, At}
use Rattle.thy_text.specs.Marks.{Marks}
use Rattle.thy_computer.specs.declared.view.Phase.{Phase}
use Rattle.thy_computer.specs.declared.view.Phase.TheVariants.{Boot as BootPhase, Run, Halt}
use Rattle.thy_computer.specs.declared.view.View.{View}
use Rattle.thy_computer.specs.Origin.{Origin, runs_at}
use Rattle.thy_computer.specs.WithTurns.{with_turns, AgreeBelow, count_of, reach}
use Rattle.thy_computer.proofs.ReachLaws.{reach-count, reach-boot}
use Rattle.thy_computer.proofs.TurnLaws.{AgreeBelow-less, at-agrees}
use Rattle.thy_run.specs.Images.{Found}
use Rattle.thy_run.proofs.Fitting.{OverFits, Loading, Recovering, Follows, RunFits, FitsIn, Fits}
use Rattle.thy_run.proofs.ImageLaws.{IsFound, ImagesFit}
use Rattle.thy_run.proofs.Leading.{LeadsIn, Leads, leads_agreeing}

-- ---- how far marks lie

-- after the boot the reach is the count, while the machine executes and once it has halted
runs_to : (v : View) → v.phase ≡ Run → reach v ≡ v.count
runs_to v is = reach-count v (λ boots. absurd (let both : Run ≡ BootPhase = sym is ∙ boots in cc))

halts_at : (v : View) → v.phase ≡ Halt → reach v ≡ v.count
halts_at v is = reach-count v (λ boots. absurd (let both : Halt ≡ BootPhase = sym is ∙ boots in cc))

done_below : (p : Origin) (v : View) (d : Mark) (sealed : Option Mark) → Follows p v d sealed → d.count ≤ v.count
done_below p v d None f = omega (arith, f.2)
done_below p v d (Some s) f = omega (arith, f.1, f.2)

sealed_below : (p : Origin) (v : View) (d s : Mark) → Follows p v d (Some s) → s.count ≤ v.count
sealed_below p v d s f = omega (arith, f.1)

module _ (p : Origin) (v : View) (m : Marks) where
  kept_in : (ph : Phase) → v.phase ≡ ph → FitsIn p v m ph → (k : Mark) → m.kept ≡ Some k → k.count ≤ reach v
  kept_in BootPhase is f k kept = elim f.boots as (λ _. k.count ≤ reach v) [
    | inl l ↦ absurd (let none : m.kept ≡ None = ap (λ (x : Marks). x.kept) l.marks in let both : None ≡ Some k = sym none ∙ kept in cc)
    | inr r ↦
        let there : reach v ≡ r.mark.count = reach-boot v is ∙ ap count_of r.done in
        elim r.either as (λ _. k.count ≤ reach v) [
          | inl same ↦ (let e : k.count ≡ r.mark.count = ap (λ (x : Mark). x.count) (some_same k r.mark (sym kept ∙ same)) in
              omega (arith, e, there))
          | inr sealed ↦ (let le : k.count ≤ r.mark.count = r.rises k r.mark kept sealed in omega (arith, le, there))
        ]
  ]
  kept_in Run is f k kept =
      let e : k.count ≡ f.mark.count = ap (λ (x : Mark). x.count) (some_same k f.mark (sym kept ∙ f.kept)) in
      omega (arith, runs_to v is, e, done_below p v f.mark v.sealed f.follows)
  kept_in Halt is f k kept =
      let e : k.count ≡ f.mark.count = ap (λ (x : Mark). x.count) (some_same k f.mark (sym kept ∙ f.kept)) in
      omega (arith, halts_at v is, e, f.count)

  -- a committed mark is no further than the machine
  pub kept_within : Fits p v m → (k : Mark) → m.kept ≡ Some k → k.count ≤ reach v
  kept_within h k kept = kept_in v.phase refl h k kept

  -- after the boot the machine is no earlier than the start
  pub late_of : Fits p v m → Leads p v m → v.phase ≡ Run → p.start.count ≤ reach v
  late_of h l is =
      let f : RunFits p v m = subst (FitsIn p v m) is h in
      let from : p.start.count ≤ f.mark.count = (l.kept f.mark f.kept).late in
      omega (arith, from, done_below p v f.mark v.sealed f.follows, runs_to v is)

-- ---- the view

pub runs_agree : (p : Origin) (t : List ℕ) (k : ℕ) → AgreeBelow p t k → runs_at (with_turns p t) k ≡ runs_at p k
runs_agree p t k agree = ap (λ (s : State). is_running s.status) (at-agrees p t k agree)

over_agrees : (p : Origin) (t : List ℕ) (retired count : ℕ) (over : Option EndCause) → AgreeBelow p t count → OverFits p retired count over
    → OverFits (with_turns p t) retired count over
over_agrees p t retired count None agree f = f
over_agrees p t retired count (Some EndedCause) agree f = runs_agree p t count agree ∙ f
over_agrees p t retired count (Some Length) agree f = (runs_agree p t count agree ∙ f.0, f.1)
over_agrees p t retired count (Some (Exhausted free dirty need)) agree f = (runs_agree p t count agree ∙ f.0, f.1, f.2)

follows_agree : (p : Origin) (t : List ℕ) (v : View) (d : Mark) (sealed : Option Mark) → AgreeBelow p t v.count → Follows p v d sealed
    → Follows (with_turns p t) v d sealed
follows_agree p t v d None agree f = f
follows_agree p t v d (Some s) agree f =
    let below : AgreeBelow p t s.count = AgreeBelow-less p t s.count v.count (sealed_below p v d s f) agree in
    (f.0, f.1, f.2, λ ended. f.3 (sym (runs_agree p t s.count below) ∙ ended))

module _ (p : Origin) (t : List ℕ) (v : View) (m : Marks) where
  fits_in : (ph : Phase) → v.phase ≡ ph → AgreeBelow p t (reach v) → FitsIn p v m ph → FitsIn (with_turns p t) v m ph
  fits_in BootPhase is agree f =
      let boots : Loading (with_turns p t) v m ⊎ Recovering v m = elim f.boots as (λ _. Loading (with_turns p t) v m ⊎ Recovering v m) [
        | inl l ↦ inl (record { done = l.done; sealed = l.sealed; marks = l.marks })
        | inr r ↦ inr r
      ] in
      record { retired = f.retired; over = f.over; boots = boots }
  fits_in Run is agree f =
      let here : AgreeBelow p t v.count = subst (AgreeBelow p t) (runs_to v is) agree in
      record {
        mark = f.mark;
        done = f.done;
        kept = f.kept;
        sealed = f.sealed;
        follows = follows_agree p t v f.mark v.sealed here f.follows;
        few = f.few;
        over = over_agrees p t v.retired v.count v.over here f.over;
      }
  fits_in Halt is agree f =
      let here : AgreeBelow p t v.count = subst (AgreeBelow p t) (halts_at v is) agree in
      record {
        mark = f.mark;
        done = f.done;
        sealed = f.sealed;
        written = f.written;
        kept = f.kept;
        none = f.none;
        count = f.count;
        over = runs_agree p t v.count here ∙ f.over;
      }

  pub fits_with_turns : AgreeBelow p t (reach v) → Fits p v m → Fits (with_turns p t) v m
  fits_with_turns agree h = fits_in v.phase refl agree h

  -- ---- the marks

  other_in : (ph : Phase) → v.phase ≡ ph → AgreeBelow p t (reach v) → FitsIn p v m ph → LeadsIn p v m ph → LeadsIn (with_turns p t) v m ph
  other_in BootPhase is agree f l = λ k done.
      let there : reach v ≡ k.count = reach-boot v is ∙ ap count_of done in
      leads_agreeing p t _ k.count (subst (AgreeBelow p t) there agree) (l k done)
  other_in Run is agree f l = λ s sealed.
      let follows : Follows p v f.mark (Some s) = subst (Follows p v f.mark) (sym f.sealed ∙ sealed) f.follows in
      leads_agreeing p t m.sealed_turns s.count
      (AgreeBelow-less p t s.count (reach v) (omega (arith, runs_to v is, sealed_below p v f.mark s follows)) agree) (l s sealed)
  other_in Halt is agree f l = λ s sealed. absurd (let both : None ≡ Some s = sym f.none ∙ sealed in cc)

module _ (p : Origin) (t : List ℕ) (v : View) where
  pub leads_with_turns : (m : Marks) → AgreeBelow p t (reach v) → Fits p v m → Leads p v m → Leads (with_turns p t) v m
  leads_with_turns m agree h l = record {
    kept = λ k kept. leads_agreeing p t m.kept_turns k.count
        (AgreeBelow-less p t k.count (reach v) (kept_within p v m h k kept) agree) (l.kept k kept);
    other = other_in p t v m v.phase refl agree h l.other;
  }

  -- ---- the images

  found_with_turns : (d : Decoded) → v.phase ≡ BootPhase → AgreeBelow p t (reach v) → IsFound p v d → IsFound (with_turns p t) v d
  found_with_turns NothingLeft boots agree f = f
  found_with_turns (RefusedImage bad) boots agree f = f
  found_with_turns (At epoch state) boots agree f =
      let there : reach v ≡ state.count = reach-boot v boots ∙ ap count_of f.0 in
      (f.0, f.1 ∙ sym (at-agrees p t state.count (subst (AgreeBelow p t) there agree)))

pub images_with_turns : (p : Origin) (t : List ℕ) (cycles : ℕ) (fresh : Bool) (v : View) (s : Found) → AgreeBelow p t (reach v)
    → ImagesFit p cycles fresh v s
    → ImagesFit (with_turns p t) cycles fresh v s
images_with_turns p t cycles fresh v s agree f = record {
  last = f.last;
  just = f.just;
  fresh_boot = f.fresh_boot;
  boot = λ boots. found_with_turns p t v s.means boots agree (f.boot boots);
  up = f.up;
}
