-- What a power cut leaves fits the marks that stood, along the turns that it keeps.
use Rattle.std.proofs.Common.{◌≡◌, ◌⊎◌, ℕ, ◌-◌, ◌≤◌, Bool, List, Option, Some, None, if◌then◌else◌, refl, sym, ◌∙◌, ap, subst, inl, inr, arith}
use Rattle.thy_block.specs.declared.mark.Mark.{Mark}
use Rattle.thy_block.specs.Device.{Device}
use Rattle.thy_block.specs.Marks.{mark}
use Rattle.thy_block.proofs.BasicLemmas.{some_same}
use Rattle.thy_layout.specs.Decoded.{Decoded, Reading, Nothing as NothingLeft, Refused as RefusedImage, At}
use Rattle.thy_text.specs.Marks.{Marks, loading_marks, turns_of}
use Rattle.thy_computer.specs.declared.view.Phase.{Phase}
use Rattle.thy_computer.specs.declared.view.Phase.TheVariants.{Boot as BootPhase, Run, Halt}
use Rattle.thy_computer.specs.declared.view.View.{View}
use Rattle.thy_computer.specs.Booting.{view_of_image}
use Rattle.thy_computer.specs.Origin.{Origin}
use Rattle.thy_computer.specs.Safe.{ceiling, Safe, IsOneOf}
use Rattle.thy_computer.specs.WithTurns.{with_turns, AgreeBelow, count_of, reach}
use Rattle.thy_computer.specs.Views.{doubt_of}
use Rattle.thy_computer.proofs.ReachLaws.{reach-count, reach-boot}
use Rattle.thy_computer.proofs.TurnLaws.{AgreeBelow-less, at-agrees}
use Rattle.thy_run.specs.Laws.{MayStand, IsSafe, course_of}
use Rattle.thy_run.proofs.CoverLaws.{doubt_sealed, Covers-sealed, Covers-fits}
use Rattle.thy_run.proofs.Fitting.{IsEither, Rises, Follows, RunFits, FitsIn, Fits}
use Rattle.thy_run.proofs.ImageLaws.{IsFound}
use Rattle.thy_run.proofs.Leading.{LeadsTo, LeadsIn, Leads, start_leads, state_there, leads_agreeing, turns_of-sealed, either_leads}
use Rattle.thy_run.proofs.AgreeingTurnsLaws.{kept_within}

-- ---- marks

rises_in : (p : Origin) (v : View) (m : Marks) (ph : Phase) → FitsIn p v m ph → Rises m
rises_in p v m BootPhase f = elim f.boots as (λ _. Rises m) [
  | inl l ↦ λ k s kept sealed. absurd (let none : m.kept ≡ None = ap (λ n. n.kept) l.marks in cc)
  | inr r ↦ r.rises
]
rises_in p v m Run f = λ k s kept sealed.
    let of_sealed : v.sealed ≡ Some s = sym f.sealed ∙ sealed in
    let follows : Follows p v f.mark (Some s) = subst (Follows p v f.mark) of_sealed f.follows in
    let same : f.mark ≡ k = (let e : Some f.mark ≡ Some k = sym f.kept ∙ kept in cc) in
    let counts : f.mark.count ≡ k.count = ap (λ (x : Mark). x.count) same in
    omega (arith, follows.2, counts)
rises_in p v m Halt f = λ k s kept sealed. absurd (let none : m.sealed ≡ None = f.none in cc)

-- marks do not go back
pub Rises-fits : (p : Origin) (v : View) (m : Marks) → Fits p v m → Rises m
Rises-fits p v m f = rises_in p v m v.phase f

loading_in : (p : Origin) (v : View) (m : Marks) (ph : Phase) → FitsIn p v m ph → v.done ≡ None → m ≡ loading_marks p.start.count
loading_in p v m BootPhase f none = elim f.boots as (λ _. m ≡ loading_marks p.start.count) [
  | inl l ↦ l.marks
  | inr r ↦ absurd (let some : v.done ≡ Some r.mark = r.done in cc)
]
loading_in p v m Run f none = absurd (let some : v.done ≡ Some f.mark = f.done in cc)
loading_in p v m Halt f none = absurd (let some : v.done ≡ Some f.mark = f.done in cc)

-- the turns of a mark that a cut may leave lead to it
start_found : (p : Origin) → LeadsTo p (turns_of (loading_marks p.start.count) 0 p.start.count) p.start.count
start_found p =
    subst (λ (l : List ℕ). LeadsTo p l p.start.count) (sym (turns_of-sealed (loading_marks p.start.count) 0 p.start.count refl)) (start_leads p)

found_in : (p : Origin) (v : View) (m : Marks) (ph : Phase) → FitsIn p v m ph
    → ((k : Mark) → m.kept ≡ Some k → LeadsTo p m.kept_turns k.count)
    → LeadsIn p v m ph → (k : Mark) → (v.done ≡ Some k) ⊎ (v.sealed ≡ Some k) → IsEither m.kept m.sealed k
    → LeadsTo p (turns_of m k.epoch k.count) k.count
found_in p v m BootPhase f kept other k (inl done) either = other k done
found_in p v m BootPhase f kept other k (inr sealed) either = elim f.boots as (λ _. LeadsTo p (turns_of m k.epoch k.count) k.count) [
  | inl l ↦
      let same : mark 0 p.start.count ≡ k = some_same (mark 0 p.start.count) k (sym l.sealed ∙ sealed) in
      subst (λ (x : Marks). LeadsTo p (turns_of x k.epoch k.count) k.count) (sym l.marks)
      (subst (λ (x : Mark). LeadsTo p (turns_of (loading_marks p.start.count) x.epoch x.count) x.count) same (start_found p))
  | inr r ↦ absurd (let both : None ≡ Some k = sym r.sealed ∙ sealed in cc)
]
found_in p v m Run f kept other k which either = either_leads p m kept other k either
found_in p v m Halt f kept other k which either = either_leads p m kept other k either

-- what a cut may leave is one of the marks, and its turns lead to it
pub record Leaves (p : Origin) (m : Marks) (k : Mark) : Type 0 where
  pub either : IsEither m.kept m.sealed k
  pub leads : LeadsTo p (turns_of m k.epoch k.count) k.count

pub leaves_one : (p : Origin) (v : View) (m : Marks) → Fits p v m → Leads p v m → (k : Mark) → (v.done ≡ Some k) ⊎ (v.sealed ≡ Some k)
    → Leaves p m k
leaves_one p v m f l k which =
    let c = Covers-sealed p v m f in
    let either : IsEither m.kept m.sealed k = elim which as (λ _. IsEither m.kept m.sealed k) [
      | inl done ↦ c.of_done k done
      | inr sealed ↦ c.of_doubt k sealed
    ] in
    record { either = either; leads = found_in p v m v.phase f l.kept l.other k which either }

-- what is in doubt is sealed
pub or_sealed : (written : Bool) (done sealed : Option Mark) (k : Mark) → (done ≡ Some k) ⊎ ((if written then sealed else None) ≡ Some k)
    → (done ≡ Some k) ⊎ (sealed ≡ Some k)
or_sealed written last sealed k (inl is) = inl is
or_sealed written last sealed k (inr doubt) = inr (doubt_sealed written sealed k doubt)

-- ---- safety

-- what is safe for a view is safe for marks whose turns lead to what it may leave
pub stands_by : (p : Origin) (done doubt : Option Mark) (m : Marks) → (done ≡ None → m.kept ≡ None)
    → ((k : Mark) → (done ≡ Some k) ⊎ (doubt ≡ Some k) → Leaves p m k) → (d : Decoded) → IsOneOf p done doubt d → MayStand (course_of p) m d
stands_by p last doubt m nothing leaves NothingLeft one = nothing one
stands_by p last doubt m nothing leaves (RefusedImage bad) one = one
stands_by p last doubt m nothing leaves (At epoch state) one =
    let here : Leaves p m (mark epoch state.count) = leaves (mark epoch state.count) one.0 in
    record { marked = here.either; whole = one.1 ∙ sym (state_there p (turns_of m epoch state.count) state.count here.leads) }

pub IsSafe-by : (read : Reading) (p : Origin) (done doubt : Option Mark) (m : Marks) (n : Device) → (done ≡ None → m.kept ≡ None)
    → ((k : Mark) → (done ≡ Some k) ⊎ (doubt ≡ Some k) → Leaves p m k) → Safe read p done doubt n → IsSafe read p m n
IsSafe-by read p done doubt m n nothing leaves safe =
    λ g crash. stands_by p done doubt m nothing leaves (read p.geometry ceiling g) (safe g crash)

pub IsSafe-fits : (read : Reading) (p : Origin) (v : View) (m : Marks) (n : Device) → Fits p v m → Leads p v m
    → Safe read p v.done (doubt_of v) n
    → IsSafe read p m n
IsSafe-fits read p v m n f l safe =
    IsSafe-by read p v.done (doubt_of v) m n (Covers-fits p v m f).nothing
    (λ k which. leaves_one p v m f l k (or_sealed v.written v.done v.sealed k which)) safe

-- ---- a cut

-- a boot begins no further than the machine was, or at the start
pub cut_below : (p : Origin) (v : View) (m : Marks) (d : Decoded) → Fits p v m → IsOneOf p v.done (doubt_of v) d
    → reach (view_of_image p.start.count d) - p.start.count ≤ reach v - p.start.count
cut_below p v m NothingLeft f one = omega arith
cut_below p v m (RefusedImage bad) f one = absurd one
cut_below p v m (At epoch state) f one = left_in p v m v.phase refl f (mark epoch state.count) one.0
  where
    run_below : (p : Origin) (v : View) (m : Marks) (k : Mark) → v.phase ≡ Run → RunFits p v m → (v.done ≡ Some k) ⊎ (doubt_of v ≡ Some k)
        → k.count ≤ reach v
    run_below p v m k is f (inl done) = kept_within p v m (subst (FitsIn p v m) (sym is) f) k (f.kept ∙ sym f.done ∙ done)
    run_below p v m k is f (inr doubt) =
        let follows : Follows p v f.mark (Some k) = subst (Follows p v f.mark) (doubt_sealed v.written v.sealed k doubt) f.follows in
        let here : reach v ≡ v.count = reach-count v (λ boots. absurd (let both : Run ≡ BootPhase = sym is ∙ boots in cc)) in
        omega (arith, follows.1, here)

    left_in : (p : Origin) (v : View) (m : Marks) (ph : Phase) → v.phase ≡ ph → FitsIn p v m ph → (k : Mark)
        → (v.done ≡ Some k) ⊎ (doubt_of v ≡ Some k) → k.count - p.start.count ≤ reach v - p.start.count
    left_in p v m BootPhase is f k (inl done) = let there : reach v ≡ k.count = reach-boot v is ∙ ap count_of done in omega (arith, there)
    left_in p v m BootPhase is f k (inr doubt) = elim f.boots as (λ _. k.count - p.start.count ≤ reach v - p.start.count) [
      | inl l ↦
          let same : mark 0 p.start.count ≡ k = some_same (mark 0 p.start.count) k (sym l.sealed ∙ doubt_sealed v.written v.sealed k doubt) in
          let first : p.start.count ≡ k.count = ap (λ (x : Mark). x.count) same in
          omega (arith, first)
      | inr r ↦ absurd (let both : None ≡ Some k = sym r.sealed ∙ doubt_sealed v.written v.sealed k doubt in cc)
    ]
    left_in p v m Run is f k which = let le = run_below p v m k is f which in omega (arith, le)
    left_in p v m Halt is f k (inl done) =
        let le = kept_within p v m (subst (FitsIn p v m) (sym is) f) k (f.kept ∙ sym f.done ∙ done) in
        omega (arith, le)
    left_in p v m Halt is f k (inr doubt) = absurd (let both : None ≡ Some k = sym f.sealed ∙ doubt_sealed v.written v.sealed k doubt in cc)

-- the view of what a cut left fits the marks that stood, along any turns
pub fits_cut : (p : Origin) (t : List ℕ) (v : View) (m : Marks) (d : Decoded) → Fits p v m → IsOneOf p v.done (doubt_of v) d
    → Fits (with_turns p t) (view_of_image p.start.count d) m
fits_cut p t v m NothingLeft f one =
    record { retired = refl; over = refl; boots = inl (record { done = refl; sealed = refl; marks = loading_in p v m v.phase f one }) }
fits_cut p t v m (RefusedImage bad) f one = absurd one
fits_cut p t v m (At epoch state) f one =
    let c = Covers-fits p v m f in
    let either : IsEither m.kept m.sealed (mark epoch state.count) = elim one.0 as (λ _. IsEither m.kept m.sealed (mark epoch state.count)) [
      | inl done ↦ c.of_done (mark epoch state.count) done
      | inr doubt ↦ c.of_doubt (mark epoch state.count) doubt
    ] in
    record { retired = refl; over = refl; boots = inr (record { mark = mark epoch state.count; done = refl; sealed = refl; written = refl; either = either; rises = Rises-fits p v m f }) }

-- what leads to the marks leads to the checkpoint that the boot found, and to the committed one
pub leads_cut : (p : Origin) (t : List ℕ) (v : View) (m : Marks) (d : Decoded) → Fits p v m → Leads p v m → IsOneOf p v.done (doubt_of v) d
    → AgreeBelow p t (reach (view_of_image p.start.count d)) → Leads (with_turns p t) (view_of_image p.start.count d) m
leads_cut p t v m NothingLeft f l one agree = record {
  kept = λ k is. absurd (
      let none : m.kept ≡ None = ap (λ (x : Marks). x.kept) (loading_in p v m v.phase f one) in
      let both : None ≡ Some k = sym none ∙ is in
      cc);
  other = λ k is. absurd (cc);
}
leads_cut p t v m (RefusedImage bad) f l one agree = absurd one
leads_cut p t v m (At epoch state) f l one agree =
    let here : Leaves p m (mark epoch state.count) =
    leaves_one p v m f l (mark epoch state.count) (or_sealed v.written v.done v.sealed (mark epoch state.count) one.0) in
    record {
      kept = λ k is.
          let le : k.count ≤ state.count = elim here.either as (λ _. k.count ≤ state.count) [
            | inl same ↦ (let e : k.count ≡ state.count =
                ap (λ (x : Mark). x.count) (some_same k (mark epoch state.count) (sym is ∙ same)) in omega (arith, e))
            | inr sealed ↦ Rises-fits p v m f k (mark epoch state.count) is sealed
          ] in
          leads_agreeing p t m.kept_turns k.count (AgreeBelow-less p t k.count state.count le agree) (l.kept k is);
      other = λ k is.
          subst (λ (x : Mark). LeadsTo (with_turns p t) (turns_of m x.epoch x.count) x.count) (some_same (mark epoch state.count) k is)
          (leads_agreeing p t (turns_of m epoch state.count) state.count agree here.leads);
    }

-- what the view after a cut finds is what was left
pub found_cut : (p : Origin) (t : List ℕ) (v : View) (d : Decoded) → IsOneOf p v.done (doubt_of v) d
    → AgreeBelow p t (reach (view_of_image p.start.count d))
    → IsFound (with_turns p t) (view_of_image p.start.count d) d
found_cut p t v NothingLeft one agree = refl
found_cut p t v (RefusedImage bad) one agree = absurd one
found_cut p t v (At epoch state) one agree = (refl, one.1 ∙ sym (at-agrees p t state.count agree))
