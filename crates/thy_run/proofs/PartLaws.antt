-- What a device is safe for in the midst of a cycle's events, and after a step that failed.
use Rattle.std.proofs.Common.{◌≡◌, ◌⊎◌, ℕ, ◌≤◌, Bool, false, ◌||◌, if◌then◌else◌, Some, None, List, ◌++◌, sym, ◌∙◌, ap, subst, inl, inr}
use Rattle.thy_block.specs.declared.cause.EndCause.{EndCause}
use Rattle.thy_block.specs.declared.mark.Mark.{Mark}
use Rattle.thy_block.specs.Device.{Device}
use Rattle.thy_layout.specs.Decoded.{Reading}
use Rattle.thy_text.specs.Event.{Event}
use Rattle.thy_text.specs.Marks.{Marks, marks_from}
use Rattle.thy_computer.specs.declared.did.Did.{Did}
use Rattle.thy_computer.specs.declared.did.Did.TheVariants.{Sealed}
use Rattle.thy_computer.specs.declared.view.View.{View}
use Rattle.thy_computer.specs.Action.{Action, is_commit_write, doubt_after_fault}
use Rattle.thy_computer.specs.CoreStep.{CoreStep}
use Rattle.thy_computer.specs.Origin.{Origin}
use Rattle.thy_computer.specs.Pace.{retires}
use Rattle.thy_computer.specs.Safe.{Safe}
use Rattle.thy_computer.specs.Views.{doubt_of}
use Rattle.thy_run.specs.Laws.{IsSafe}
use Rattle.thy_run.specs.World.{did_events, events_of}
use Rattle.thy_run.proofs.CoverLaws.{Covers-fault, Covers-before, doubt_sealed, marks-part}
use Rattle.thy_run.proofs.CutLaws.{leaves_one, or_sealed, IsSafe-by, IsSafe-fits}
use Rattle.thy_run.proofs.Fitting.{Follows, RunFits, FitsIn, Fits}
use Rattle.thy_run.proofs.FittingLaws.{Fits-reported}
use Rattle.thy_run.specs.Going.{HasItsTurns}
use Rattle.thy_run.proofs.Leading.{Leads}
use Rattle.thy_run.proofs.LeadingLaws.{Leads-reported}
use Rattle.thy_run.proofs.StepKinds.{Kind, keeps, loads, restores, advances, seals, commits, kind_of}

-- a device is safe after a step that failed
pub IsSafe-fault : (read : Reading) (p : Origin) (v : View) (m : Marks) (a : Action) (n : Device) → Fits p v m → Leads p v m
    → Safe read p v.done (doubt_after_fault a v) n → IsSafe read p m n
IsSafe-fault read p v m a n f l safe =
    IsSafe-by read p v.done (doubt_after_fault a v) m n (Covers-fault p v m a f).nothing
    (λ k which. leaves_one p v m f l k (or_sealed (is_commit_write a || v.written) v.done v.sealed k which)) safe

-- an epoch that is sealed is in no doubt yet
module _ (p : Origin) (v next : View) (m : Marks) (did : Did) (h : Fits p v m) (s : CoreStep p v did next) where
  unwritten : (epoch count : ℕ) (cause : EndCause) → did ≡ Sealed epoch count cause → next.written ≡ false
  unwritten epoch count cause is =
      let seal : CoreStep p v (Sealed epoch count cause) next = subst (λ d. CoreStep p v d next) is s in
      let f : RunFits p v m = subst (FitsIn p v m) seal.phase h in
      let g : Follows p v f.mark None = subst (Follows p v f.mark) seal.unsealed f.follows in
      ap (λ (w : View). w.written) seal.becomes ∙ g.0

  -- what a step may leave was committed or sealed before it
  by_kind : Kind p v next did → (k : Mark) → (next.done ≡ Some k) ⊎ (doubt_of next ≡ Some k) → (v.done ≡ Some k) ⊎ (v.sealed ≡ Some k)
  by_kind (keeps x) k (inl done) = inl (sym x.done ∙ done)
  by_kind (keeps x) k (inr doubt) = inr (sym x.sealed ∙ doubt_sealed next.written next.sealed k doubt)
  by_kind (loads x) k (inl done) = inr (sym x.done ∙ done)
  by_kind (loads x) k (inr doubt) = absurd (let both : None ≡ Some k = sym x.sealed ∙ doubt_sealed next.written next.sealed k doubt in cc)
  by_kind (restores x) k (inl done) = inl (sym x.done ∙ done)
  by_kind (restores x) k (inr doubt) = inr (sym x.sealed ∙ doubt_sealed next.written next.sealed k doubt)
  by_kind (advances x) k (inl done) = inl (sym x.done ∙ done)
  by_kind (advances x) k (inr doubt) = inr (sym x.sealed ∙ doubt_sealed next.written next.sealed k doubt)
  by_kind (seals x) k (inl done) = inl (sym x.done ∙ done)
  by_kind (seals x) k (inr doubt) =
      absurd (
      let none : doubt_of next ≡ None = ap (λ b. if b then next.sealed else None) (unwritten x.epoch v.count x.cause x.did_is) in
      let both : None ≡ Some k = sym none ∙ doubt in
      cc)
  by_kind (commits x) k (inl done) = inr (sym x.done ∙ done)
  by_kind (commits x) k (inr doubt) = absurd (let both : None ≡ Some k = sym x.sealed ∙ doubt_sealed next.written next.sealed k doubt in cc)

-- the first of a cycle's events
pub IsSafe-part : (read : Reading) (p : Origin) (v next : View) (m : Marks) (did : Did) (fresh : Bool) (cycle : ℕ) (n : Device)
    → 1 ≤ p.geometry.epoch
    → Fits p v m → Leads p v m → (retires did ≡ 0 → HasItsTurns p v) → CoreStep p v did next → Safe read p next.done (doubt_of next) n
    → (part rest : List Event) → part ++ rest ≡ events_of p fresh v did next cycle → IsSafe read p (marks_from p.start.count m part) n
IsSafe-part read p v next m did fresh cycle n least h l all s safe part rest e =
    elim (marks-part p v next m did fresh cycle least h s part rest e) as (λ _. IsSafe read p (marks_from p.start.count m part) n) [
      | inl stood ↦
          subst (λ (x : Marks). IsSafe read p x n) (sym stood)
          (IsSafe-by read p next.done (doubt_of next) m n (Covers-before p v next m least h did s).nothing
          (λ k which. leaves_one p v m h l k (by_kind p v next m did h s (kind_of p v next did s) k which)) safe)
      | inr done ↦
          subst (λ (x : Marks). IsSafe read p x n) (sym done)
          (IsSafe-fits read p next (marks_from p.start.count m (did_events p v did cycle)) n (Fits-reported p v next m least h did cycle s)
          (Leads-reported p v next m h l did cycle all s) safe)
    ]
