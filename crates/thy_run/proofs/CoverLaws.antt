-- What a view has committed or in doubt is among the marks that the events report, also in the midst of a cycle's events.
use Rattle.std.proofs.Common.{◌≡◌, ◌⊎◌, ℕ, ◌≤◌, Bool, true, false, ◌&&◌, ◌||◌, if◌then◌else◌, Option, Some, None, List, [], ◌∷◌, ◌++◌, refl, sym, ◌∙◌, ap, subst, inl, inr}
use Rattle.thy_block.specs.declared.cause.EndCause.{EndCause}
use Rattle.thy_block.specs.declared.mark.Mark.{Mark}
use Rattle.thy_computer.specs.Action.{Action, is_commit_write, doubt_after_fault}
use Rattle.thy_text.specs.Event.{Event, Reload, Ended}
use Rattle.thy_text.specs.Marks.{Marks, marks_from}
use Rattle.thy_text.proofs.Histories.{marks_from-append}
use Rattle.thy_computer.specs.declared.did.Did.{Did}
use Rattle.thy_computer.specs.declared.did.Did.TheVariants.{Boot, Loaded, Restarted, Refused, Moved, Retired, Flushed, Merged, Sealed, Promoted, Engine, Committed, NvmDrained, DramDrained, Nothing}
use Rattle.thy_computer.specs.declared.view.Phase.{Phase}
use Rattle.thy_computer.specs.declared.view.Phase.TheVariants.{Boot as BootPhase, Run, Halt}
use Rattle.thy_computer.specs.declared.view.View.{View}
use Rattle.thy_block.specs.Marks.{mark}
use Rattle.thy_computer.specs.Views.{loads, halts, doubt_of}
use Rattle.thy_computer.specs.CoreStep.{CoreStep}
use Rattle.thy_computer.specs.Origin.{Origin, at}
use Rattle.thy_run.specs.World.{did_events, reload_events, end_events, events_of}
use Rattle.thy_run.proofs.Fitting.{IsEither, BootFits, Follows, RunFits, HaltFits, FitsIn, Fits, Covers}
use Rattle.thy_run.proofs.FittingLaws.{Fits-reported}
use Rattle.thy_run.proofs.EventLaws.{Reloads-reported}

none_some : (o : Option Mark) (d : Mark) {A : Type 0} → o ≡ None → o ≡ Some d → A
none_some o d none some = absurd (cc)

-- what is in doubt is what is sealed
pub doubt_sealed : (written : Bool) (sealed : Option Mark) (d : Mark) → (if written then sealed else None) ≡ Some d → sealed ≡ Some d
doubt_sealed true sealed d e = e
doubt_sealed false sealed d e = absurd (cc)

-- the marks cover a view in the boot, with the sealed mark for the one in doubt
covers_boot : (o : Origin) (v : View) (m : Marks) → BootFits o v m → Covers m.kept m.sealed v.done v.sealed
covers_boot o v m f = elim f.boots as (λ _. Covers m.kept m.sealed v.done v.sealed) [
  | inl l ↦ record {
    nothing = λ none. ap (λ n. n.kept) l.marks;
    of_done = λ d some. none_some v.done d l.done some;
    of_doubt = λ d some. inr (ap (λ n. n.sealed) l.marks ∙ sym l.sealed ∙ some);
  }
  | inr r ↦ record {
    nothing = λ none. none_some v.done r.mark none r.done;
    of_done = λ d some. let same : r.mark ≡ d = (let e : Some r.mark ≡ Some d = sym r.done ∙ some in cc) in
        subst (IsEither m.kept m.sealed) same r.either;
    of_doubt = λ d some. none_some v.sealed d r.sealed some;
  }
]

covers_run : (o : Origin) (v : View) (m : Marks) → RunFits o v m → Covers m.kept m.sealed v.done v.sealed
covers_run o v m f = record {
  nothing = λ none. none_some v.done f.mark none f.done;
  of_done = λ d some. inl (f.kept ∙ sym f.done ∙ some);
  of_doubt = λ d some. inr (f.sealed ∙ some);
}

covers_halt : (o : Origin) (v : View) (m : Marks) → HaltFits o v m → Covers m.kept m.sealed v.done v.sealed
covers_halt o v m f = record {
  nothing = λ none. none_some v.done f.mark none f.done;
  of_done = λ d some. inl (f.kept ∙ sym f.done ∙ some);
  of_doubt = λ d some. none_some v.sealed d f.sealed some;
}

covers_in : (o : Origin) (v : View) (m : Marks) (p : Phase) → FitsIn o v m p → Covers m.kept m.sealed v.done v.sealed
covers_in o v m BootPhase f = covers_boot o v m f
covers_in o v m Run f = covers_run o v m f
covers_in o v m Halt f = covers_halt o v m f

-- the marks cover a view that fits them, whatever of its sealed mark is in doubt
pub Covers-sealed : (o : Origin) (v : View) (m : Marks) → Fits o v m → Covers m.kept m.sealed v.done v.sealed
Covers-sealed o v m f = covers_in o v m v.phase f

unsealed : (kept sealed done doubt : Option Mark) (written : Bool) → Covers kept sealed done doubt
    → Covers kept sealed done (if written then doubt else None)
unsealed kept sealed last doubt written c =
    record { nothing = c.nothing; of_done = c.of_done; of_doubt = λ d some. c.of_doubt d (doubt_sealed written doubt d some) }

pub Covers-fits : (o : Origin) (v : View) (m : Marks) → Fits o v m → Covers m.kept m.sealed v.done (doubt_of v)
Covers-fits o v m f = unsealed m.kept m.sealed v.done v.sealed v.written (Covers-sealed o v m f)

-- the marks cover a view that fits them, whatever an action that failed leaves in doubt
pub Covers-fault : (o : Origin) (v : View) (m : Marks) (a : Action) → Fits o v m → Covers m.kept m.sealed v.done (doubt_after_fault a v)
Covers-fault o v m a f = unsealed m.kept m.sealed v.done v.sealed (is_commit_write a || v.written) (Covers-sealed o v m f)

-- a step's view, before its event is reported
before_commit : (o : Origin) (v next : View) (m : Marks) (s : Mark) → RunFits o v m → v.sealed ≡ Some s → next.done ≡ v.sealed
    → next.sealed ≡ None
    → Covers m.kept m.sealed next.done next.sealed
before_commit o v next m s f sealed done none = record {
  nothing = λ missing. none_some next.done s missing (done ∙ sealed);
  of_done = λ d some. inr (f.sealed ∙ sym done ∙ some);
  of_doubt = λ d some. none_some next.sealed d none some;
}

module _ (o : Origin) (v next : View) (m : Marks) (least : 1 ≤ o.geometry.epoch) (h : Fits o v m) where
  before_loaded : (s : CoreStep o v Loaded next) → Covers m.kept m.sealed next.done next.sealed
  before_loaded s =
      let c = Covers-sealed o v m h in
      let done : next.done ≡ v.sealed = ap (λ w. w.done) s.becomes in
      record {
        nothing = λ none. c.nothing s.none;
        of_done = λ d some. c.of_doubt d (sym done ∙ some);
        of_doubt = λ d some. none_some next.sealed d (ap (λ w. w.sealed) s.becomes) some;
      }

  before_sealed : (epoch count : ℕ) (cause : EndCause) (s : CoreStep o v (Sealed epoch count cause) next)
      → Covers m.kept m.sealed next.done (doubt_of next)
  before_sealed epoch count cause s =
      let c = Covers-sealed o v m h in
      let f : RunFits o v m = subst (FitsIn o v m) s.phase h in
      let g : Follows o v f.mark None = subst (Follows o v f.mark) s.unsealed f.follows in
      let done : next.done ≡ v.done = ap (λ w. w.done) s.becomes in
      let unwritten : next.written ≡ false = ap (λ w. w.written) s.becomes ∙ g.0 in
      record {
        nothing = λ none. c.nothing (sym done ∙ none);
        of_done = λ d some. c.of_done d (sym done ∙ some);
        of_doubt = λ d some. absurd (let e : (if next.written then next.sealed else None) ≡ None =
            ap (λ b. if b then next.sealed else None) unwritten in cc);
      }

  -- the marks before a step's event cover the view after it
  pub Covers-before : (did : Did) → CoreStep o v did next → Covers m.kept m.sealed next.done (doubt_of next)
  Covers-before Boot s = Covers-fits o next m (Fits-reported o v next m least h Boot 0 s)
  Covers-before Loaded s = unsealed m.kept m.sealed next.done next.sealed next.written (before_loaded s)
  Covers-before (Restarted epoch count) s =
      let c = Covers-sealed o v m h in
      let done : next.done ≡ v.done = ap (λ w. w.done) s.becomes in
      let sealed : next.sealed ≡ v.sealed = ap (λ w. w.sealed) s.becomes in
      unsealed m.kept m.sealed next.done next.sealed next.written
      (record {
        nothing = λ none. c.nothing (sym done ∙ none);
        of_done = λ d some. c.of_done d (sym done ∙ some);
        of_doubt = λ d some. c.of_doubt d (sym sealed ∙ some);
      })
  Covers-before (Refused bad) s = Covers-fits o next m (Fits-reported o v next m least h (Refused bad) 0 s)
  Covers-before Moved s = Covers-fits o next m (Fits-reported o v next m least h Moved 0 s)
  Covers-before (Retired hart) s = Covers-fits o next m (Fits-reported o v next m least h (Retired hart) 0 s)
  Covers-before Flushed s = Covers-fits o next m (Fits-reported o v next m least h Flushed 0 s)
  Covers-before Merged s = Covers-fits o next m (Fits-reported o v next m least h Merged 0 s)
  Covers-before Promoted s = Covers-fits o next m (Fits-reported o v next m least h Promoted 0 s)
  Covers-before (Sealed epoch count cause) s = before_sealed epoch count cause s
  Covers-before (Engine step) s = Covers-fits o next m (Fits-reported o v next m least h (Engine step) 0 s)
  Covers-before (Committed epoch overlapped) s =
      let f : RunFits o v m = subst (FitsIn o v m) s.phase h in
      unsealed m.kept m.sealed next.done next.sealed next.written
      (before_commit o v next m (mark epoch s.count) f s.sealed (ap (λ w. w.done) s.becomes) (ap (λ w. w.sealed) s.becomes))
  Covers-before NvmDrained s = Covers-fits o next m (Fits-reported o v next m least h NvmDrained 0 s)
  Covers-before DramDrained s = Covers-fits o next m (Fits-reported o v next m least h DramDrained 0 s)
  Covers-before Nothing s = Covers-fits o next m (Fits-reported o v next m least h Nothing 0 s)

-- ---- the first of a cycle's events

-- a first part of two lists is one of the first, or all of it and a first part of the second
data Cutting (part xs ys : List Event) : Type 0 where
  within : (rest : List Event) → part ++ rest ≡ xs → Cutting part xs ys
  beyond : (more rest : List Event) → part ≡ xs ++ more → more ++ rest ≡ ys → Cutting part xs ys

longer : (x : Event) (part xs ys : List Event) → Cutting part xs ys → Cutting (x ∷ part) (x ∷ xs) ys
longer x part xs ys (within rest e) = within rest (ap (λ l. x ∷ l) e)
longer x part xs ys (beyond more rest e f) = beyond more rest (ap (λ l. x ∷ l) e) f

cutting : (part rest xs ys : List Event) → part ++ rest ≡ xs ++ ys → Cutting part xs ys
cutting part rest [] ys e = beyond part rest refl e
cutting [] rest (x ∷ xs) ys e = within (x ∷ xs) refl
cutting (p ∷ part) rest (x ∷ xs) ys e =
    let same : p ≡ x = cc in
    let tails : part ++ rest ≡ xs ++ ys = cc in
    subst (λ q. Cutting (q ∷ part) (x ∷ xs) ys) (sym same) (longer x part xs ys (cutting part rest xs ys tails))

-- the marks that a first part of a list of at most one event leaves
abbrev pub IsShort : List Event → Type 0
IsShort vs = (vs ≡ []) ⊎ ((v : Event) × (vs ≡ v ∷ []))

part_of_one : (part rest : List Event) (v : Event) → part ++ rest ≡ v ∷ [] → (part ≡ []) ⊎ (part ≡ v ∷ [])
part_of_one [] rest v e = inl refl
part_of_one (p ∷ []) rest v e = inr (let same : p ≡ v = cc in ap (λ q. q ∷ []) same)
part_of_one (p ∷ q ∷ part) rest v e = absurd (cc)

part_of_none : (part rest : List Event) → part ++ rest ≡ [] → part ≡ []
part_of_none [] rest e = refl
part_of_none (p ∷ part) rest e = absurd (cc)

part_of_short : (part rest vs : List Event) → IsShort vs → part ++ rest ≡ vs → (part ≡ []) ⊎ (part ≡ vs)
part_of_short part rest vs (inl none) e = inl (part_of_none part rest (e ∙ none))
part_of_short part rest vs (inr (v, one)) e =
    elim (part_of_one part rest v (e ∙ one)) as (λ _. (part ≡ []) ⊎ (part ≡ vs)) [ inl a ↦ inl a | inr b ↦ inr (b ∙ sym one) ]

pub report_is_short : (o : Origin) (v : View) (did : Did) (cycle : ℕ) → IsShort (did_events o v did cycle)
report_is_short o v Boot cycle = inl refl
report_is_short o v Loaded cycle = inr (_, refl)
report_is_short o v (Restarted epoch count) cycle = inr (_, refl)
report_is_short o v (Refused bad) cycle = inl refl
report_is_short o v Moved cycle = inl refl
report_is_short o v (Retired hart) cycle = inl refl
report_is_short o v Flushed cycle = inl refl
report_is_short o v Merged cycle = inl refl
report_is_short o v Promoted cycle = inl refl
report_is_short o v (Sealed epoch count cause) cycle = inr (_, refl)
report_is_short o v (Engine step) cycle = inl refl
report_is_short o v (Committed epoch overlapped) cycle = inr (_, refl)
report_is_short o v NvmDrained cycle = inl refl
report_is_short o v DramDrained cycle = inl refl
report_is_short o v Nothing cycle = inl refl

if_short : (b : Bool) (v : Event) → IsShort (if b then v ∷ [] else [])
if_short true v = inr (v, refl)
if_short false v = inl refl

end_kept : (o : Origin) (m : Marks) (next : View) (cycle : ℕ) (part : List Event) (b : Bool)
    → (part ≡ []) ⊎ (part ≡ (if b then Ended (at o next.count).status next.count cycle (at o next.count) ∷ [] else []))
    → marks_from o.start.count m part ≡ m
end_kept o m next cycle part b (inl none) = ap (marks_from o.start.count m) none
end_kept o m next cycle part true (inr all) = ap (marks_from o.start.count m) all
end_kept o m next cycle part false (inr none) = ap (marks_from o.start.count m) none

module _ (o : Origin) (v next : View) (m : Marks) (did : Did) (fresh : Bool) (cycle : ℕ) (least : 1 ≤ o.geometry.epoch) (h : Fits o v m)
    (s : CoreStep o v did next) where
  -- some events leave the marks that stood, or those that what was done leaves
  abbrev pub LeavesEither : List Event → Type 0
  LeavesEither part = (marks_from o.start.count m part ≡ m)
      ⊎ (marks_from o.start.count m part ≡ marks_from o.start.count m (did_events o v did cycle))

  reload_kept : marks_from o.start.count m (reload_events fresh next) ≡ m
  reload_kept = (Reloads-reported o v next m did fresh least h s).marks

  after_reload : (more : List Event) → marks_from o.start.count m (reload_events fresh next ++ more) ≡ marks_from o.start.count m more
  after_reload more = marks_from-append o.start.count m (reload_events fresh next) more ∙ ap (λ n. marks_from o.start.count n more) reload_kept

  of_reload : (part rest : List Event) → part ++ rest ≡ reload_events fresh next → LeavesEither part
  of_reload part rest e = elim (part_of_short part rest (reload_events fresh next) (if_short (fresh && loads next) Reload) e)
      as (λ _. LeavesEither part) [
        | inl none ↦ inl (ap (marks_from o.start.count m) none)
        | inr all ↦ inl (ap (marks_from o.start.count m) all ∙ reload_kept)
      ]

  of_reported : (part more rest : List Event) → part ≡ reload_events fresh next ++ more → more ++ rest ≡ did_events o v did cycle
      → LeavesEither part
  of_reported part more rest is e =
      elim (part_of_short more rest (did_events o v did cycle) (report_is_short o v did cycle) e) as (λ _. LeavesEither part) [
        | inl none ↦ inl (ap (marks_from o.start.count m) is ∙ after_reload more ∙ ap (marks_from o.start.count m) none)
        | inr all ↦ inr (ap (marks_from o.start.count m) is ∙ after_reload more ∙ ap (marks_from o.start.count m) all)
      ]

  of_both : (part rest : List Event) → part ++ rest ≡ reload_events fresh next ++ did_events o v did cycle → LeavesEither part
  of_both part rest e = elim (cutting part rest (reload_events fresh next) (did_events o v did cycle) e) as (λ _. LeavesEither part) [
    | within r f ↦ of_reload part r f
    | beyond more r is f ↦ of_reported part more r is f
  ]

  of_end : (part more rest : List Event) → part ≡ reload_events fresh next ++ did_events o v did cycle ++ more
      → more ++ rest ≡ end_events o v next cycle → LeavesEither part
  of_end part more rest is e =
      inr (
      ap (marks_from o.start.count m) is ∙ marks_from-append o.start.count m (reload_events fresh next ++ did_events o v did cycle) more
      ∙ end_kept o (marks_from o.start.count m (reload_events fresh next ++ did_events o v did cycle)) next cycle more (halts v next)
      (part_of_short more rest (end_events o v next cycle) (if_short (halts v next) _) e)
      ∙ after_reload (did_events o v did cycle))

  -- the first of a cycle's events leave the marks that stood, or the marks that what was done leaves
  pub marks-part : (part rest : List Event) → part ++ rest ≡ events_of o fresh v did next cycle → LeavesEither part
  marks-part part rest e = elim (cutting part rest (reload_events fresh next ++ did_events o v did cycle) (end_events o v next cycle) e)
      as (λ _. LeavesEither part) [
        | within r f ↦ of_both part r f
        | beyond more r is f ↦ of_end part more r is f
      ]
