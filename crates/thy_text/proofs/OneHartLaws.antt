-- With one hart no turn is listed, and events are lawful exactly if they are by counts alone.
use Rattle.std.proofs.Common.{◌≡◌, ℕ, ◌-◌, Bool, true, false, if◌then◌else◌, List, [], ◌∷◌, ◌++◌, length, refl, sym, ◌∙◌, ap, subst}
use Rattle.std.proofs.lemmas.List.{nil_from_length}
use Rattle.thy_block.specs.declared.cause.EndCause.{EndCause}
use Rattle.thy_block.specs.declared.cause.EndCause.TheVariants.{Length, Exhausted, Ended as EndedCause}
use Rattle.thy_text.specs.Event.{Event, Scheme, EpochEnd, Commit, Cut, Restart, Reload, Ended}
use Rattle.thy_text.specs.Marks.{Marks, Course, FitsCause, Lawful, AllLawful, is_mark, marks_after, marks_from, turns_of, turns_listed}
use Rattle.thy_text.specs.OneHart.{Counts, FitsCount, LawfulAt, AllLawfulAt, HasNoTurns, counts_of, OneHartGoesByCounts}

-- ---- no turns at all

either_none : (b : Bool) (x y : List ℕ) → x ≡ [] → y ≡ [] → (if b then x else y) ≡ []
either_none true x y ex ey = ex
either_none false x y ex ey = ey

turns_of-unlisted : (m : Marks) → HasNoTurns m → (epoch count : ℕ) → turns_of m epoch count ≡ []
turns_of-unlisted m none epoch count = either_none (is_mark m.sealed epoch count) m.sealed_turns m.kept_turns none.sealed none.kept

none_listed : (harts instructions : ℕ) → harts ≡ 1 → turns_listed harts instructions ≡ 0
none_listed harts instructions one = ap (λ (h : ℕ). turns_listed h instructions) one

nothing_more : (x y : List ℕ) → x ≡ [] → y ≡ [] → x ++ y ≡ []
nothing_more x y ex ey = ap (λ (l : List ℕ). l ++ y) ex ∙ ey

-- ---- one event

to-count : (c : Course) (last count : ℕ) (cause : EndCause) → FitsCause c last count [] cause → FitsCount (counts_of c) last count cause
to-count c last count EndedCause f = f
to-count c last count Length f = f
to-count c last count (Exhausted free dirty need) f = f

from-count : (c : Course) (last count : ℕ) (cause : EndCause) → FitsCount (counts_of c) last count cause → FitsCause c last count [] cause
from-count c last count EndedCause f = f
from-count c last count Length f = f
from-count c last count (Exhausted free dirty need) f = f

module _ (c : Course) (m : Marks) (one : c.harts ≡ 1) (none : HasNoTurns m) where
  to-at : (v : Event) → Lawful c m v → LawfulAt (counts_of c) m v
  to-at (EpochEnd epoch count cause turns) e =
      let unlisted : turns ≡ [] = nil_from_length turns (e.each ∙ none_listed c.harts (count - e.last) one) in
      record {
        before = e.before;
        last = e.last;
        follows = e.follows;
        kept = e.kept;
        alone = e.alone;
        from = e.from;
        to = e.to;
        unlisted = unlisted;
        fits = to-count c e.last count cause
            (subst (λ (l : List ℕ). FitsCause c e.last count l cause) (nothing_more m.kept_turns turns none.kept unlisted) e.fits);
      }
  to-at (Commit epoch cycle overlapped) h = h
  to-at (Cut index cycle) h = h
  to-at (Restart epoch count state) h = record { marked = h.marked; whole = h.whole ∙ ap (c.at count) (turns_of-unlisted m none epoch count) }
  to-at Reload h = h
  to-at (Scheme number) h = h
  to-at (Ended status count cycle state) h =
      (record { epoch = h.0.epoch; kept = h.0.kept; whole = h.0.whole ∙ ap (c.at count) none.kept; over = h.0.over }, h.1)

  from-at : (v : Event) → LawfulAt (counts_of c) m v → Lawful c m v
  from-at (EpochEnd epoch count cause turns) e = record {
    before = e.before;
    last = e.last;
    follows = e.follows;
    kept = e.kept;
    alone = e.alone;
    from = e.from;
    to = e.to;
    each = ap (λ (l : List ℕ). length l) e.unlisted ∙ sym (none_listed c.harts (count - e.last) one);
    fits = subst (λ (l : List ℕ). FitsCause c e.last count l cause) (sym (nothing_more m.kept_turns turns none.kept e.unlisted))
        (from-count c e.last count cause e.fits);
  }
  from-at (Commit epoch cycle overlapped) h = h
  from-at (Cut index cycle) h = h
  from-at (Restart epoch count state) h =
      record { marked = h.marked; whole = h.whole ∙ sym (ap (c.at count) (turns_of-unlisted m none epoch count)) }
  from-at Reload h = h
  from-at (Scheme number) h = h
  from-at (Ended status count cycle state) h =
      (record { epoch = h.0.epoch; kept = h.0.kept; whole = h.0.whole ∙ sym (ap (c.at count) none.kept); over = h.0.over }, h.1)

-- marks without turns have none after an event either
unlisted-after : (c : Counts) (m : Marks) (v : Event) → HasNoTurns m → LawfulAt c m v → HasNoTurns (marks_after c.start m v)
unlisted-after c m (EpochEnd epoch count cause turns) none e =
    record { kept = none.kept; sealed = nothing_more m.kept_turns turns none.kept e.unlisted }
unlisted-after c m (Commit epoch cycle overlapped) none h = record { kept = none.sealed; sealed = refl }
unlisted-after c m (Cut index cycle) none h = none
unlisted-after c m (Restart epoch count state) none h = record { kept = turns_of-unlisted m none epoch count; sealed = refl }
unlisted-after c m Reload none h = record { kept = refl; sealed = refl }
unlisted-after c m (Scheme number) none h = record { kept = refl; sealed = refl }
unlisted-after c m (Ended status count cycle state) none h = none

-- ---- all

pub to-counts : (c : Course) (m : Marks) (events : List Event) → c.harts ≡ 1 → HasNoTurns m → AllLawful c m events
    → AllLawfulAt (counts_of c) m events
to-counts c m [] one none h = tt
to-counts c m (v ∷ vs) one none h =
    let first = to-at c m one none v h.0 in
    (first, to-counts c (marks_after c.start m v) vs one (unlisted-after (counts_of c) m v none first) h.1)

pub from-counts : (c : Course) (m : Marks) (events : List Event) → c.harts ≡ 1 → HasNoTurns m → AllLawfulAt (counts_of c) m events
    → AllLawful c m events
from-counts c m [] one none h = tt
from-counts c m (v ∷ vs) one none h =
    (from-at c m one none v h.0, from-counts c (marks_after c.start m v) vs one (unlisted-after (counts_of c) m v none h.0) h.1)

pub by-counts : OneHartGoesByCounts
by-counts c m events one none = (to-counts c m events one none, from-counts c m events one none)

-- lawful events of one hart, with more after them, are lawful
pub AllLawfulAt-append : (c : Counts) (m : Marks) (vs ws : List Event) → AllLawfulAt c m vs → AllLawfulAt c (marks_from c.start m vs) ws
    → AllLawfulAt c m (vs ++ ws)
AllLawfulAt-append c m [] ws before more = more
AllLawfulAt-append c m (v ∷ vs) ws before more = (before.0, AllLawfulAt-append c (marks_after c.start m v) vs ws before.1 more)
