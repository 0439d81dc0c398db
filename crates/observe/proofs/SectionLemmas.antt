-- The section of a text that is asked for.
use Rattle.std.proofs.Common.{◌≡◌, ℕ, ◌<◌, Bool, true, List, [], ◌∷◌, ◌++◌, length, Option, Some, None, refl, sym, ◌∙◌, ap, ap₂, subst, arith, append_assoc, append-nil}
use Rattle.std.specs.Prelude.{codes, IfSome, MatchBool}
use Rattle.std.specs.List.{flat_map}
use Rattle.std.specs.List.Sorted.{IsStrictlySortedBy}
use Rattle.std.specs.Map.{keys_of}
use Rattle.std.specs.Ordering.{nat_cmp}
use Rattle.thy_isa.specs.Step.{State}
use Rattle.thy_run.specs.Watching.{Taken}
use Rattle.thy_observe.specs.declared.changes.Changes.{Changes}
use Rattle.thy_observe.specs.declared.changes.Dated.{Dated}
use Rattle.thy_observe.specs.Changes.{AreChanges, changes_of, dated_of}
use Rattle.thy_observe.specs.Replaying.{AreCounts, executed}
use Rattle.thy_observe.specs.declared.tracing.Traced.{Traced}
use Rattle.thy_observe.specs.declared.tracing.Window.{Window}
use Rattle.thy_observe.specs.States.{state_at, state_by}
use Rattle.thy_observe.specs.Tracing.{trace_of}
use Rattle.observe.specs.declared.beginning.Begun.{Begun}
use Rattle.observe.specs.declared.options.Options.{Options}
use Rattle.observe.specs.Sections.{GoesOn, HasSections, HasText, IsPcsPart, IsStateAtPart, IsStatePart, IsTextOf, IsTracePart, pcs_row, pcs_text, setting_by, start_by}
use Rattle.observe.specs.StateText.{state_section}
use Rattle.observe.specs.TraceText.{trace_text}
use Rattle.observe.specs.Wanting.{asks, window_of}
use Rattle.observe.proofs.TextLemmas.{three-parts, two-parts}

-- a table that is empty has the line for none
pub text-none : (old head new : List ℕ) (table : List (ℕ × ℕ)) → length table ≡ 0 → head ≡ old ++ codes "pcs\n" → new ≡ head ++ codes "none\n"
    → new ≡ old ++ pcs_text table
text-none old head new [] many first last =
    last ∙ ap (λ (t : List ℕ). t ++ codes "none\n") first ∙ append_assoc old (codes "pcs\n") (codes "none\n")
text-none old head new (e ∷ table) many first last = absurd (omega (arith, many))

-- another one has a line for each entry
pub text-some : (old head new : List ℕ) (table : List (ℕ × ℕ)) → 0 < length table → head ≡ old ++ codes "pcs\n" → new ≡ head ++ flat_map pcs_row table
    → new ≡ old ++ pcs_text table
text-some old head new [] some first last = absurd (omega (arith, some))
text-some old head new (e ∷ table) some first last =
    last ∙ ap (λ (t : List ℕ). t ++ flat_map pcs_row (e ∷ table)) first ∙ append_assoc old (codes "pcs\n") (flat_map pcs_row (e ∷ table))

-- what holds of a value if there is one
pub some-weaker : {A : Type 0} (o : Option A) (P Q : A → Type 0) → ((x : A) → P x → Q x) → IfSome o P → IfSome o Q
some-weaker None P Q more h = tt
some-weaker (Some x) P Q more h = more x h

-- a text that is the same goes on with nothing
pub stays-same : (head : List ℕ) (Is : List ℕ → Type 0) → Is [] → GoesOn Is head head
stays-same head Is h = ([], sym (append-nil head), h)

-- the table of what was listed belongs to the cycles that were seen
pub pcs-listed : (b : Begun) (changes : Changes) (listed : List Dated) (table : List (ℕ × ℕ)) (head whole : List ℕ)
    → ((seen : List Taken) → AreChanges changes seen → listed ≡ dated_of seen)
    → ((seen : List Taken) → listed ≡ dated_of seen → AreCounts table (executed (setting_by b) (start_by b) (changes_of seen)).pcs)
    → IsStrictlySortedBy nat_cmp (keys_of table) → whole ≡ head ++ pcs_text table → GoesOn (IsPcsPart true b changes) head whole
pcs-listed b changes listed table head whole exact counts rising text = (
  pcs_text table,
  text,
  λ seen h. record {
    table = table;
    rising = rising;
    counts = counts seen (exact seen h);
    is_text = refl;
  },
)

-- the state after a cycle belongs to them
pub state-listed : (b : Begun) (changes : Changes) (listed : List Dated) (cycles cycle base : ℕ) (found : Option State) (head whole : List ℕ)
    → ((seen : List Taken) → AreChanges changes seen → listed ≡ dated_of seen)
    → ((seen : List Taken) → AreChanges changes seen → cycles ≡ length seen)
    → ((seen : List Taken) → listed ≡ dated_of seen → cycles ≡ length seen → found ≡ state_by (setting_by b) (start_by b) cycle seen)
    → base ≡ (setting_by b).base → whole ≡ head ++ state_section (codes "state") cycle base found → GoesOn (IsStatePart (Some cycle) b changes) head whole
state-listed b changes listed cycles cycle base found head whole exact counted is same text = (
  state_section (codes "state") cycle base found,
  text,
  λ seen h.
      ap₂ (state_section (codes "state") cycle) same (is seen (exact seen h) (counted seen h)),
)

-- the state at a count too
pub state_at-listed : (b : Begun) (changes : Changes) (listed : List Dated) (count base : ℕ) (found : Option State) (head whole : List ℕ)
    → ((seen : List Taken) → AreChanges changes seen → listed ≡ dated_of seen)
    → ((seen : List Taken) → listed ≡ dated_of seen → found ≡ state_at (setting_by b) (start_by b) count seen)
    → base ≡ (setting_by b).base → whole ≡ head ++ state_section (codes "state-at") count base found → GoesOn (IsStateAtPart (Some count) b changes) head whole
state_at-listed b changes listed count base found head whole exact is same text = (
  state_section (codes "state-at") count base found,
  text,
  λ seen h.
      ap₂ (state_section (codes "state-at") count) same (is seen (exact seen h)),
)

-- the instructions too
pub trace-listed : (w : Window) (b : Begun) (changes : Changes) (listed : List Dated) (rows : List Traced) (head whole : List ℕ)
    → ((seen : List Taken) → AreChanges changes seen → listed ≡ dated_of seen)
    → ((seen : List Taken) → listed ≡ dated_of seen → rows ≡ trace_of (setting_by b) (start_by b) w seen)
    → whole ≡ head ++ trace_text rows → GoesOn (IsTracePart true w b changes) head whole
trace-listed w b changes listed rows head whole exact is text = (
  trace_text rows,
  text,
  λ seen h.
      ap trace_text (is seen (exact seen h)),
)

-- one part after the other is all that is asked for
pub all-parts : (options : Options) (w : Window) (b : Begun) (changes : Changes) (head first second third whole : List ℕ) → w ≡ window_of options
    → GoesOn (IsPcsPart options.pcs b changes) head first → GoesOn (IsStatePart options.state b changes) first second
    → GoesOn (IsStateAtPart options.state_at b changes) second third → GoesOn (IsTracePart options.trace w b changes) third whole
    → GoesOn (IsTextOf options b changes) head whole
all-parts options w b changes head first second third whole same p s a t =
    let by_window = subst (λ (x : Window). GoesOn (IsTracePart options.trace x b changes) third whole) same t in (
      p.0 ++ (s.0 ++ (a.0 ++ by_window.0)),
      two-parts head first whole p.0 (s.0 ++ (a.0 ++ by_window.0)) p.1
          (three-parts first second third whole s.0 a.0 by_window.0 s.1 a.1 by_window.1),
      λ seen h. record {
        pcs = p.0;
        splits = ap₂ (λ (x y : List ℕ). p.0 ++ (x ++ y)) (s.2 seen h)
            (ap₂ (λ (x y : List ℕ). x ++ y) (a.2 seen h) (by_window.2 seen h));
        has_pcs = p.2 seen h;
      },
    )

-- what is asked for is there after the head
pub sections-asked : {A : Type 0} (f : A → List ℕ) (options : Options) (begun : Option Begun) (b : Begun) (changes : Changes) (head : List ℕ) (r : Option A)
    → asks options ≡ true → begun ≡ Some b → IfSome r (λ whole. GoesOn (IsTextOf options b changes) head (f whole))
    → IfSome r (λ whole. HasSections options begun changes head (f whole))
sections-asked f options begun b changes head None wanted is h = tt
sections-asked f options begun b changes head (Some whole) wanted is h =
    subst (λ (wish : Bool). MatchBool wish (HasText options begun changes head (f whole)) (f whole ≡ head)) (sym wanted)
    (record { b = b; is_begun = is; goes_on = h })
