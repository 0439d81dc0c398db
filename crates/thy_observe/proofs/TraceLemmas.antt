-- A trace without bounds.
use Rattle.std.proofs.Common.{◌≡◌, ◌≤◌, ℕ, ◌+◌, Bool, true, ◌&&◌, if◌then◌else◌, List, [], ◌∷◌, ◌++◌, length, map, fold, Option, None, refl, ◌∙◌, ap, ap₂, arith, append-nil}
use Rattle.std.proofs.lemmas.Bool.{le-leb}
use Rattle.std.proofs.lemmas.List.{map-append}
use Rattle.thy_isa.specs.Step.{State, Setting}
use Rattle.thy_observe.specs.declared.changes.Change.{Change}
use Rattle.thy_observe.specs.declared.changes.Change.TheVariants.{Loaded, Restored, Retired, Lost}
use Rattle.thy_observe.specs.declared.changes.Dated.{Dated}
use Rattle.thy_observe.specs.declared.tracing.Traced.{Traced}
use Rattle.thy_observe.specs.declared.tracing.Window.{Window}
use Rattle.thy_observe.specs.Changes.{dated_of}
use Rattle.thy_observe.specs.Replaying.{Executed, executed_after, listed_after, state_after}
use Rattle.thy_observe.specs.Tracing.{ListsAll, Trace, is_up_to, is_within, no_trace, trace_after, trace_step, traced_by}
use Rattle.thy_observe.proofs.ReplayLemmas.{listed-all}

-- each instruction that retires is in it
in-window : (w : Window) (n : ℕ) → w.first ≤ 1 → w.last ≡ None → is_within w (n + 1) ≡ true
in-window w n first last =
    ap₂ (λ (a b : Bool). a && b) (le-leb w.first (n + 1) (omega (arith, first))) (ap (λ (o : Option ℕ). is_up_to o (n + 1)) last)

-- a change adds a row for each program counter that it adds
one-row : (g : Setting) (start : State) (w : Window) (cycle : ℕ) (e : Executed) (change : Change) → w.first ≤ 1 → w.last ≡ None
    → e.pcs ++ map (λ (t : Traced). t.pc) (traced_by g start w cycle e change) ≡ (executed_after g start e change).pcs
one-row g start w cycle e Loaded first last = append-nil e.pcs
one-row g start w cycle e (Restored count) first last = append-nil e.pcs
one-row g start w cycle e Lost first last = append-nil e.pcs
one-row g start w cycle e (Retired hart) first last =
    let row : Traced = trace_step g.base cycle hart (state_after g start e.harts) (state_after g start (e.harts ++ hart ∷ [])) in
    let more : start.count + (length e.harts + 1) ≡ start.count + length e.harts + 1 = omega arith in
    ap (λ (b : Bool). e.pcs ++ map (λ (t : Traced). t.pc) (if b then row ∷ [] else []))
    (ap (is_within w) more ∙ in-window w (start.count + length e.harts) first last)

-- what is executed beside the rows is what is listed
executed-same : (g : Setting) (start : State) (w : Window) (listed : List Dated) (t : Trace)
    → (fold (trace_after g start w) t listed).executed ≡ fold (listed_after g start None) t.executed listed
executed-same g start w [] t = refl
executed-same g start w (d ∷ listed) t = executed-same g start w listed (trace_after g start w t d)

pcs-same : (g : Setting) (start : State) (w : Window) (listed : List Dated) (t : Trace) → w.first ≤ 1 → w.last ≡ None
    → map (λ (x : Traced). x.pc) t.rows ≡ t.executed.pcs
    → map (λ (x : Traced). x.pc) (fold (trace_after g start w) t listed).rows ≡ (fold (trace_after g start w) t listed).executed.pcs
pcs-same g start w [] t first last h = h
pcs-same g start w (d ∷ listed) t first last h =
    let rows : List Traced = traced_by g start w d.cycle t.executed d.change in
    pcs-same g start w listed (trace_after g start w t d) first last
    (map-append (λ (x : Traced). x.pc) t.rows rows
    ∙ ap (λ (l : List ℕ). l ++ map (λ (x : Traced). x.pc) rows) h
    ∙ one-row g start w d.cycle t.executed d.change first last)

pub lists-all : ListsAll
lists-all g start w seen first last =
    pcs-same g start w (dated_of seen) no_trace first last refl
    ∙ ap (λ (e : Executed). e.pcs) (executed-same g start w (dated_of seen) no_trace ∙ listed-all g start seen)
