-- What a step lets be read.
use Rattle.std.proofs.Common.{◌≡◌, ℕ, Bool, true, false, ◌&&◌, ◌||◌, not, if◌then◌else◌, Option, Some, Box, Global, List, [], length, drop, refl, sym, ◌∙◌, ap, subst}
use Rattle.std.proofs.lemmas.Bool.{and_parts}
use Rattle.thy_block.specs.declared.mark.Mark.{Mark}
use Rattle.thy_isa.specs.declared.state.MachState.{MachState}
use Rattle.thy_text.specs.Event.{Event}
use Rattle.thy_computer.specs.declared.did.Did.{Did}
use Rattle.thy_computer.specs.declared.did.Did.TheVariants.{Boot, Loaded, Restarted, Refused, Moved, Retired, Flushed, Merged, Sealed, Promoted, Engine, Committed, NvmDrained, DramDrained, Nothing}
use Rattle.thy_computer.specs.declared.view.Phase.TheVariants.{Run, Halt}
use Rattle.thy_computer.specs.declared.view.View.{View}
use Rattle.thy_block.specs.Marks.{mark}
use Rattle.thy_computer.specs.Views.{is_boot, is_halt, is_between, halts}
use Rattle.thy_computer.specs.CoreStep.{CoreStep}
use Rattle.thy_computer.specs.Origin.{Origin, at, runs_at}
use Rattle.thy_computer.specs.Kind.{IsSnapshot}
use Rattle.thy_run.specs.Due.{console_at, console_shown, shows_console, due_of}
use Rattle.thy_run.specs.Laws.{released_of}
use Rattle.thy_run.specs.Going.{Restores}

booted_if : (b : Bool) → is_boot (if b then Run else Halt) ≡ false
booted_if true = refl
booted_if false = refl

between_if : (b : Bool) → (is_halt (if b then Run else Halt) || (not (is_boot (if b then Run else Halt)) && true)) ≡ true
between_if true = refl
between_if false = refl

-- a restored epoch is after the boot, and its state that at its count
pub restores_some : (o : Origin) (v next : View) (did : Did) (epoch count : ℕ) (state : Box MachState Global) → did ≡ Restarted epoch count
    → CoreStep o v did next
    → (is_between next ≡ true → IsSnapshot o next state.value) → Restores o did (Some state)
restores_some o v next did epoch count state is step shot =
    let s = subst (λ d. CoreStep o v d next) is step in
    let faults : is_between next ≡ true = ap is_between s.becomes ∙ between_if (runs_at o count) in
    subst (λ d. Restores o d (Some state)) (sym is) ((shot faults).state ∙ ap (λ w. at o w.count) s.becomes)

-- what shows a console is after the boot, with a committed mark
pub record Shows (next : View) : Type 0 where
  pub mark : Mark
  pub done : next.done ≡ Some mark
  pub booted : is_boot next.phase ≡ false

never : {A : Type 0} → false ≡ true → A
never e = absurd (cc)

pub Shows-step : (o : Origin) (v next : View) (did : Did) → CoreStep o v did next → shows_console did ≡ true → Shows next
Shows-step o v next Loaded s e =
    record { mark = mark 0 o.start.count; done = ap (λ w. w.done) s.becomes ∙ s.sealed; booted = ap (λ w. is_boot w.phase) s.becomes }
Shows-step o v next (Restarted epoch count) s e =
    record {
      mark = mark epoch count;
      done = ap (λ w. w.done) s.becomes ∙ s.done;
      booted = ap (λ w. is_boot w.phase) s.becomes ∙ booted_if (runs_at o count);
    }
Shows-step o v next (Committed epoch overlapped) s e =
    record {
      mark = mark epoch s.count;
      done = ap (λ w. w.done) s.becomes ∙ s.sealed;
      booted = ap (λ w. is_boot w.phase) s.becomes ∙ booted_if (runs_at o s.count);
    }
Shows-step o v next Boot s e = never e
Shows-step o v next (Refused bad) s e = never e
Shows-step o v next Moved s e = never e
Shows-step o v next (Retired hart) s e = never e
Shows-step o v next Flushed s e = never e
Shows-step o v next Merged s e = never e
Shows-step o v next Promoted s e = never e
Shows-step o v next (Sealed epoch count cause) s e = never e
Shows-step o v next (Engine step) s e = never e
Shows-step o v next NvmDrained s e = never e
Shows-step o v next DramDrained s e = never e
Shows-step o v next Nothing s e = never e

-- the part of the committed mark's console after the released bytes is what has to be shown
pub due_shown : (o : Origin) (v next : View) (did : Did) (events : List Event) (from : ℕ) (bytes : List ℕ) → CoreStep o v did next
    → shows_console did ≡ true
    → from ≡ length (released_of o events)
    → ((m : Mark) → is_boot next.phase ≡ false → next.done ≡ Some m → bytes ≡ drop from (at o m.count).console)
    → bytes ≡ due_of o events did next
due_shown o v next did events from bytes step shown released console =
    let s = Shows-step o v next did step shown in
    console s.mark s.booted s.done ∙ ap (λ n. drop n (console_at o s.mark.count)) released
    ∙ sym (ap (λ (d : Option Mark). drop (length (released_of o events)) (console_shown o d)) s.done)
    ∙ sym (ap (λ b. if b then drop (length (released_of o events)) (console_shown o next.done) else []) shown)

pub due_hidden : (o : Origin) (next : View) (did : Did) (events : List Event) (bytes : List ℕ) → shows_console did ≡ false → bytes ≡ []
    → bytes ≡ due_of o events did next
due_hidden o next did events bytes hidden none =
    none ∙ sym (ap (λ b. if b then drop (length (released_of o events)) (console_shown o next.done) else []) hidden)

halt_between : (h b : Bool) → h ≡ true → (h || b) ≡ true
halt_between true b e = refl
halt_between false b e = never (e)

-- a view that halts is between instructions
pub halts_between : (v next : View) → halts v next ≡ true → is_between next ≡ true
halts_between v next e = halt_between (is_halt next.phase) _ (and_parts (not (is_halt v.phase)) (is_halt next.phase) e).1

-- the first step after a cut has read
pub reload_is : (fresh read loads result : Bool) → (fresh ≡ true → read ≡ true) → result ≡ (read && loads) → fresh ≡ true
    → result ≡ (fresh && loads)
reload_is fresh read loads result h is yes_fresh = is ∙ ap (λ x. x && loads) (h yes_fresh ∙ sym yes_fresh)
