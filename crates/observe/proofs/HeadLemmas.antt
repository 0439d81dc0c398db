-- What every text begins with.
use Rattle.std.proofs.Common.{◌≡◌, ℕ, ◌+◌, ◌<◌, ◌≤◌, Bool, true, false, List, ◌∷◌, ◌++◌, length, drop, slice_get, Option, Some, Result, Ok, Err, OnOk, is_ok, if◌then◌else◌, sym, ◌∙◌, ap, ap₂, subst}
use Rattle.std.specs.Prelude.{IfOk, MatchBool, option_map}
use Rattle.std.specs.Borrow.{Bor}
use Rattle.std.proofs.lemmas.List.{drop_all, drop_more}
use Rattle.std.proofs.lemmas.Option.{get_or_from_slice_get}
use Rattle.thy_text.specs.Event.{Event}
use Rattle.thy_base.specs.declared.arguments.words.Command.{Command}
use Rattle.thy_base.specs.declared.arguments.words.WordsError.{WordsError}
use Rattle.thy_base.specs.Settings.{Order, order_of}
use Rattle.thy_run.specs.Watching.{Taken}
use Rattle.thy_observe.specs.declared.counting.Calls.{Calls}
use Rattle.thy_observe.specs.declared.event_cycle.EventCycle.{EventCycle}
use Rattle.thy_observe.specs.declared.tally.Tally.{Tally}
use Rattle.thy_observe.specs.Tallied.{IsTally}
use Rattle.observe.specs.declared.lines.Stamp.{Stamp}
use Rattle.observe.specs.declared.head.Asked.{Asked}
use Rattle.observe.specs.declared.totals.Totals.{Totals}
use Rattle.observe.specs.EventText.{Stamped, events_of, lines_of, losses_of, no_losses, stamped}
use Rattle.observe.specs.HeadText.{IsHead, IsPlainText, IsRunText, asked_by, asked_in, last_turn, reporting_of, trap_in, trap_text, turn_after}
use Rattle.observe.specs.TotalsText.{totals_of, totals_text}
use Rattle.observe.proofs.TextLemmas.{two-parts}

-- ---- the last turn

last_turn-more : (before : Option ℕ) (events : List Event) (i : ℕ) (e : Event) → i < length events → slice_get events i ≡ Some e
    → last_turn before (drop i events) ≡ last_turn (turn_after before e) (drop (i + 1) events)
last_turn-more before events i e less is =
    ap (last_turn before) (drop_more events i e less ∙ ap (λ (x : Event). x ∷ drop (i + 1) events) (get_or_from_slice_get events i e e is))

-- what was found so far, and what is left, come to what is found in all
pub turn-more : (now next whole : Option ℕ) (events : List Event) (i : ℕ) (e : Event) → i < length events → slice_get events i ≡ Some e
    → next ≡ turn_after now e → last_turn now (drop i events) ≡ whole → last_turn next (drop (i + 1) events) ≡ whole
turn-more now next whole events i e less is after h =
    ap (λ (o : Option ℕ). last_turn o (drop (i + 1) events)) after ∙ sym (last_turn-more now events i e less is) ∙ h

pub turn-done : (now whole : Option ℕ) (events : List Event) (i : ℕ) → length events ≤ i → last_turn now (drop i events) ≡ whole → now ≡ whole
turn-done now whole events i over h = ap (last_turn now) (sym (drop_all i events over)) ∙ h

-- ---- parts of a text

-- a line that was pushed, if memory was left for it
pub line-if : {T E : Type 0} (r : Result T E) (old new piece line : List ℕ) → new ≡ (if is_ok r then old ++ piece else old) → piece ≡ line
    → OnOk r (new ≡ old ++ line)
line-if (Ok x) old new piece line is same = is ∙ ap (λ (t : List ℕ). old ++ t) same
line-if (Err e) old new piece line is same = tt

-- the last of six parts is added, if memory is left for it

pub six-parts-if : {T E : Type 0} (r : Result T E) (text first second third fourth fifth sixth a b c d e f : List ℕ) → first ≡ text ++ a
    → second ≡ first ++ b → third ≡ second ++ c → fourth ≡ third ++ d → fifth ≡ fourth ++ e → OnOk r (sixth ≡ fifth ++ f)
    → OnOk r (sixth ≡ text ++ (a ++ (b ++ (c ++ (d ++ (e ++ f))))))
six-parts-if (Ok x) text first second third fourth fifth sixth a b c d e f one two three four five more =
    two-parts text first sixth a (b ++ (c ++ (d ++ (e ++ f)))) one
    (two-parts first second sixth b (c ++ (d ++ (e ++ f))) two
    (two-parts second third sixth c (d ++ (e ++ f)) three (two-parts third fourth sixth d (e ++ f) four (two-parts fourth fifth sixth e f five more))))
six-parts-if (Err x) text first second third fourth fifth sixth a b c d e f one two three four five more = tt

-- ---- the text of a run

-- lines, trap and totals, each by what was found of the tally, are the text of the cycles that it has
pub run-parts : (asked : Asked) (t : Tally) (calls : Calls) (events : List Event) (broken : Stamp) (cycles : List EventCycle) (totals : Totals)
    (lost : ℕ) (first second text : List ℕ)
    → ((seen : List Taken) → IsTally t seen → stamped broken cycles events ≡ events_of seen events)
    → ((seen : List Taken) → IsTally t seen → totals ≡ totals_of seen)
    → first ≡ lines_of (reporting_of asked.harts) (stamped broken cycles events)
    → lost ≡ (losses_of no_losses (stamped broken cycles events)).lost
    → second ≡ first ++ trap_text asked.harts (trap_in events asked.base asked.harts)
    → text ≡ second ++ totals_text asked.harts totals calls lost events
    → IsRunText asked t calls events text
run-parts asked t calls events broken cycles totals lost first second text made same one losses two three = λ seen h.
    let trap : List ℕ = trap_text asked.harts (trap_in events asked.base asked.harts) in
    let whole : List Stamped → Totals → List ℕ = λ ss x.
    lines_of (reporting_of asked.harts) ss ++ (trap ++ totals_text asked.harts x calls (losses_of no_losses ss).lost events) in
    two-parts first second text trap (totals_text asked.harts totals calls lost events) two three
    ∙ ap₂ (λ (lines : List ℕ) (n : ℕ). lines ++ (trap ++ totals_text asked.harts totals calls n events)) one losses
    ∙ ap₂ whole (made seen h) (same seen h)

-- a text begins with what the plain machine or a run came to
pub head-plain : {A E : Type 0} (f : A → List ℕ) (r : Result A E) (asked : Asked) (t : Tally) (calls : Calls) (events : List Event)
    → asked.plain ≡ true → IfOk r (λ x. IsPlainText t (f x)) → IfOk r (λ x. IsHead asked t calls events (f x))
head-plain f r asked t calls events is h =
    subst (λ (b : Bool). IfOk r (λ x. MatchBool b (IsPlainText t (f x)) (IsRunText asked t calls events (f x)))) (sym is) h

pub head-run : {A E : Type 0} (f : A → List ℕ) (r : Result A E) (asked : Asked) (t : Tally) (calls : Calls) (events : List Event)
    → asked.plain ≡ false → IfOk r (λ x. IsRunText asked t calls events (f x)) → IfOk r (λ x. IsHead asked t calls events (f x))
head-run f r asked t calls events is h =
    subst (λ (b : Bool). IfOk r (λ x. MatchBool b (IsPlainText t (f x)) (IsRunText asked t calls events (f x)))) (sym is) h

-- ---- what has to be known of the arguments

-- what has to be known of a command that is lent
pub lent-asked : (asked : Result Order WordsError) (r : Option (Bor Command)) (command : Option Command) (a : Asked)
    → option_map (λ (c : Bor Command). order_of c.now) r ≡ option_map order_of command → a ≡ asked_in (option_map (λ (c : Bor Command). order_of c.now) r)
    → asked_in (option_map order_of command) ≡ asked_by asked → a ≡ asked_by asked
lent-asked asked r command a same is known = is ∙ ap asked_in same ∙ known
