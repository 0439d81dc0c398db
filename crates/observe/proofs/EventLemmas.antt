-- The lines of a run's events, one after the other.
use Rattle.std.proofs.Common.{◌≡◌, ℕ, suc, ◌+◌, ◌-◌, ◌<◌, ◌≤◌, min, List, [], ◌∷◌, ◌++◌, length, take, drop, map, get_or, slice_get, Some, Result, Ok, Err, OnOk, is_ok, if◌then◌else◌, refl, sym, ◌∙◌, ap, subst, append_assoc, append-nil, arith, inl, inr}
use Rattle.std.proofs.lemmas.Bool.{cases_lt}
use Rattle.std.proofs.lemmas.List.{drop_all, drop_more, drop-drop, length-drop, take_all}
use Rattle.std.proofs.lemmas.List.Concat.{flat_map-append}
use Rattle.std.proofs.lemmas.Option.{get_or_from_slice_get}
use Rattle.thy_block.specs.Outside.{Grew}
use Rattle.thy_text.specs.declared.reporting.Reporting.{Reporting}
use Rattle.thy_text.specs.Event.{Event}
use Rattle.thy_observe.specs.declared.event_cycle.EventCycle.{EventCycle}
use Rattle.observe.specs.declared.lines.Losses.{Losses}
use Rattle.observe.specs.declared.lines.Stamp.{Stamp}
use Rattle.observe.specs.EventText.{HasAdded, Stamped, event_line, lines_of, losses_of, lost_in, made_in, stamp_of, stamped}

-- ---- what was added, and what is left

-- With the lines of these events, which are left, a text comes to the same as one with the lines of all; and so do the losses.
pub record Continues (reporting : Reporting) (left : List Stamped) (text : List ℕ) (losses : Losses) (all : List Stamped) (start : List ℕ)
    (before : Losses) : Type 0 where
  pub lines : text ++ lines_of reporting left ≡ start ++ lines_of reporting all
  pub lost : losses_of losses left ≡ losses_of before all

-- before the first
pub Continues-first : (reporting : Reporting) (ss : List Stamped) (text : List ℕ) (losses : Losses) → Continues reporting ss text losses ss text losses
Continues-first reporting ss text losses = record { lines = refl; lost = refl }

-- with none left all were added
pub HasAdded-done : (reporting : Reporting) (left all : List Stamped) (text start : List ℕ) (losses before : Losses) → left ≡ []
    → Continues reporting left text losses all start before → HasAdded reporting all start before text losses
HasAdded-done reporting left all text start losses before none h = record {
  lines = sym (append-nil text) ∙ ap (λ (ss : List Stamped). text ++ lines_of reporting ss) (sym none) ∙ h.lines;
  lost = ap (losses_of losses) (sym none) ∙ h.lost;
}

losses-append : (l : Losses) (ss ts : List Stamped) → losses_of l (ss ++ ts) ≡ losses_of (losses_of l ss) ts
losses-append l [] ts = refl
losses-append l (s ∷ ss) ts = losses-append (lost_in l s) ss ts

-- the first of those that are left are added
pub Continues-more : (reporting : Reporting) (ss ts all : List Stamped) (text next start : List ℕ) (losses after before : Losses)
    → HasAdded reporting ss text losses next after → Continues reporting (ss ++ ts) text losses all start before
    → Continues reporting ts next after all start before
Continues-more reporting ss ts all text next start losses after before a h = record {
  lines =
      ap (λ (t : List ℕ). t ++ lines_of reporting ts) a.lines
      ∙ append_assoc text (lines_of reporting ss) (lines_of reporting ts)
      ∙ ap (λ (t : List ℕ). text ++ t) (sym (flat_map-append (event_line reporting) ss ts))
      ∙ h.lines;
  lost = ap (λ (l : Losses). losses_of l ts) a.lost ∙ sym (losses-append losses ss ts) ∙ h.lost;
}

-- all that are left are added
pub HasAdded-last : (reporting : Reporting) (left all : List Stamped) (text next start : List ℕ) (losses after before : Losses)
    → HasAdded reporting left text losses next after → Continues reporting left text losses all start before
    → HasAdded reporting all start before next after
HasAdded-last reporting left all text next start losses after before a h = record { lines = a.lines ∙ h.lines; lost = a.lost ∙ h.lost }

-- ---- the events of one cycle

-- one event
one-added : (reporting : Reporting) (s : Stamped) (text next : List ℕ) (losses after : Losses) → next ≡ text ++ event_line reporting s
    → after ≡ lost_in losses s → HasAdded reporting (s ∷ []) text losses next after
one-added reporting s text next losses after line lost = record {
  lines = line ∙ ap (λ (t : List ℕ). text ++ t) (sym (append-nil (event_line reporting s)));
  lost = lost;
}

-- the events from one to before another
abbrev pub between : ℕ → ℕ → List Event → List Event
between i end events = take (end - i) (drop i events)

between-more : (i end : ℕ) (events : List Event) (e : Event) → i < end → end ≤ length events → slice_get events i ≡ Some e
    → between i end events ≡ e ∷ between (i + 1) end events
between-more i end events e less inside is =
    let n : end - i ≡ suc (end - (i + 1)) = omega (arith, less) in
    let here : i < length events = omega (arith, less, inside) in
    ap (λ (es : List Event). take (end - i) es)
    (drop_more events i e here ∙ ap (λ (x : Event). x ∷ drop (i + 1) events) (get_or_from_slice_get events i e e is))
    ∙ ap (λ (k : ℕ). take k (e ∷ drop (i + 1) events)) n

between-none : (i end : ℕ) (events : List Event) → end ≤ i → between i end events ≡ []
between-none i end events over =
    let none : end - i ≡ 0 = omega (arith, over) in
    ap (λ (k : ℕ). take k (drop i events)) none

pub events-more : (reporting : Reporting) (stamp : Stamp) (events : List Event) (i end : ℕ) (e : Event) (all : List Stamped) (text next start : List ℕ)
    (losses after before : Losses) → i < end → end ≤ length events → slice_get events i ≡ Some e
    → next ≡ text ++ event_line reporting (made_in stamp e) → after ≡ lost_in losses (made_in stamp e)
    → Continues reporting (map (made_in stamp) (between i end events)) text losses all start before
    → Continues reporting (map (made_in stamp) (between (i + 1) end events)) next after all start before
events-more reporting stamp events i end e all text next start losses after before less inside is line lost h =
    Continues-more reporting (made_in stamp e ∷ []) (map (made_in stamp) (between (i + 1) end events)) all text next start losses after before
    (one-added reporting (made_in stamp e) text next losses after line lost)
    (subst (λ (es : List Event). Continues reporting (map (made_in stamp) es) text losses all start before)
    (between-more i end events e less inside is) h)

pub events-done : (reporting : Reporting) (stamp : Stamp) (events : List Event) (i end : ℕ) (all : List Stamped) (text start : List ℕ)
    (losses before : Losses) → end ≤ i → Continues reporting (map (made_in stamp) (between i end events)) text losses all start before
    → HasAdded reporting all start before text losses
events-done reporting stamp events i end all text start losses before over h =
    HasAdded-done reporting (map (made_in stamp) (between i end events)) all text start losses before
    (ap (map (made_in stamp)) (between-none i end events over)) h

-- ---- the events of all cycles

-- the first of a list, this number of them or all, and those after them
first-taken : (n : ℕ) (events : List Event) → take (min n (length events)) events ≡ take n events
first-taken n events = elim (cases_lt n (length events)) as (λ _. take (min n (length events)) events ≡ take n events) [
  | inl l ↦ (let same : min n (length events) ≡ n = omega (arith, l) in ap (λ (k : ℕ). take k events) same)
  | inr l ↦ (let most : length events ≤ min n (length events) = omega (arith, l) in take_all (min n (length events)) events most ∙ sym (take_all n events l))
]

first-dropped : (n : ℕ) (events : List Event) → drop (min n (length events)) events ≡ drop n events
first-dropped n events = elim (cases_lt n (length events)) as (λ _. drop (min n (length events)) events ≡ drop n events) [
  | inl l ↦ (let same : min n (length events) ≡ n = omega (arith, l) in ap (λ (k : ℕ). drop k events) same)
  | inr l ↦ (let most : length events ≤ min n (length events) = omega (arith, l) in drop_all (min n (length events)) events most ∙ sym (drop_all n events l))
]

-- the events of a cycle are from the next one to where they end
ends-taken : (next n end : ℕ) (events : List Event) → next ≤ length events → end ≡ min (next + n) (length events)
    → between next end events ≡ take n (drop next events)
ends-taken next n end events inside is =
    let count : end - next ≡ min n (length (drop next events)) = omega (arith, inside, is, length-drop next events) in
    ap (λ (k : ℕ). take k (drop next events)) count ∙ first-taken n (drop next events)

ends-dropped : (next n end : ℕ) (events : List Event) → next ≤ length events → end ≡ min (next + n) (length events)
    → drop end events ≡ drop n (drop next events)
ends-dropped next n end events inside is =
    let count : next + min n (length (drop next events)) ≡ end = omega (arith, inside, is, length-drop next events) in
    sym (ap (λ (k : ℕ). drop k events) count) ∙ sym (drop-drop (min n (length (drop next events))) next events) ∙ first-dropped n (drop next events)

pub cycles-more : (reporting : Reporting) (broken : Stamp) (cycles : List EventCycle) (events : List Event) (i from to count : ℕ) (d : EventCycle)
    (all : List Stamped) (text next start : List ℕ) (losses after before : Losses)
    → i < length cycles → from ≤ length events → count ≡ length events → to ≡ min (from + (get_or cycles i d).reported) count
    → HasAdded reporting (map (made_in (stamp_of (get_or cycles i d))) (between from to events)) text losses next after
    → Continues reporting (stamped broken (drop i cycles) (drop from events)) text losses all start before
    → Continues reporting (stamped broken (drop (i + 1) cycles) (drop to events)) next after all start before
cycles-more reporting broken cycles events i from to count d all text next start losses after before less inside counts ends a h =
    let c : EventCycle = get_or cycles i d in
    let is : to ≡ min (from + c.reported) (length events) = ends ∙ ap (λ (n : ℕ). min (from + c.reported) n) counts in
    let made : List Event → List Stamped = map (made_in (stamp_of c)) in
    let rest : List Event → List Stamped = stamped broken (drop (i + 1) cycles) in
    subst (λ (es : List Event). Continues reporting (rest es) next after all start before) (sym (ends-dropped from c.reported to events inside is))
    (Continues-more reporting (made (take c.reported (drop from events))) (rest (drop c.reported (drop from events))) all text next start losses after before
    (subst (λ (es : List Event). HasAdded reporting (made es) text losses next after) (ends-taken from c.reported to events inside is) a)
    (subst (λ (cs : List EventCycle). Continues reporting (stamped broken cs (drop from events)) text losses all start before) (drop_more cycles i d less) h))

pub cycles-done : (reporting : Reporting) (broken : Stamp) (cycles : List EventCycle) (events : List Event) (i from : ℕ)
    (all : List Stamped) (text next start : List ℕ) (losses after before : Losses)
    → length cycles ≤ i → from ≤ length events
    → HasAdded reporting (map (made_in broken) (between from (length events) events)) text losses next after
    → Continues reporting (stamped broken (drop i cycles) (drop from events)) text losses all start before
    → HasAdded reporting all start before next after
cycles-done reporting broken cycles events i from all text next start losses after before over inside a h =
    let most : length (drop from events) ≤ length events - from = omega (arith, length-drop from events) in
    let whole : between from (length events) events ≡ drop from events = take_all (length events - from) (drop from events) most in
    HasAdded-last reporting (map (made_in broken) (drop from events)) all text next start losses after before
    (subst (λ (es : List Event). HasAdded reporting (map (made_in broken) es) text losses next after) whole a)
    (subst (λ (cs : List EventCycle). Continues reporting (stamped broken cs (drop from events)) text losses all start before) (drop_all i cycles over) h)

-- ---- a line by way of a sink

-- what a sink took that took a line, is the line; and a text has this part of it, if memory was left for it
pub took-if : {T E : Type 0} (part : List ℕ → List ℕ) (r : Result T E) (old new piece start taken line : List ℕ)
    → new ≡ (if is_ok r then old ++ piece else old) → piece ≡ part taken → start ≡ [] → Grew (Some start) (Some taken) line
    → OnOk r (new ≡ old ++ part line)
took-if part (Ok x) old new piece start taken line is same none grew =
    let has : Some taken ≡ Some (start ++ line) = grew start refl in
    let first : start ++ line ≡ line = ap (λ (t : List ℕ). t ++ line) none in
    let whole : taken ≡ start ++ line = cc in
    is ∙ ap (λ (t : List ℕ). old ++ t) (same ∙ ap part (whole ∙ first))
took-if part (Err e) old new piece start taken line is same none grew = tt
