-- A comparison: what its lines take, when a run has ended, and that its program is one under each scheme.
use Rattle.std.proofs.Common.{◌≡◌, ℕ, ◌+◌, ◌-◌, ◌||◌, Bool, true, false, List, [], ◌∷◌, ◌++◌, take, length, refl, sym, ◌∙◌, ap, arith, append_assoc, append-nil, Some, Ok, Err}
use Rattle.std.specs.Prelude.{◌≢◌, OnOk, OnErr, Result, slice_get}
use Rattle.std.proofs.lemmas.List.{length-append, take_all, take-append-le, take_more}
use Rattle.std.proofs.lemmas.Option.{get_or_from_slice_get, slice_get_within}
use Rattle.thy_block.specs.Outside.{Stream}
use Rattle.thy_block.proofs.Streams.{Took-append, TookPart-append, TookPart-more}
use Rattle.thy_block.proofs.BasicLemmas.{or_false}
use Rattle.thy_text.specs.Event.{Event, Reload}
use Rattle.thy_run.specs.Cuts.{is_end, has_ended}
use Rattle.thy_run.specs.Sending.{Sent}

-- ---- lines

nothing_due : (a b : List ℕ) → a ≢ [] → (a ++ b) ≢ []
nothing_due [] b some = λ e. some refl
nothing_due (x ∷ xs) b some = λ e. absurd (cc)

nothing_due_behind : (a b : List ℕ) → b ≢ [] → (a ++ b) ≢ []
nothing_due_behind [] b some = some
nothing_due_behind (x ∷ xs) b some = λ e. absurd (cc)

-- first lines that a report took whole, and others that it took or failed in
pub sent_behind : (failed : Bool) (a b : List ℕ) (old mid new : Stream) → Sent false old mid a → Sent failed mid new b
    → Sent failed old new (a ++ b)
sent_behind false a b old mid new took sent = Took-append old mid new a b took sent
sent_behind true a b old mid new took sent = (TookPart-append old mid new a b took sent.0, nothing_due_behind a b sent.1)

-- a report that failed in the first lines takes no others
pub sent_first : (a b : List ℕ) (old mid : Stream) → Sent true old mid a → Sent true old mid (a ++ b)
sent_first a b old mid sent = (TookPart-more old mid a b sent.0, nothing_due a b sent.1)

-- ---- ends

or_more : (b x y z : Bool) → x ≡ (y || z) → (b || x) ≡ ((b || y) || z)
or_more true x y z h = refl
or_more false x y z h = h

ended_append : (vs : List Event) (v : Event) → has_ended (vs ++ v ∷ []) ≡ (has_ended vs || is_end v)
ended_append [] v = or_false (is_end v)
ended_append (w ∷ vs) v = or_more (is_end w) (has_ended (vs ++ v ∷ [])) (has_ended vs) (is_end v) (ended_append vs v)

-- the first events with one more have an end if they had one, or if the one is an end
pub ended_more : (events : List Event) (i : ℕ) (v : Event) → slice_get events i ≡ Some v
    → has_ended (take (i + 1) events) ≡ (has_ended (take i events) || is_end v)
ended_more events i v is =
    ap has_ended (take_more events i Reload (slice_get_within events i v is)
    ∙ ap (λ (x : Event). take i events ++ x ∷ []) (get_or_from_slice_get events i v Reload is))
    ∙ ended_append (take i events) v

pub after_end : (so_far : Bool) (more : Bool) → more ≡ true → true ≡ (so_far || more)
after_end true more is = refl
after_end false more is = sym is

pub after_other : (so_far : Bool) (more : Bool) → more ≡ false → so_far ≡ (so_far || more)
after_other true more is = refl
after_other false more is = sym is

-- ---- events

-- the events before a run, its own first one, and the run's other events
pub joined_last : (before made own : List Event) (v : Event) → made ≡ before ++ v ∷ [] → made ++ own ≡ before ++ v ∷ own
joined_last before made own v is = ap (λ (l : List Event). l ++ own) is ∙ append_assoc before (v ∷ []) own

-- the events after a run's first event was added and taken away again
pub last_taken : (before made last popped : List Event) (v : Event) → made ≡ before ++ v ∷ [] → last ≡ []
    → popped ≡ take (length made - 1) made → popped ++ last ≡ before
last_taken before made last popped v is none taken =
    let many : length made - 1 ≡ length before = omega (arith, ap length is, length-append before (v ∷ [])) in
    ap (λ (l : List Event). popped ++ l) none ∙ append-nil popped ∙ taken
    ∙ ap (λ n. take n made) many ∙ ap (take (length before)) is
    ∙ take-append-le (length before) before (v ∷ []) (omega arith) ∙ take_all (length before) before (omega arith)

-- ---- room for one more

-- the event of a run was added to those before
pub made_room : {T E : Type 0} (result : Result T E) (before joined made : List Event) (v : Event) → joined ≡ before
    → OnOk result (made ≡ joined ++ v ∷ []) → OnOk result (made ≡ before ++ v ∷ [])
made_room (Ok t) before joined made v same h = h ∙ ap (λ (l : List Event). l ++ v ∷ []) same
made_room (Err e) before joined made v same h = h

-- the event of a run was not added, and the events before are all in the first list
pub kept_room : {T E : Type 0} (result : Result T E) (before joined made last : List Event) → joined ≡ before → last ≡ []
    → OnErr result (made ≡ joined) → OnErr result (made ++ last ≡ before)
kept_room (Ok t) before joined made last same none h = h
kept_room (Err e) before joined made last same none h = ap (λ (l : List Event). made ++ l) none ∙ append-nil made ∙ h ∙ same

-- no event was added, and the events of both lists are where they were
pub kept_both : {T E : Type 0} (result : Result T E) (before joined last left : List Event) → joined ≡ before → left ≡ last
    → OnErr result (joined ++ left ≡ before ++ last)
kept_both (Ok t) before joined last left same none = tt
kept_both (Err e) before joined last left same none = ap (λ (l : List Event). l ++ left) same ∙ ap (λ (l : List Event). before ++ l) none

-- a list that was given up is empty
pub emptied : {T E : Type 0} (result : Result T E) (last : List Event) → last ≡ [] → OnOk result (last ≡ [])
emptied (Ok t) last none = none
emptied (Err e) last none = tt
