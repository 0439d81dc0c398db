-- The tally of one cycle more.
use Rattle.std.proofs.Common.{◌≡◌, ℕ, ◌+◌, ◌==◌, ◌<◌, ◌≤◌, Bool, true, false, cond, if◌then◌else◌, Option, Some, None, List, [], ◌∷◌, ◌++◌, length, length-append, count_by, slice_index_or, slice_set, refl, sym, ◌∙◌, ap, subst, append_assoc, append-nil, arith}
use Rattle.std.proofs.lemmas.List.Sums.{sum_by_push}
use Rattle.thy_computer.specs.declared.did.Did.{Did}
use Rattle.thy_computer.specs.declared.did.Stepped.{Stepped}
use Rattle.thy_computer.specs.declared.did.Did.TheVariants.{Loaded, Restarted, Retired}
use Rattle.thy_run.specs.Watching.{Taken}
use Rattle.thy_observe.specs.declared.event_cycle.EventCycle.{EventCycle}
use Rattle.thy_observe.specs.declared.event_cycle.RetiredCount.{RetiredCount}
use Rattle.thy_observe.specs.declared.tally.Tally.{Tally}
use Rattle.thy_observe.specs.Kinds.{kind_of, index_of, is_at, has_waited}
use Rattle.thy_observe.specs.Tallied.{IsTally}
use Rattle.std.proofs.lemmas.Bool.{eqb-true, eqb-false}
use Rattle.std.proofs.lemmas.List.{get_or-set_same, get_or-set_other, length-set}
use Rattle.thy_block.proofs.BasicLemmas.{first_empty, last_empty}
use Rattle.thy_observe.specs.Shares.{nobodys, shares_after_step, shares_after_cut}
use Rattle.thy_observe.proofs.ShareLemmas.{shares-one}
use Rattle.thy_observe.specs.EventCycles.{retired_after_step, retired_after_cut, retired_after, event_cycle_of, event_cycles_from, IsShort}

-- a count over one more element is one more if that passes
pub count-one : {X : Type 0} (p : X → Bool) (xs : List X) (x : X) → count_by p (xs ++ x ∷ []) ≡ count_by p xs + cond (p x) 1 0
count-one p xs x = sum_by_push (λ y. cond (p y) 1 0) xs x

-- the count after one more
pub retired-one : (retired : Option RetiredCount) (seen : List Taken) (t : Taken) → retired_after retired (seen ++ t ∷ []) ≡ retired_after_cut (retired_after_step (retired_after retired seen) t.stepped.did) t.fell
retired-one retired [] t = refl
retired-one retired (s ∷ seen) t = retired-one (retired_after_cut (retired_after_step retired s.stepped.did) s.fell) seen t

-- the cycles that made events, after one more
pub event-cycles-one : (cycle : ℕ) (retired : Option RetiredCount) (seen : List Taken) (t : Taken)
    → event_cycles_from cycle retired (seen ++ t ∷ []) ≡ event_cycles_from cycle retired seen ++ event_cycle_of (cycle + length seen) (retired_after retired seen) t
event-cycles-one cycle retired [] t =
    append-nil (event_cycle_of cycle retired t) ∙ ap (λ k. event_cycle_of k retired t) (let e : cycle ≡ cycle + 0 = omega arith in e)
event-cycles-one cycle retired (s ∷ seen) t =
    ap (λ l. event_cycle_of cycle retired s ++ l) (event-cycles-one (cycle + 1) (retired_after_cut (retired_after_step retired s.stepped.did) s.fell) seen t)
    ∙ ap (λ k. event_cycle_of cycle retired s ++ (event_cycles_from (cycle + 1) (retired_after_cut (retired_after_step retired s.stepped.did) s.fell) seen ++ event_cycle_of k (retired_after (retired_after_cut (retired_after_step retired s.stepped.did) s.fell) seen) t))
    (let e : cycle + 1 + length seen ≡ cycle + length (s ∷ seen) = omega arith in e)
    ∙ sym (append_assoc (event_cycle_of cycle retired s) (event_cycles_from (cycle + 1) (retired_after_cut (retired_after_step retired s.stepped.did) s.fell) seen) _)

pub widened : (retired : Option RetiredCount) (a b : ℕ) → a ≤ b → IsShort retired a → IsShort retired b
widened None a b l h = tt
widened (Some p) a b l h = omega (arith, l, h)

short-step : (retired : Option RetiredCount) (d : Did) (limit : ℕ) → IsShort retired limit → IsShort (retired_after_step retired d) (limit + 1)
short-step retired Loaded limit h = omega arith
short-step retired (Restarted epoch count) limit h = omega arith
short-step None (Retired hart) limit h = tt
short-step (Some p) (Retired hart) limit h = omega (arith, h)
short-step retired d limit h = widened retired limit (limit + 1) (omega arith) h

short-cut : (retired : Option RetiredCount) (fell : Bool) (limit : ℕ) → IsShort retired limit → IsShort (retired_after_cut retired fell) limit
short-cut retired true limit h = tt
short-cut retired false limit h = h

-- no more instructions were retired than there were cycles
pub short-after : (retired : Option RetiredCount) (seen : List Taken) (limit : ℕ) → IsShort retired limit → IsShort (retired_after retired seen) (limit + length seen)
short-after retired [] limit h = widened retired limit (limit + 0) (omega arith) h
short-after retired (s ∷ seen) limit h =
    widened (retired_after (retired_after_cut (retired_after_step retired s.stepped.did) s.fell) seen) (limit + 1 + length seen) (limit + length (s ∷ seen)) (omega arith)
    (short-after (retired_after_cut (retired_after_step retired s.stepped.did) s.fell) seen (limit + 1)
    (short-cut (retired_after_step retired s.stepped.did) s.fell (limit + 1) (short-step retired s.stepped.did limit h)))

-- a number is one more at one index
pub one-at : (ks : List ℕ) (a i : ℕ) → a < length ks → (b : Bool) → (a == i) ≡ b
    → slice_index_or (slice_set ks a (slice_index_or ks a 0 + 1)) i 0 ≡ slice_index_or ks i 0 + cond b 1 0
one-at ks a i l true e =
    subst (λ j. slice_index_or (slice_set ks a (slice_index_or ks a 0 + 1)) j 0 ≡ slice_index_or ks j 0 + 1) (eqb-true a i e)
    (get_or-set_same ks a (slice_index_or ks a 0 + 1) 0 l)
one-at ks a i l false e =
    get_or-set_other ks a i (slice_index_or ks a 0 + 1) 0 (λ same. eqb-false a i e (sym same))
    ∙ (let z : slice_index_or ks i 0 ≡ slice_index_or ks i 0 + 0 = omega arith in z)

-- a cycle that is not listed made no event
unlisted : (reported : ℕ) (e : EventCycle) (b : Bool) → (reported == 0) ≡ b → (if b then [] else e ∷ []) ≡ [] → reported ≡ 0
unlisted reported e true is none = eqb-true reported 0 is
unlisted reported e false is none = absurd (cc)

-- a tally with one cycle more
pub IsTally-one : (t new : Tally) (seen : List Taken) (x : Taken) → IsTally t seen → index_of (kind_of x.stepped.did) < 17
    → new.cycles ≡ length seen + 1 → new.kinds ≡ slice_set t.kinds (index_of (kind_of x.stepped.did)) (slice_index_or t.kinds (index_of (kind_of x.stepped.did)) 0 + 1)
    → new.waiting ≡ t.waiting + cond (has_waited x) 1 0 → new.retired ≡ retired_after_cut (retired_after_step t.retired x.stepped.did) x.fell
    → new.shares ≡ shares_after_cut (shares_after_step t.shares x.stepped.did) x.fell → (x.reported ≡ 0 → new.lost ≡ t.lost)
    → (new.lost ≡ false → (t.lost ≡ false) × (new.event_cycles.items ≡ t.event_cycles.items ++ event_cycle_of (length seen + 1) t.retired x))
    → IsTally new (seen ++ x ∷ [])
IsTally-one t new seen x h within cycles kinds waiting retired shares stays event_cycles =
    let a : ℕ = index_of (kind_of x.stepped.did) in
    let few : a < length t.kinds = omega (arith, within, h.kinds) in
    record {
      cycles = cycles ∙ sym (length-append seen (x ∷ []));
      kinds = ap length kinds ∙ length-set t.kinds a (slice_index_or t.kinds a 0 + 1) ∙ h.kinds;
      counts = λ i l.
          ap (λ (ks : List ℕ). slice_index_or ks i 0) kinds ∙ one-at t.kinds a i few (a == i) refl
          ∙ ap (λ k. k + cond (a == i) 1 0) (h.counts i l) ∙ sym (count-one (is_at i) seen x);
      waiting = waiting ∙ ap (λ k. k + cond (has_waited x) 1 0) h.waiting ∙ sym (count-one has_waited seen x);
      retired = retired ∙ ap (λ p. retired_after_cut (retired_after_step p x.stepped.did) x.fell) h.retired ∙ sym (retired-one None seen x);
      shares = shares ∙ ap (λ s. shares_after_cut (shares_after_step s x.stepped.did) x.fell) h.shares ∙ sym (shares-one nobodys seen x);
      event_cycles = λ whole.
          (event_cycles whole).1 ∙ ap (λ l. l ++ event_cycle_of (length seen + 1) t.retired x) (h.event_cycles (event_cycles whole).0)
          ∙ ap (λ p. event_cycles_from 1 None seen ++ event_cycle_of (length seen + 1) p x) h.retired
          ∙ ap (λ k. event_cycles_from 1 None seen ++ event_cycle_of k (retired_after None seen) x) (let e : length seen + 1 ≡ 1 + length seen = omega arith in e)
          ∙ sym (event-cycles-one 1 None seen x);
      whole = λ none.
          let parts : event_cycles_from 1 None seen ++ event_cycle_of (1 + length seen) (retired_after None seen) x ≡ []
          = sym (event-cycles-one 1 None seen x) ∙ none in
          let last = last_empty (event_cycles_from 1 None seen) (event_cycle_of (1 + length seen) (retired_after None seen) x) parts in
          stays (unlisted x.reported _ (x.reported == 0) refl last)
          ∙ h.whole (first_empty (event_cycles_from 1 None seen) (event_cycle_of (1 + length seen) (retired_after None seen) x) parts);
    }

-- what a tally keeps is in none of its numbers
pub IsTally-kept : (t : Tally) (seen : List Taken) (kept : Option Stepped) → IsTally t seen → IsTally (record t { kept = kept }) seen
IsTally-kept t seen kept h =
    record {
      cycles = h.cycles;
      kinds = h.kinds;
      counts = h.counts;
      waiting = h.waiting;
      retired = h.retired;
      shares = h.shares;
      event_cycles = h.event_cycles;
      whole = h.whole;
    }
