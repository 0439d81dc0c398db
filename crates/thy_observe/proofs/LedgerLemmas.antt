-- The ledger of one cycle more.
use Rattle.std.proofs.Common.{◌≡◌, ℕ, ◌+◌, ◌==◌, ◌<◌, Bool, false, cond, Option, List, [], ◌∷◌, ◌++◌, length, slice_index_or, slice_set, refl, sym, ◌∙◌, ap, arith}
use Rattle.std.proofs.lemmas.List.{length-set}
use Rattle.thy_computer.specs.declared.did.Stepped.{Stepped}
use Rattle.thy_run.specs.Watching.{Taken}
use Rattle.thy_observe.specs.declared.causes.Cause.{Cause}
use Rattle.thy_observe.specs.declared.ledger.Ledger.{Ledger}
use Rattle.thy_observe.specs.Kinds.{kind_of}
use Rattle.thy_observe.specs.Causes.{cause_index, cause_of, how_many_by, under_way_after, under_way_then}
use Rattle.thy_observe.specs.Ledgers.{IsLedger, count_in}
use Rattle.thy_observe.proofs.CauseLemmas.{by-one, index-within, under-way-one}
use Rattle.thy_observe.proofs.TallyLemmas.{one-at}

pub IsLedger-one : (l new : Ledger) (seen : List Taken) (x : Taken) (a : ℕ) → IsLedger l seen
    → a ≡ cause_index (cause_of l.under_way (kind_of x.stepped.did)) → a < 17
    → new.causes ≡ slice_set l.causes a (slice_index_or l.causes a 0 + 1) → new.under_way ≡ under_way_then l.under_way x
    → IsLedger new (seen ++ x ∷ [])
IsLedger-one l new seen x a h index within causes under_way =
    let few : a < length l.causes = omega (arith, within, h.causes) in
    let same : a ≡ cause_index (cause_of (under_way_after false seen) (kind_of x.stepped.did)) =
    index ∙ ap (λ (b : Bool). cause_index (cause_of b (kind_of x.stepped.did))) h.under_way in
    record {
      causes = ap length causes ∙ length-set l.causes a (slice_index_or l.causes a 0 + 1) ∙ h.causes;
      counts = λ i less.
          ap (λ (cs : List ℕ). slice_index_or cs i 0) causes ∙ one-at l.causes a i few (a == i) refl
          ∙ ap (λ (n : ℕ). n + cond (a == i) 1 0) (h.counts i less)
          ∙ ap (λ (j : ℕ). how_many_by i seen + cond (j == i) 1 0) same
          ∙ sym (by-one i seen x);
      under_way = under_way ∙ ap (λ (b : Bool). under_way_then b x) h.under_way ∙ sym (under-way-one false seen x);
    }

-- what a ledger keeps is in none of its numbers
pub IsLedger-kept : (l : Ledger) (seen : List Taken) (kept : Option Stepped) → IsLedger l seen → IsLedger (record l { kept = kept }) seen
IsLedger-kept l seen kept h = record { causes = h.causes; counts = h.counts; under_way = h.under_way }

-- what a ledger counts of a cause are the cycles of that cause
pub counted : (l : Ledger) (seen : List Taken) → IsLedger l seen → (c : Cause) → count_in l c ≡ how_many_by (cause_index c) seen
counted l seen h c = h.counts (cause_index c) (index-within c)
