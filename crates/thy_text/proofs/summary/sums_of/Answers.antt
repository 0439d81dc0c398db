use Rattle.std.proofs.Common.{◌≡◌, ◌∙◌, ◌+◌, ◌≤◌, ℕ, Bool, true, false, List, Some, ap, ap₂, arith, cond, slice_get, sum_by, sym, take}
use Rattle.std.proofs.lemmas.List.Sums.{sum_by_more}
use Rattle.std.proofs.lemmas.Option.{get_or_from_slice_get, slice_get_within}
use Rattle.thy_text.specs.Event.{Event}
use Rattle.thy_text.specs.Summary.{ends_early, ends_epoch, overlapped_by}
use Rattle.thy_text.proofs.summary.sums_of.Goals as goal

-- the sum of one event more
one_more : (f : Event → ℕ) (vs : List Event) (i : ℕ) (v : Event) (n m : ℕ) → slice_get vs i ≡ Some v
    → n ≡ sum_by f (take i vs) → m ≡ f v → n + m ≡ sum_by f (take (i + 1) vs)
one_more f vs i v n m there so_far more =
    ap₂ ◌+◌ so_far more
    ∙ sym (sum_by_more f vs i v (slice_get_within vs i v there)
    ∙ ap (λ (w : Event). sum_by f (take i vs) + f w) (get_or_from_slice_get vs i v v there))

-- a count of one event is at most 1
at_most_one : (b : Bool) (n : ℕ) → n ≡ cond b 1 0 → n ≤ 1
at_most_one true n e = omega arith
at_most_one false n e = omega arith

pub overflow_add-epochs : goal.overflow_add-epochs
overflow_add-epochs c = let few : c.epochs_in-epochs.result ≤ 1 = at_most_one _ _ c.epochs_in-epochs.ensures in omega arith

pub overflow_add-early : goal.overflow_add-early
overflow_add-early c = let few : c.early_in-early.result ≤ 1 = at_most_one _ _ c.early_in-early.ensures in omega arith

pub loop-i-preserved : goal.loop-i-preserved
loop-i-preserved c =
    let events = c.args.events.now in
    let before = c.loop-i.invariant in
    let one : c.epochs_in-epochs.result ≤ 1 = at_most_one _ _ c.epochs_in-epochs.ensures in
    let two : c.early_in-early.result ≤ 1 = at_most_one _ _ c.early_in-early.ensures in
    record {
      epochs = one_more (λ v. cond (ends_epoch v) 1 0) events c.loop-i.i _ _ _ c.get-event.ensures before.epochs c.epochs_in-epochs.ensures;
      early = one_more (λ v. cond (ends_early v) 1 0) events c.loop-i.i _ _ _ c.get-event.ensures before.early c.early_in-early.ensures;
      overlapped = one_more overlapped_by events c.loop-i.i _ _ _ c.get-event.ensures before.overlapped c.overlapped_by.ensures;
      few_epochs = omega arith;
      few_early = omega arith;
      short = omega arith;
    }
