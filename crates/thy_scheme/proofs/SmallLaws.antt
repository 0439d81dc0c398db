-- After one cycle more of a run epochs and counts are no larger than their number allows.
use Rattle.std.proofs.Common.{◌≡◌, ℕ, ◌+◌, ◌≤◌, true, Some, None, refl, sym, ◌∙◌, ap, subst, inl, inr, arith}
use Rattle.thy_block.specs.declared.mark.Mark.{Mark}
use Rattle.thy_block.specs.Marks.{mark}
use Rattle.thy_layout.specs.declared.engine_step.EngineStep.{EngineStep}
use Rattle.thy_layout.specs.declared.engine_step.EngineStep.TheVariants.{Idle, Copied, PageBlock, StateBlock, TableBlock, Barrier, CommitWritten, Committed as EngineCommitted}
use Rattle.thy_computer.specs.declared.did.Did.{Did}
use Rattle.thy_computer.specs.declared.did.Did.TheVariants.{Boot, Loaded, Restarted, Refused, Moved, Retired, Flushed, Merged, Sealed, Promoted, Engine, Committed, NvmDrained, DramDrained, Nothing}
use Rattle.thy_computer.specs.declared.view.View.{View}
use Rattle.thy_computer.specs.CoreStep.{busier, BootsTo, MovesTo, EngineTo, CoreStep}
use Rattle.thy_computer.specs.Origin.{Origin}
use Rattle.thy_scheme.specs.Sound.{IsSmallMark, IsSmall}
use Rattle.thy_scheme.proofs.RunLaws.{one_small}

more_mark : (k : ℕ) (m : Mark) → IsSmallMark k m → IsSmallMark (k + 1) m
more_mark k m h = let e = h.epoch in let c = h.count in record { epoch = omega arith; count = omega arith }

none_is : (k : ℕ) (m : Mark) → None ≡ Some m → IsSmallMark k m
none_is k m e = absurd (cc)

-- a view with the same epoch, count and marks
kept_small : (k : ℕ) (v next : View) → IsSmall k v
    → next.epoch ≡ v.epoch → next.count ≡ v.count → next.spent ≤ v.spent + 1 → next.lap ≡ v.lap → next.done ≡ v.done → next.sealed ≡ v.sealed
    → IsSmall (k + 1) next
kept_small k v next h e c w l d s =
    let epoch = h.epoch in let count = h.count in
    record {
      epoch = omega arith;
      count = omega arith;
      spent = omega (arith, h.spent);
      lap = omega (arith, h.lap);
      done = λ m is. more_mark k m (h.done m (sym d ∙ is));
      sealed = λ m is. more_mark k m (h.sealed m (sym s ∙ is));
    }

-- a view that equals a small one is small
small_is : (k : ℕ) (next is : View) → next ≡ is → IsSmall k is → IsSmall k next
small_is k next is e h = subst (IsSmall k) (sym e) h

module _ (o : Origin) (k : ℕ) (v next : View) (h : IsSmall k v) where
  same : next ≡ v → IsSmall (k + 1) next
  same e = small_is (k + 1) next v e (kept_small k v v h refl refl (omega arith) refl refl refl)

  busy : next ≡ busier v → IsSmall (k + 1) next
  busy e = small_is (k + 1) next (busier v) e (kept_small k v (busier v) h refl refl (omega arith) refl refl refl)

  boots : BootsTo v next → IsSmall (k + 1) next
  boots b = elim b as (λ _. IsSmall (k + 1) next) [
    | inl e ↦ same e
    | inr e ↦ small_is (k + 1) next (record v { written = true }) e.1
        (kept_small k v (record v { written = true }) h refl refl (omega arith) refl refl refl)
  ]

  moves : MovesTo v next → IsSmall (k + 1) next
  moves b = elim b as (λ _. IsSmall (k + 1) next) [
    | inl e ↦ busy e
    | inr e ↦ kept_small k v next h (ap (λ w. w.epoch) e.4) (ap (λ w. w.count) e.4) (let n = ap (λ w. w.spent) e.4 in omega (arith, n))
        (ap (λ w. w.lap) e.4) (ap (λ w. w.done) e.4) (ap (λ w. w.sealed) e.4)
  ]

  engine : (step : EngineStep) → EngineTo step v next → IsSmall (k + 1) next
  engine Idle e = absurd e
  engine Copied e = busy e
  engine PageBlock e = busy e
  engine StateBlock e = busy e
  engine TableBlock e = busy e
  engine Barrier e = busy e
  engine CommitWritten e =
      kept_small k v next h (ap (λ w. w.epoch) e.2) (ap (λ w. w.count) e.2) (let n = ap (λ w. w.spent) e.2 in omega (arith, n))
      (ap (λ w. w.lap) e.2) (ap (λ w. w.done) e.2) (ap (λ w. w.sealed) e.2)
  engine (EngineCommitted epoch) e = absurd e

  -- a step of the view
  pub small_step : (did : Did) → CoreStep o v did next → IsSmall (k + 1) next
  small_step Boot s = boots s.1
  small_step Loaded s =
      let start : IsSmallMark k (mark 0 o.start.count) = h.sealed (mark 0 o.start.count) s.sealed in
      let few = start.count in
      record {
        epoch = let e : next.epoch ≡ 1 = ap (λ w. w.epoch) s.becomes in omega arith;
        count = let e : next.count ≡ o.start.count = ap (λ w. w.count) s.becomes in omega arith;
        spent = let e : next.spent ≡ v.spent = ap (λ w. w.spent) s.becomes in omega (arith, h.spent);
        lap = let e : next.lap ≡ v.lap = ap (λ w. w.lap) s.becomes in omega (arith, h.lap);
        done = λ m is. more_mark k m (h.sealed m (sym (ap (λ w. w.done) s.becomes) ∙ is));
        sealed = λ m is. none_is (k + 1) m (sym (ap (λ w. w.sealed) s.becomes) ∙ is);
      }
  small_step (Restarted epoch count) s =
      let kept : IsSmallMark k (mark epoch count) = h.done (mark epoch count) s.done in
      let below = kept.epoch in
      let least = kept.count in
      record {
        epoch = let e : next.epoch ≡ epoch + 1 = ap (λ w. w.epoch) s.becomes in omega arith;
        count = let e : next.count ≡ count = ap (λ w. w.count) s.becomes in omega arith;
        spent = let e : next.spent ≡ 0 = ap (λ w. w.spent) s.becomes in omega arith;
        lap = let e : next.lap ≡ 0 = ap (λ w. w.lap) s.becomes in omega arith;
        done = λ m is. more_mark k m (h.done m (sym (ap (λ w. w.done) s.becomes) ∙ is));
        sealed = λ m is. more_mark k m (h.sealed m (sym (ap (λ w. w.sealed) s.becomes) ∙ is));
      }
  small_step (Refused bad) s = same s.3
  small_step Moved s = moves s.3
  small_step (Retired hart) s =
      let before = h.count in
      let epoch = h.epoch in
      record {
        epoch = let e : next.epoch ≡ v.epoch = ap (λ w. w.epoch) s.becomes in omega arith;
        count = let e : next.count ≡ v.count + 1 = ap (λ w. w.count) s.becomes in omega arith;
        spent = let e : next.spent ≡ v.spent + 1 = ap (λ w. w.spent) s.becomes in omega (arith, h.spent);
        lap = let e : next.lap ≡ v.lap + 1 = ap (λ w. w.lap) s.becomes in omega (arith, h.lap);
        done = λ m is. more_mark k m (h.done m (sym (ap (λ w. w.done) s.becomes) ∙ is));
        sealed = λ m is. more_mark k m (h.sealed m (sym (ap (λ w. w.sealed) s.becomes) ∙ is));
      }
  small_step Flushed s = busy s.1
  small_step Merged s = busy s.1
  small_step Promoted s = busy s.1
  small_step (Sealed epoch count cause) s =
      let before = h.count in
      let least = h.epoch in
      let of : epoch ≡ v.epoch = s.of_epoch in
      let at : count ≡ v.count = s.at_count in
      let sealed_mark : IsSmallMark (k + 1) (mark epoch count) = record { epoch = omega arith; count = omega arith } in
      record {
        epoch = let e : next.epoch ≡ v.epoch + 1 = ap (λ w. w.epoch) s.becomes in omega arith;
        count = let e : next.count ≡ v.count = ap (λ w. w.count) s.becomes in omega arith;
        spent = let e : next.spent ≡ 0 = ap (λ w. w.spent) s.becomes in omega arith;
        lap = let e : next.lap ≡ 0 = ap (λ w. w.lap) s.becomes in omega arith;
        done = λ m is. more_mark k m (h.done m (sym (ap (λ w. w.done) s.becomes) ∙ is));
        sealed = λ m is. one_small (k + 1) (mark epoch count) m (sym (ap (λ w. w.sealed) s.becomes) ∙ is) sealed_mark;
      }
  small_step (Engine step) s = engine step s.1
  small_step (Committed epoch overlapped) s =
      let eq = s.becomes in
      let before = h.count in
      let least = h.epoch in
      record {
        epoch = let e : next.epoch ≡ v.epoch = ap (λ w. w.epoch) eq in omega arith;
        count = let e : next.count ≡ v.count = ap (λ w. w.count) eq in omega arith;
        spent = let e : next.spent ≡ v.spent + 1 = ap (λ w. w.spent) eq in omega (arith, h.spent);
        lap = let e : next.lap ≡ v.lap = ap (λ w. w.lap) eq in omega (arith, h.lap);
        done = λ m is. more_mark k m (h.sealed m (sym (ap (λ w. w.done) eq) ∙ is));
        sealed = λ m is. none_is (k + 1) m (sym (ap (λ w. w.sealed) eq) ∙ is);
      }
  small_step NvmDrained s = same s
  small_step DramDrained s = same s
  small_step Nothing s = same s.1
