-- A step keeps view and marks fitting.
use Rattle.std.proofs.Common.{◌≡◌, ◌⊎◌, ℕ, ◌+◌, ◌<◌, ◌≤◌, Bool, true, false, ◌==◌, if◌then◌else◌, Option, Some, None, [], refl, sym, ◌∙◌, ap, subst, inl, inr, arith}
use Rattle.thy_block.specs.declared.cause.EndCause.{EndCause}
use Rattle.thy_block.specs.declared.cause.EndCause.TheVariants.{Length, Exhausted, Ended as EndedCause}
use Rattle.thy_block.specs.declared.mark.Mark.{Mark}
use Rattle.thy_text.specs.Marks.{Marks, loading_marks, marks_from}
use Rattle.thy_computer.specs.declared.did.Did.{Did}
use Rattle.thy_computer.specs.declared.did.Did.TheVariants.{Boot, Loaded, Restarted, Refused, Moved, Retired, Flushed, Merged, Sealed, Promoted, Engine, Committed, NvmDrained, DramDrained, Nothing}
use Rattle.thy_layout.specs.declared.engine_step.EngineStep.{EngineStep}
use Rattle.thy_layout.specs.declared.engine_step.EngineStep.TheVariants.{Idle, Copied, PageBlock, StateBlock, TableBlock, Barrier, CommitWritten, Committed as EngineCommitted}
use Rattle.thy_computer.specs.declared.view.Phase.{Phase}
use Rattle.thy_computer.specs.declared.view.Phase.TheVariants.{Boot as BootPhase, Run, Halt}
use Rattle.thy_computer.specs.declared.view.View.{View}
use Rattle.thy_block.specs.Marks.{mark}
use Rattle.thy_computer.specs.CoreStep.{busier, BootsTo, MovesTo, EngineTo, CoreStep, over_at, phase_at}
use Rattle.thy_computer.specs.Origin.{Origin, runs_at}
use Rattle.thy_computer.proofs.Choices.{if_equal}
use Rattle.thy_run.specs.World.{did_events}
use Rattle.thy_run.proofs.Fitting.{OverFits, Loading, Recovering, BootFits, Follows, RunFits, FitsIn, Fits}

-- the fitting of a view by its phase
in_phase : (o : Origin) (v : View) (m : Marks) (p : Phase) → v.phase ≡ p → FitsIn o v m p → Fits o v m
in_phase o v m p e h = subst (FitsIn o v m) (sym e) h

of_phase : (o : Origin) (v : View) (m : Marks) (p : Phase) → v.phase ≡ p → Fits o v m → FitsIn o v m p
of_phase o v m p e h = subst (FitsIn o v m) e h

-- an instruction more: why the epoch is over then
over_fits : (o : Origin) (retired count : ℕ) → retired < o.geometry.epoch → OverFits o (retired + 1) count (over_at o (retired + 1) count)
over_fits o retired count few = by_run (runs_at o count) refl
  where
    by_length : runs_at o count ≡ true → OverFits o (retired + 1) count (if retired + 1 == o.geometry.epoch then Some Length else None)
    by_length r =
        if_equal (OverFits o (retired + 1) count) (retired + 1) o.geometry.epoch (Some Length) None
        (λ e. (r, e)) (λ d. omega (arith, d, few))

    by_run : (b : Bool) → runs_at o count ≡ b
        → OverFits o (retired + 1) count (if b then (if retired + 1 == o.geometry.epoch then Some Length else None) else Some EndedCause)
    by_run true r = by_length r
    by_run false r = r

module _ (o : Origin) (v next : View) (m : Marks) (least : 1 ≤ o.geometry.epoch) (h : Fits o v m) where
  -- a step that changes nothing
  same : next ≡ v → Fits o next m
  same e = subst (λ w. Fits o w m) (sym e) h

  -- the view fits the marks after a cycle of hart or engine
  busy : v.phase ≡ Run → next ≡ busier v → Fits o next m
  busy phase e =
      let f : RunFits o v m = of_phase o v m Run phase h in
      let now : RunFits o (busier v) m =
      record { mark = f.mark; done = f.done; kept = f.kept; sealed = f.sealed; follows = f.follows; few = f.few; over = f.over } in
      subst (λ w. Fits o w m) (sym e) (in_phase o (busier v) m Run phase now)

  -- the view fits the marks after a step of the boot
  boots : v.phase ≡ BootPhase → BootsTo v next → Fits o next m
  boots phase (inl e) = same e
  boots phase (inr b) =
      let f : BootFits o v m = of_phase o v m BootPhase phase h in
      let w : View = record v { written = true } in
      let loading : Loading o v m ⊎ Recovering v m → Loading o w m ⊎ Recovering w m = λ x. elim x as (λ _. Loading o w m ⊎ Recovering w m) [
        | inl l ↦ inl (record { done = l.done; sealed = l.sealed; marks = l.marks })
        | inr r ↦ absurd (let some : v.done ≡ Some r.mark = r.done in let none : v.done ≡ None = b.0 in cc)
      ] in
      let now : BootFits o w m = record { retired = f.retired; over = f.over; boots = loading f.boots } in
      subst (λ w. Fits o w m) (sym b.1) (in_phase o w m BootPhase phase now)

  -- the view fits the marks after a step of the engine
  engine : v.phase ≡ Run → (step : EngineStep) → EngineTo step v next → Fits o next m
  engine phase Idle e = absurd e
  engine phase Copied e = busy phase e
  engine phase PageBlock e = busy phase e
  engine phase StateBlock e = busy phase e
  engine phase TableBlock e = busy phase e
  engine phase Barrier e = busy phase e
  engine phase (EngineCommitted epoch) e = absurd e
  engine phase CommitWritten (unwritten, (s, is), e) =
      let f : RunFits o v m = of_phase o v m Run phase h in
      let w : View = record (busier v) { written = true } in
      let follows : Follows o w f.mark w.sealed =
      subst (Follows o w f.mark) (sym is) (let g : Follows o v f.mark (Some s) = subst (Follows o v f.mark) is f.follows in (g.0, g.1, g.2, g.3)) in
      let now : RunFits o w m =
      record { mark = f.mark; done = f.done; kept = f.kept; sealed = f.sealed; follows = follows; few = f.few; over = f.over } in
      subst (λ w. Fits o w m) (sym e) (in_phase o w m Run phase now)

  -- the view fits the marks after an instruction more
  retires : v.phase ≡ Run → v.over ≡ None → runs_at o v.count ≡ true
      → next ≡ record (busier v)
      { count = v.count + 1; retired = v.retired + 1; lap = v.lap + 1; over = over_at o (v.retired + 1) (v.count + 1) } → Fits o next m
  retires phase over runs e =
      let f : RunFits o v m = of_phase o v m Run phase h in
      let w : View = record (busier v)
      { count = v.count + 1; retired = v.retired + 1; lap = v.lap + 1; over = over_at o (v.retired + 1) (v.count + 1) } in
      let few : v.retired < o.geometry.epoch = subst (OverFits o v.retired v.count) over f.over in
      let follows : (sealed : Option Mark) → Follows o v f.mark sealed → Follows o w f.mark sealed = λ sealed g. later sealed g in
      let now : RunFits o w m = record {
        mark = f.mark;
        done = f.done;
        kept = f.kept;
        sealed = f.sealed;
        follows = follows v.sealed f.follows;
        few = omega (arith, few);
        over = over_fits o v.retired (v.count + 1) few;
      } in
      subst (λ w. Fits o w m) (sym e) (in_phase o w m Run phase now)
    where
      later : (sealed : Option Mark) → Follows o v (of_phase o v m Run phase h).mark sealed
          → Follows o (record (busier v) {
            count = v.count + 1;
            retired = v.retired + 1;
            lap = v.lap + 1;
            over = over_at o (v.retired + 1) (v.count + 1);
          }) (of_phase o v m Run phase h).mark sealed
      later None g = (g.0, g.1, omega (arith, g.2))
      later (Some s) g = (
        g.0,
        omega (arith, g.1),
        g.2,
        λ ended. absurd (
            let still : v.count ≡ s.count = omega (arith, g.1, g.3 ended) in
            let no : runs_at o v.count ≡ false = ap (runs_at o) still ∙ ended in cc),
      )

  -- the hart moves on, or its epoch is exhausted
  moves : v.phase ≡ Run → v.over ≡ None → runs_at o v.count ≡ true → MovesTo v next → Fits o next m
  moves phase over runs (inl e) = busy phase e
  moves phase over runs (inr (free, dirty, need, short, e)) =
      let f : RunFits o v m = of_phase o v m Run phase h in
      let w : View = record (busier v) { over = Some (Exhausted free dirty need) } in
      let few : v.retired < o.geometry.epoch = subst (OverFits o v.retired v.count) over f.over in
      let now : RunFits o w m = record { mark = f.mark; done = f.done; kept = f.kept; sealed = f.sealed; follows = f.follows; few = f.few; over = (runs, few, short) } in
      subst (λ w. Fits o w m) (sym e) (in_phase o w m Run phase now)

  -- the program is loaded: its checkpoint is committed
  loads : (cycle : ℕ) → v.phase ≡ BootPhase → v.done ≡ None → v.sealed ≡ Some (mark 0 o.start.count)
      → next ≡ record v { phase = Run; done = v.sealed; sealed = None; epoch = 1; count = o.start.count; written = false }
      → Fits o next (marks_from o.start.count m (did_events o v Loaded cycle))
  loads cycle phase none sealed e =
      let f : BootFits o v m = of_phase o v m BootPhase phase h in
      let is : m ≡ loading_marks o.start.count = elim f.boots as (λ _. m ≡ loading_marks o.start.count) [
        | inl l ↦ l.marks
        | inr r ↦ absurd (let some : v.done ≡ Some r.mark = r.done in cc)
      ] in
      let w : View = record v { phase = Run; done = v.sealed; sealed = None; epoch = 1; count = o.start.count; written = false } in
      let retired : v.retired ≡ 0 = f.retired in
      let now : RunFits o w (marks_from o.start.count m (did_events o v Loaded cycle)) = record {
        mark = mark 0 o.start.count;
        done = sealed;
        kept = ap (λ n. n.sealed) is;
        sealed = refl;
        follows = (refl, refl, omega (arith, retired));
        few = omega (arith, retired);
        over = subst (OverFits o v.retired o.start.count) (sym f.over) (omega (arith, retired, least));
      } in
      subst (λ w. Fits o w (marks_from o.start.count m (did_events o v Loaded cycle))) (sym e) now

  -- the view fits the marks after an epoch was restored
  restarts : (epoch count cycle : ℕ) → v.phase ≡ BootPhase → v.done ≡ Some (mark epoch count) → v.sealed ≡ None → v.written ≡ false
      → next ≡ record v { phase = phase_at o count; epoch = epoch + 1; count = count; retired = 0; spent = 0; lap = 0 }
      → Fits o next (marks_from o.start.count m (did_events o v (Restarted epoch count) cycle))
  restarts epoch count cycle phase done none written e =
      let f : BootFits o v m = of_phase o v m BootPhase phase h in
      let now : Marks = marks_from o.start.count m (did_events o v (Restarted epoch count) cycle) in
      let by_run : (b : Bool) → runs_at o count ≡ b
      → Fits o (record v { phase = if b then Run else Halt; epoch = epoch + 1; count = count; retired = 0; spent = 0; lap = 0 }) now =
      λ b runs. begun f b runs in
      subst (λ w. Fits o w now) (sym e) (by_run (runs_at o count) refl)
    where
      begun : BootFits o v m → (b : Bool) → runs_at o count ≡ b
          → Fits o (record v { phase = if b then Run else Halt; epoch = epoch + 1; count = count; retired = 0; spent = 0; lap = 0 })
          (marks_from o.start.count m (did_events o v (Restarted epoch count) cycle))
      begun f true runs = record {
        mark = mark epoch count;
        done = done;
        kept = refl;
        sealed = sym none;
        follows = subst (Follows o (record v { phase = Run; epoch = epoch + 1; count = count; retired = 0; spent = 0; lap = 0 })
            (mark epoch count)) (sym none) (written, refl, omega arith);
        few = omega arith;
        over = subst (OverFits o 0 count) (sym f.over) (omega (arith, least));
      }
      begun f false runs = record { mark = mark epoch count; done = done; sealed = none; written = written; kept = refl; none = refl; count = refl; over = runs }

  -- the view fits the marks after a seal
  seals : (epoch count cycle : ℕ) (cause : EndCause) → v.phase ≡ Run → v.sealed ≡ None → epoch ≡ v.epoch → count ≡ v.count
      → v.over ≡ Some cause
      → next ≡ record v { sealed = Some (mark epoch count); epoch = v.epoch + 1; retired = 0; spent = 0; lap = 0; over = None }
      → Fits o next (marks_from o.start.count m (did_events o v (Sealed epoch count cause) cycle))
  seals epoch count cycle cause phase none of at_count over e =
      let f : RunFits o v m = of_phase o v m Run phase h in
      let g : Follows o v f.mark None = subst (Follows o v f.mark) none f.follows in
      let w : View = record v { sealed = Some (mark epoch count); epoch = v.epoch + 1; retired = 0; spent = 0; lap = 0; over = None } in
      let now : RunFits o w (marks_from o.start.count m (did_events o v (Sealed epoch count cause) cycle)) = record {
        mark = f.mark;
        done = f.done;
        kept = f.kept;
        sealed = refl;
        follows = (omega (arith, of), omega (arith, at_count), omega (arith, g.2, at_count), λ ended. refl);
        few = omega arith;
        over = least;
      } in
      subst (λ w. Fits o w (marks_from o.start.count m (did_events o v (Sealed epoch count cause) cycle))) (sym e) (in_phase o w _ Run phase now)

  -- the view fits the marks after a commit
  commits : (epoch overlapped cycle count : ℕ) → v.phase ≡ Run → v.sealed ≡ Some (mark epoch count)
      → next ≡ record (busier v) { phase = phase_at o count; done = v.sealed; sealed = None; written = false }
      → Fits o next (marks_from o.start.count m (did_events o v (Committed epoch overlapped) cycle))
  commits epoch overlapped cycle count phase sealed e =
      let f : RunFits o v m = of_phase o v m Run phase h in
      let g : Follows o v f.mark (Some (mark epoch count)) = subst (Follows o v f.mark) sealed f.follows in
      let now : Marks = marks_from o.start.count m (did_events o v (Committed epoch overlapped) cycle) in
      subst (λ w. Fits o w now) (sym e) (goes_on f g (runs_at o count) refl)
    where
      goes_on : (f : RunFits o v m) → Follows o v f.mark (Some (mark epoch count)) → (b : Bool) → runs_at o count ≡ b
          → Fits o (record (busier v) { phase = if b then Run else Halt; done = v.sealed; sealed = None; written = false })
          (marks_from o.start.count m (did_events o v (Committed epoch overlapped) cycle))
      goes_on f g true runs = record {
        mark = mark epoch count;
        done = sealed;
        kept = f.sealed ∙ sealed;
        sealed = refl;
        follows = (refl, g.0, g.1);
        few = f.few;
        over = f.over;
      }
      goes_on f g false runs =
          let still : v.count ≡ count = omega (arith, g.1, g.3 runs) in
          record { mark = mark epoch count; done = sealed; sealed = refl; written = refl; kept = f.sealed ∙ sealed; none = refl; count = still; over = ap (runs_at o) still ∙ runs }

  -- a step that reports nothing
  quiet : (did : Did) (cycle : ℕ) → did_events o v did cycle ≡ [] → Fits o next m
      → Fits o next (marks_from o.start.count m (did_events o v did cycle))
  quiet did cycle none fits =
      subst (λ vs. Fits o next (marks_from o.start.count m vs)) (sym none) fits

  -- a step keeps view and marks fitting
  pub Fits-reported : (did : Did) (cycle : ℕ) → CoreStep o v did next
      → Fits o next (marks_from o.start.count m (did_events o v did cycle))
  Fits-reported Boot cycle s = quiet Boot cycle refl (boots s.0 s.1)
  Fits-reported Loaded cycle s = loads cycle s.phase s.none s.sealed s.becomes
  Fits-reported (Restarted epoch count) cycle s = restarts epoch count cycle s.phase s.done s.unsealed s.unwritten s.becomes
  Fits-reported (Refused bad) cycle s = quiet (Refused bad) cycle refl (same s.3)
  Fits-reported Moved cycle s = quiet Moved cycle refl (moves s.0 s.1 s.2 s.3)
  Fits-reported (Retired hart) cycle s = quiet (Retired hart) cycle refl (retires s.phase s.over s.runs s.becomes)
  Fits-reported Flushed cycle s = quiet Flushed cycle refl (busy s.0 s.1)
  Fits-reported Merged cycle s = quiet Merged cycle refl (busy s.0 s.1)
  Fits-reported Promoted cycle s = quiet Promoted cycle refl (busy s.0 s.1)
  Fits-reported (Sealed epoch count cause) cycle s = seals epoch count cycle cause s.phase s.unsealed s.of_epoch s.at_count s.over s.becomes
  Fits-reported (Engine step) cycle s = quiet (Engine step) cycle refl (engine s.0 step s.1)
  Fits-reported (Committed epoch overlapped) cycle s = commits epoch overlapped cycle s.count s.phase s.sealed s.becomes
  Fits-reported NvmDrained cycle s = quiet NvmDrained cycle refl (same s)
  Fits-reported DramDrained cycle s = quiet DramDrained cycle refl (same s)
  Fits-reported Nothing cycle s = quiet Nothing cycle refl (same s.1)
