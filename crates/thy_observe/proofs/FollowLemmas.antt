-- What is executed again is what the run has executed.
use Rattle.std.proofs.Common.{◌≡◌, ℕ, zero, suc, ◌+◌, ◌-◌, ◌<◌, ◌≤◌, Bool, true, false, not, if◌then◌else◌, Option, List, [], ◌∷◌, ◌++◌, length, take, fold, get_or, refl, sym, ◌∙◌, ap, subst, inl, inr, arith, length-append}
use Rattle.std.specs.Prelude.{MatchBool}
use Rattle.std.proofs.lemmas.Bool.{cases_lt}
use Rattle.std.proofs.lemmas.List.{get_or_append_left, get_or_at, get_or-take, length-take-le}
use Rattle.std.proofs.lemmas.List.Sums.{fold-append}
use Rattle.thy_block.specs.declared.mark.Mark.{Mark}
use Rattle.thy_base.specs.Config.{IsRising}
use Rattle.thy_isa.specs.Step.{State, Setting, step_of}
use Rattle.thy_layout.specs.declared.engine_step.EngineStep.{EngineStep}
use Rattle.thy_layout.specs.declared.engine_step.EngineStep.TheVariants.{Idle, Copied, PageBlock, StateBlock, TableBlock, Barrier, CommitWritten, Committed as EngineCommitted}
use Rattle.thy_layout.specs.Decoded.{Decoded, Nothing as NothingLeft, Refused as RefusedImage, At}
use Rattle.thy_computer.specs.declared.did.Did.{Did}
use Rattle.thy_computer.specs.declared.did.Did.TheVariants.{Boot, Loaded, Restarted, Refused, Moved, Retired, Flushed, Merged, Sealed, Promoted, Engine, Committed, NvmDrained, DramDrained, Nothing}
use Rattle.thy_computer.specs.declared.view.Phase.{Phase}
use Rattle.thy_computer.specs.declared.view.Phase.TheVariants.{Boot as BootPhase, Run, Halt}
use Rattle.thy_computer.specs.declared.view.View.{View}
use Rattle.thy_computer.specs.Booting.{found_first, view_of_image}
use Rattle.thy_computer.specs.CoreStep.{BootsTo, CoreStep, EngineTo, MovesTo, phase_at}
use Rattle.thy_computer.specs.Kind.{KindOf}
use Rattle.thy_computer.specs.Origin.{Origin, at, by_turns, runs_at, setting_of}
use Rattle.thy_computer.specs.Safe.{ceiling}
use Rattle.thy_computer.specs.WithTurns.{with_turns, AgreeBelow, count_of, reach}
use Rattle.thy_computer.specs.Views.{is_boot}
use Rattle.thy_computer.proofs.ReachLaws.{reach-boot, reach-count, runs_behind, stays-there}
use Rattle.thy_computer.proofs.TurnLaws.{turn_late}
use Rattle.thy_run.specs.Laws.{marks_of}
use Rattle.thy_run.specs.Watching.{Taken, IsListed, taken_in}
use Rattle.thy_run.specs.World.{World, Given, IsCutOff, Ran, TakesStep, is_due, line, seen, tear}
use Rattle.thy_run.proofs.CutLaws.{cut_below}
use Rattle.thy_run.proofs.AgreeingTurnsLaws.{late_of}
use Rattle.thy_run.proofs.StepAlong.{core_of}
use Rattle.thy_run.proofs.WorldLaws.{Coheres, Coheres-stepped, Good-ran, first_reach}
use Rattle.thy_observe.specs.declared.changes.Change.{Change}
use Rattle.thy_observe.specs.Changes.{as_list, change_of, changes_in, changes_of, lost_in}
use Rattle.thy_observe.specs.Following.{FollowsRuns, KnowsBoots}
use Rattle.thy_observe.specs.Replaying.{Executed, executed, executed_after, nothing_executed}
use Rattle.thy_observe.proofs.ChangeLemmas.{changes-one}

-- the turns of a run from a start of this count, as far as a view reaches, are these harts; outside a boot they are all
record Tracks (start : ℕ) (turns : List ℕ) (v : View) (harts : List ℕ) : Type 0 where
  agree : (i : ℕ) → i < reach v - start → get_or harts i 0 ≡ get_or turns i 0
  long : reach v - start ≤ length harts
  there : is_boot v.phase ≡ false → reach v - start ≡ length harts

-- ---- one cycle

-- what a step makes of what is executed, and of the harts in it
abbrev stepped_on : Setting → State → Executed → Did → Executed
stepped_on g start e did = fold (executed_after g start) e (as_list (change_of did))

-- what a cycle makes of what is executed
executed-one : (g : Setting) (start : State) (earlier : List Taken) (t : Taken)
    → executed g start (changes_of earlier ++ changes_in t)
    ≡ fold (executed_after g start) (stepped_on g start (executed g start (changes_of earlier)) t.stepped.did) (lost_in t.fell)
executed-one g start earlier t =
    fold-append (executed_after g start) nothing_executed (changes_of earlier) (changes_in t)
    ∙ fold-append (executed_after g start) (executed g start (changes_of earlier)) (as_list (change_of t.stepped.did)) (lost_in t.fell)

abbrev harts_by : Setting → State → Executed → Did → List ℕ
harts_by g start e did = (stepped_on g start e did).harts

-- the cut that may fall after the step leaves the harts
lost-harts : (g : Setting) (start : State) (e : Executed) (fell : Bool) → (fold (executed_after g start) e (lost_in fell)).harts ≡ e.harts
lost-harts g start e true = refl
lost-harts g start e false = refl

-- what a cycle makes of the harts
harts-one : (g : Setting) (start : State) (earlier : List Taken) (t : Taken)
    → (executed g start (changes_of (earlier ++ t ∷ []))).harts ≡ harts_by g start (executed g start (changes_of earlier)) t.stepped.did
harts-one g start earlier t =
    ap (λ (l : List Change). (executed g start l).harts) (sym (changes-one earlier t))
    ∙ ap (λ (x : Executed). x.harts) (executed-one g start earlier t)
    ∙ lost-harts g start (stepped_on g start (executed g start (changes_of earlier)) t.stepped.did) t.fell

not_boot : (b : Bool) → b ≡ true → b ≡ false → ⊥
not_boot b is off = let both : true ≡ false = sym is ∙ off in cc

-- a boot that goes on is one
pub boots_on : (v next : View) → v.phase ≡ BootPhase → BootsTo v next → is_boot next.phase ≡ true
boots_on v next is to = elim to as (λ _. is_boot next.phase ≡ true) [
  | inl e ↦ ap (λ (w : View). is_boot w.phase) e ∙ ap is_boot is
  | inr e ↦ ap (λ (w : View). is_boot w.phase) e.1 ∙ ap is_boot is
]

module _ (start : ℕ) (turns : List ℕ) (v next : View) (harts : List ℕ) (h : Tracks start turns v harts) where
  -- a cycle that changes nothing of the program's state
  stays : reach next - start ≡ reach v - start → (is_boot next.phase ≡ false → is_boot v.phase ≡ false) → Tracks start turns next harts
  stays same up = record {
    agree = λ i less. h.agree i (omega (arith, less, same));
    long = (let long = h.long in omega (arith, long, same));
    there = λ on. same ∙ h.there (up on);
  }

  -- a cycle that restores a checkpoint
  restores : (count : ℕ) → reach v ≡ count → reach next - start ≡ reach v - start → Tracks start turns next (take (count - start) harts)
  restores count here same =
      let many : length (take (count - start) harts) ≡ count - start = length-take-le (count - start) harts (let long = h.long in omega (arith, long, here)) in
      record {
        agree = λ i less.
            get_or-take (count - start) harts i 0 (omega (arith, less, here, same))
            ∙ h.agree i (omega (arith, less, same));
        long = omega (arith, many, here, same);
        there = λ on. omega (arith, many, here, same);
      }

  -- a cycle that loads the start
  loads : reach v ≡ 0 → reach next - start ≡ reach v - start → Tracks start turns next []
  loads here same = record {
    agree = λ i less. absurd (omega (arith, less, here, same));
    long = omega (arith, here, same);
    there = λ on. omega (arith, here, same);
  }

  -- a cycle that retires an instruction
  retires_one : (hart : ℕ) → is_boot v.phase ≡ false → start ≤ reach v → reach next ≡ reach v + 1
      → get_or turns (reach v - start) 0 ≡ hart → Tracks start turns next (harts ++ hart ∷ [])
  retires_one hart up late more mine =
      let all : reach v - start ≡ length harts = h.there up in
      let many : length (harts ++ hart ∷ []) ≡ length harts + 1 = length-append harts (hart ∷ []) in
      record {
        agree = λ i less. elim (cases_lt i (length harts)) as (λ _. get_or (harts ++ hart ∷ []) i 0 ≡ get_or turns i 0) [
          | inl low ↦ get_or_append_left harts (hart ∷ []) 0 i low ∙ h.agree i (omega (arith, low, all))
          | inr high ↦
              (let last : length harts ≡ i = omega (arith, high, less, more, late, all) in
              get_or_at harts hart [] 0 i last ∙ sym mine ∙ ap (λ (n : ℕ). get_or turns n 0) (all ∙ last))
        ];
        long = omega (arith, many, more, late, all);
        there = λ on. omega (arith, many, more, late, all);
      }

-- a step of the view, along the turns that are reported once it is done
tracks_step : (p : Origin) (v next : View) (did : Did) (e : Executed) → CoreStep p v did next
    → (v.phase ≡ Run → p.start.count ≤ reach v) → Tracks p.start.count p.turns v e.harts
    → Tracks p.start.count p.turns next (harts_by (setting_of p) p.start e did)
tracks_step p v next Loaded e s late h =
    loads p.start.count p.turns v next e.harts h (reach-boot v s.phase ∙ ap count_of s.none) (stays-there p v next Loaded s refl)
tracks_step p v next (Restarted epoch count) e s late h =
    restores p.start.count p.turns v next e.harts h count (reach-boot v s.phase ∙ ap count_of s.done) (stays-there p v next (Restarted epoch count) s refl)
tracks_step p v next (Retired hart) e s late h =
    let phase : next.phase ≡ v.phase = ap (λ (w : View). w.phase) s.becomes in
    let here : reach v ≡ v.count = reach-count v (runs_behind v.phase s.phase) in
    let there : reach next ≡ v.count + 1 = reach-count next (runs_behind next.phase (phase ∙ s.phase)) ∙ ap (λ (w : View). w.count) s.becomes in
    let from : p.start.count ≤ reach v = late s.phase in
    retires_one p.start.count p.turns v next e.harts h hart (ap is_boot s.phase) from (omega (arith, here, there))
    (ap (λ (n : ℕ). get_or p.turns (n - p.start.count) 0) here ∙ sym (turn_late p v.count (omega (arith, from, here))) ∙ s.turn)
tracks_step p v next Boot e s late h =
    stays p.start.count p.turns v next e.harts h (stays-there p v next Boot s refl) (λ on. absurd (not_boot (is_boot next.phase) (boots_on v next s.0 s.1) on))
tracks_step p v next (Refused bad) e s late h =
    stays p.start.count p.turns v next e.harts h (stays-there p v next (Refused bad) s refl) (λ on. ap (λ (w : View). is_boot w.phase) (sym s.3) ∙ on)
tracks_step p v next Moved e s late h =
    stays p.start.count p.turns v next e.harts h (stays-there p v next Moved s refl) (λ on. ap is_boot s.0)
tracks_step p v next Flushed e s late h =
    stays p.start.count p.turns v next e.harts h (stays-there p v next Flushed s refl) (λ on. ap is_boot s.0)
tracks_step p v next Merged e s late h =
    stays p.start.count p.turns v next e.harts h (stays-there p v next Merged s refl) (λ on. ap is_boot s.0)
tracks_step p v next Promoted e s late h =
    stays p.start.count p.turns v next e.harts h (stays-there p v next Promoted s refl) (λ on. ap is_boot s.0)
tracks_step p v next (Sealed epoch count cause) e s late h =
    stays p.start.count p.turns v next e.harts h (stays-there p v next (Sealed epoch count cause) s refl) (λ on. ap is_boot s.phase)
tracks_step p v next (Engine step) e s late h =
    stays p.start.count p.turns v next e.harts h (stays-there p v next (Engine step) s refl) (λ on. ap is_boot s.0)
tracks_step p v next (Committed epoch overlapped) e s late h =
    stays p.start.count p.turns v next e.harts h (stays-there p v next (Committed epoch overlapped) s refl) (λ on. ap is_boot s.phase)
tracks_step p v next NvmDrained e s late h =
    stays p.start.count p.turns v next e.harts h (stays-there p v next NvmDrained s refl) (λ on. ap (λ (w : View). is_boot w.phase) (sym s) ∙ on)
tracks_step p v next DramDrained e s late h =
    stays p.start.count p.turns v next e.harts h (stays-there p v next DramDrained s refl) (λ on. ap (λ (w : View). is_boot w.phase) (sym s) ∙ on)
tracks_step p v next Nothing e s late h =
    stays p.start.count p.turns v next e.harts h (stays-there p v next Nothing s refl) (λ on. ap (λ (w : View). is_boot w.phase) (sym s.1) ∙ on)

-- ---- a run

pub image_boots : (count : ℕ) (d : Decoded) → is_boot (view_of_image count d).phase ≡ true
image_boots count NothingLeft = refl
image_boots count (RefusedImage bad) = refl
image_boots count (At epoch state) = refl

pub found_boots : (o : Origin) (kept : Option Mark) → is_boot (view_of_image o.start.count (found_first o kept)).phase ≡ true
found_boots o kept = image_boots o.start.count (found_first o kept)

-- the turns that agree below a count are the same from the start on
agree_from : (o : Origin) (turns : List ℕ) (k i : ℕ) → AgreeBelow o turns k → i < k - o.start.count → get_or turns i 0 ≡ get_or o.turns i 0
agree_from o turns k i agree less =
    let back : o.start.count + i - o.start.count ≡ i = omega arith in
    sym (ap (λ (n : ℕ). get_or turns n 0) back) ∙ sym (turn_late (with_turns o turns) (o.start.count + i) (omega arith))
    ∙ agree (o.start.count + i) (omega (arith, less)) ∙ turn_late o (o.start.count + i) (omega arith) ∙ ap (λ (n : ℕ). get_or o.turns n 0) back

abbrev harts_of : Origin → List Taken → List ℕ
harts_of o cycles = (executed (setting_of o) o.start (changes_of cycles)).harts

module _ {M : Type 0} (K : KindOf M) (o : Origin) where
  abbrev TracksRun : World M → List ℕ → Type 0
  TracksRun w harts = Tracks o.start.count w.turns (seen K o w) harts

  step_on : (w x : World M) (step : TakesStep K o w x) → Coheres K o w → (e : Executed) → TracksRun w e.harts
      → TracksRun x (harts_by (setting_of o) o.start e step.r.did)
  step_on w x step stands e h =
      let moved : Tracks o.start.count x.turns (seen K o w) e.harts = record {
        agree = λ i less. h.agree i less ∙ sym (agree_from (line o w) x.turns (reach (seen K o w)) i step.agree less);
        long = h.long;
        there = h.there;
      } in
      tracks_step (line o x) (seen K o w) (seen K o x) step.r.did e (core_of K o w x step)
      (late_of (line o w) (seen K o w) (marks_of o w.events) stands.fits stands.leads) moved

  cut_on : (x next : World M) (pick : ℕ) → IsCutOff K o pick x next → reach (seen K o next) - o.start.count ≤ reach (seen K o x) - o.start.count
      → (harts : List ℕ) → TracksRun x harts → TracksRun next harts
  cut_on x next pick cut below harts h =
      let left : Decoded = K.decode o.geometry ceiling next.device.image in
      let here : reach (seen K o next) ≡ reach (view_of_image o.start.count left) = ap reach cut.found in
      record {
        agree = λ i less.
            h.agree i (omega (arith, less, below))
            ∙ sym (get_or-take (reach (view_of_image o.start.count left) - o.start.count) x.turns i 0 (omega (arith, less, here)))
            ∙ ap (λ (t : List ℕ). get_or t i 0) (sym cut.kept);
        long = (let long = h.long in omega (arith, below, long));
        there = λ on. absurd (not_boot (is_boot (seen K o next).phase) (ap (λ (v : View). is_boot v.phase) cut.found ∙ image_boots o.start.count left) on);
      }

  by_cut : (x next : World M) (pick : ℕ) (b : Bool) → MatchBool b (IsCutOff K o pick x next) (next ≡ x)
      → ((cut : IsCutOff K o pick x next) → reach (seen K o next) - o.start.count ≤ reach (seen K o x) - o.start.count)
      → (harts : List ℕ) → TracksRun x harts → TracksRun next harts
  by_cut x next pick true cut below harts h = cut_on x next pick cut (below cut) harts h
  by_cut x next pick false same below harts h = subst (λ (y : World M). TracksRun y harts) (sym same) h

  listed_ran : (given : Given) (k : ℕ) (w : World M) (cycles : List Taken) → IsListed K o given k w cycles → Ran K o given k w
  listed_ran given zero w cycles h = h.0
  listed_ran given (suc k) w cycles (before, earlier, c, h, is) = (before, listed_ran given k before earlier h, c)

  tracks_run : (given : Given) (k : ℕ) (w : World M) (cycles : List Taken) → 1 ≤ o.geometry.epoch → IsRising 0 given.config.cuts
      → IsListed K o given k w cycles → TracksRun w (harts_of o cycles)
  tracks_run given zero w cycles least rising (first, none) =
      let nothing : harts_of o cycles ≡ [] = ap (harts_of o) none in
      let here : reach (seen K o w) - o.start.count ≡ 0 = ap (λ (v : View). reach v - o.start.count) first.found ∙ first_reach o o.kept in
      subst (λ (l : List ℕ). TracksRun w l) (sym nothing) (record {
        agree = λ i less. absurd (omega (arith, less, here));
        long = omega (arith, here);
        there = λ on. here;
      })
  tracks_run given (suc k) w cycles least rising (before, earlier, c, h, is) =
      let stands = (Good-ran K o given k before least rising (listed_ran given k before earlier h)).stands in
      let e : Executed = executed (setting_of o) o.start (changes_of earlier) in
      let t : Taken = taken_in K o given.config.cuts given.config.tears before w c in
      let after : harts_of o cycles ≡ harts_by (setting_of o) o.start e t.stepped.did =
      ap (harts_of o) is ∙ harts-one (setting_of o) o.start earlier t in
      let between = step_on before c.between c.steps stands e (tracks_run given k before earlier least rising h) in
      let fits = (Coheres-stepped K o before least stands c.between c.steps).fits in
      let pick : ℕ = tear given.config.tears c.between.passed in
      subst (λ (l : List ℕ). TracksRun w l) (sym after)
      (by_cut c.between w pick (is_due K o given.config.cuts c.between) c.cut
      (λ cut. subst (λ (v : View). reach v - o.start.count ≤ reach (seen K o c.between) - o.start.count) (sym cut.found)
      (cut_below (line o c.between) (seen K o c.between) (marks_of o c.between.events) (K.decode o.geometry ceiling w.device.image) fits
      (c.steps.is_step.safe w.device.image cut.cut.crash)))
      (harts_by (setting_of o) o.start e t.stepped.did) between)

-- ---- the state

turns-alike : (g : Setting) (a b : List ℕ) (k : ℕ) (s : State) → ((i : ℕ) → i < k → get_or a i 0 ≡ get_or b i 0) → by_turns g a k s ≡ by_turns g b k s
unfolding by_turns
turns-alike g a b zero s same = refl
turns-alike g a b (suc k) s same =
    ap (λ (h : ℕ). step_of g h (by_turns g a k s)) (same k (omega arith))
    ∙ ap (step_of g (get_or b k 0)) (turns-alike g a b k s (λ i less. same i (omega (arith, less))))

at-turns : (o : Origin) (k : ℕ) → by_turns (setting_of o) o.turns (k - o.start.count) o.start ≡ at o k
unfolding at
at-turns o k = refl

pub follows-runs : {M : Type 0} (K : KindOf M) → FollowsRuns K
follows-runs {M = M} K o given k w cycles least rising listed up =
    let h = tracks_run K o given k w cycles least rising listed in
    let harts : List ℕ = harts_of o cycles in
    let v : View = seen K o w in
    let count : reach v ≡ v.count = reach-count v (λ boots. not_boot (is_boot v.phase) (ap is_boot boots) up) in
    let many : length harts ≡ v.count - o.start.count = sym (h.there up) ∙ ap (λ (n : ℕ). n - o.start.count) count in
    record {
      state = ap (λ (n : ℕ). by_turns (setting_of o) harts n o.start) many
          ∙ turns-alike (setting_of o) harts w.turns (v.count - o.start.count) o.start (λ i less. h.agree i (omega (arith, less, count)))
          ∙ at-turns (line o w) v.count;
      earlier = λ n less.
          let long : length (take n harts) ≡ n = length-take-le n harts less in
          let back : o.start.count + n - o.start.count ≡ n = omega arith in
          ap (λ (m : ℕ). by_turns (setting_of o) (take n harts) m o.start) (long ∙ sym back)
          ∙ turns-alike (setting_of o) (take n harts) w.turns (o.start.count + n - o.start.count) o.start
          (λ i below. get_or-take n harts i 0 (omega (arith, below)) ∙ h.agree i (omega (arith, below, less, many, count)))
          ∙ at-turns (line o w) (o.start.count + n);
    }

-- ---- boots

abbrev is_up : View → Bool
is_up v = not (is_boot v.phase)

-- a checkpoint's end is no boot
up-at : (o : Origin) (count : ℕ) (b : Bool) → runs_at o count ≡ b → not (is_boot (phase_at o count)) ≡ true
up-at o count true is = ap (λ (c : Bool). not (is_boot (if c then Run else Halt))) is
up-at o count false is = ap (λ (c : Bool). not (is_boot (if c then Run else Halt))) is

-- an engine that goes on leaves the phase
pub engine-phase : (step : EngineStep) (v next : View) → EngineTo step v next → next.phase ≡ v.phase
engine-phase Idle v next to = absurd to
engine-phase CommitWritten v next to = ap (λ (w : View). w.phase) to.2
engine-phase (EngineCommitted epoch) v next to = absurd to
engine-phase Copied v next to = ap (λ (w : View). w.phase) to
engine-phase PageBlock v next to = ap (λ (w : View). w.phase) to
engine-phase StateBlock v next to = ap (λ (w : View). w.phase) to
engine-phase TableBlock v next to = ap (λ (w : View). w.phase) to
engine-phase Barrier v next to = ap (λ (w : View). w.phase) to

-- a hart that moves on leaves it too
pub moved-phase : (v next : View) → MovesTo v next → next.phase ≡ v.phase
moved-phase v next to = elim to as (λ _. next.phase ≡ v.phase) [
  | inl e ↦ ap (λ (w : View). w.phase) e
  | inr e ↦ ap (λ (w : View). w.phase) e.4
]

keeps-up : (v next : View) (up : Bool) → next.phase ≡ v.phase → up ≡ is_up v → up ≡ is_up next
keeps-up v next up phase h = h ∙ ap (λ (p : Phase). not (is_boot p)) (sym phase)

-- what a step makes of it
up_step : (p : Origin) (v next : View) (did : Did) (e : Executed) → CoreStep p v did next → e.up ≡ is_up v
    → (stepped_on (setting_of p) p.start e did).up ≡ is_up next
up_step p v next Loaded e s h = sym (ap is_up s.becomes)
up_step p v next (Restarted epoch count) e s h = sym (ap is_up s.becomes ∙ up-at p count (runs_at p count) refl)
up_step p v next (Retired hart) e s h = keeps-up v next e.up (ap (λ (w : View). w.phase) s.becomes) h
up_step p v next Boot e s h =
    h ∙ ap (λ (q : Phase). not (is_boot q)) s.0 ∙ sym (ap not (boots_on v next s.0 s.1))
up_step p v next (Refused bad) e s h = keeps-up v next e.up (ap (λ (w : View). w.phase) s.3) h
up_step p v next Moved e s h = keeps-up v next e.up (moved-phase v next s.3) h
up_step p v next Flushed e s h = keeps-up v next e.up (ap (λ (w : View). w.phase) s.1) h
up_step p v next Merged e s h = keeps-up v next e.up (ap (λ (w : View). w.phase) s.1) h
up_step p v next Promoted e s h = keeps-up v next e.up (ap (λ (w : View). w.phase) s.1) h
up_step p v next (Sealed epoch count cause) e s h = keeps-up v next e.up (ap (λ (w : View). w.phase) s.becomes) h
up_step p v next (Engine step) e s h = keeps-up v next e.up (engine-phase step v next s.1) h
up_step p v next (Committed epoch overlapped) e s h =
    h ∙ ap (λ (q : Phase). not (is_boot q)) s.phase ∙ sym (ap is_up s.becomes ∙ up-at p s.count (runs_at p s.count) refl)
up_step p v next NvmDrained e s h = keeps-up v next e.up (ap (λ (w : View). w.phase) s) h
up_step p v next DramDrained e s h = keeps-up v next e.up (ap (λ (w : View). w.phase) s) h
up_step p v next Nothing e s h = keeps-up v next e.up (ap (λ (w : View). w.phase) s.1) h

module _ {M : Type 0} (K : KindOf M) (o : Origin) where
  -- what the cut makes of it that may fall
  up_cut : (x next : World M) (pick : ℕ) (b : Bool) → MatchBool b (IsCutOff K o pick x next) (next ≡ x)
      → (e : Executed) → e.up ≡ is_up (seen K o x) → (fold (executed_after (setting_of o) o.start) e (lost_in b)).up ≡ is_up (seen K o next)
  up_cut x next pick true cut e h =
      let boots : is_boot (seen K o next).phase ≡ true =
      ap (λ (v : View). is_boot v.phase) cut.found ∙ image_boots o.start.count (K.decode o.geometry ceiling next.device.image) in
      sym (ap not boots)
  up_cut x next pick false same e h = h ∙ ap (λ (y : World M). is_up (seen K o y)) (sym same)

  knows_boots : (given : Given) (k : ℕ) (w : World M) (cycles : List Taken) → IsListed K o given k w cycles
      → (executed (setting_of o) o.start (changes_of cycles)).up ≡ is_up (seen K o w)
  knows_boots given zero w cycles (first, none) =
      ap (λ (l : List Taken). (executed (setting_of o) o.start (changes_of l)).up) none
      ∙ sym (ap is_up first.found ∙ ap not (found_boots o o.kept))
  knows_boots given (suc k) w cycles (before, earlier, c, h, is) =
      let e : Executed = executed (setting_of o) o.start (changes_of earlier) in
      let t : Taken = taken_in K o given.config.cuts given.config.tears before w c in
      let stepped : (stepped_on (setting_of o) o.start e t.stepped.did).up ≡ is_up (seen K o c.between) =
      up_step (line o c.between) (seen K o before) (seen K o c.between) t.stepped.did e (core_of K o before c.between c.steps) (knows_boots given k before earlier h) in
      ap (λ (l : List Taken). (executed (setting_of o) o.start (changes_of l)).up) is
      ∙ ap (λ (l : List Change). (executed (setting_of o) o.start l).up) (sym (changes-one earlier t))
      ∙ ap (λ (x : Executed). x.up) (executed-one (setting_of o) o.start earlier t)
      ∙ up_cut c.between w (tear given.config.tears c.between.passed) (is_due K o given.config.cuts c.between) c.cut
      (stepped_on (setting_of o) o.start e t.stepped.did) stepped

pub knows-boots : {M : Type 0} (K : KindOf M) → KnowsBoots K
knows-boots K o given k w cycles listed = knows_boots K o given k w cycles listed
