-- Every run is busy: what its cycles did since power came on, held against what lies ahead of the machine.
use Rattle.std.proofs.Common.{◌≡◌, ℕ, zero, suc, ◌+◌, ◌<◌, ◌≤◌, Bool, true, false, ◌&&◌, not, nat_lt, ◌==◌, if◌then◌else◌, List, [], ◌∷◌, length, refl, sym, ◌∙◌, ap, subst, arith}
use Rattle.std.specs.Prelude.{slice_index, MatchBool}
use Rattle.std.proofs.lemmas.Bool.{and_parts, eqb-true, ltb-true}
use Rattle.thy_block.specs.Device.{Device}
use Rattle.thy_layout.specs.Decoded.{Decoded, Nothing as NothingLeft, Refused as RefusedImage, At}
use Rattle.thy_computer.specs.declared.did.Did.TheVariants.{Nothing}
use Rattle.thy_computer.specs.declared.view.Phase.{Phase}
use Rattle.thy_computer.specs.declared.view.Phase.TheVariants.{Boot as BootPhase, Run, Halt}
use Rattle.thy_computer.specs.declared.view.View.{View}
use Rattle.thy_computer.specs.Booting.{view_of_image}
use Rattle.thy_computer.specs.CoreStep.{CoreStep}
use Rattle.thy_computer.specs.Kind.{KindOf, IsLawful, IsPoweredOn}
use Rattle.thy_computer.specs.Origin.{Origin}
use Rattle.thy_computer.specs.Pace.{is_drained}
use Rattle.thy_computer.specs.Views.{is_boot, is_halt}
use Rattle.thy_run.specs.Progress.{last_of, cycles_for, Tally, nothing_done, one_if, counted, tally_of, RunIsBusy, RunNeverRests}
use Rattle.thy_run.specs.World.{World, Given, line, seen, TakesStep, is_due, IsCutOff, tear, Ran}
use Rattle.thy_run.proofs.StepAlong.{core_of}
use Rattle.thy_run.proofs.StepKinds.{kind_of, stays_up}
use Rattle.thy_run.proofs.WorldLaws.{cycles-ran}

-- ---- numbers

-- a listed cycle is no later than the last
listed-last_of : (cuts : List ℕ) (i : ℕ) → i < length cuts → slice_index cuts i ≤ last_of cuts
listed-last_of [] i few = absurd (omega arith)
listed-last_of (c ∷ cs) zero few = omega arith
listed-last_of (c ∷ cs) (suc i) few =
    let rest : slice_index cs i ≤ last_of cs = listed-last_of cs i (omega arith) in
    omega (arith, rest)

-- the drains so far and the drains left stay within their bounds after one more cycle
drains_kept : (b : Bool) (drains others old new : ℕ) → MatchBool b (new + 1 ≡ old) (new ≤ old + 1) → drains + old ≤ others
    → drains + one_if b + new ≤ others + one_if (not b)
drains_kept true drains others old new step kept = omega (arith, step, kept)
drains_kept false drains others old new step kept = omega (arith, step, kept)

-- the boot's cycles so far and its cycles left stay within the most after one more cycle
boots_kept : (b : Bool) (boots most old new : ℕ) → MatchBool b (new ≤ old) (new + 1 ≤ old) → boots + old ≤ most
    → boots + one_if (true && not b) + new ≤ most
boots_kept true boots most old new step kept = omega (arith, step, kept)
boots_kept false boots most old new step kept = omega (arith, step, kept)

-- ---- between two cycles

-- what was done, and what lies ahead
pub record Works {M : Type 0} (K : KindOf M) (o : Origin) (cuts : List ℕ) (w : World M) (t : Tally) : Type 0 where
  pub at_moment : K.is_at (line o w) w.cycles w.machine w.device
  pub near : w.cycles + K.ahead (line o w) w.machine w.device ≤ cycles_for K o.geometry cuts t.retired
  pub boots : t.booted ≤ K.most_booting o.geometry
  pub boot : (seen K o w).phase ≡ BootPhase → t.booted + (K.gauge w.machine w.device).boot_left ≤ K.most_booting o.geometry
  pub queued : t.drains + (K.gauge w.machine w.device).queued ≤ t.others

module _ {M : Type 0} (K : KindOf M) (laws : IsLawful K) (o : Origin) (cuts : List ℕ) where
  -- this many cycles of the boot are done, and while it continues the cycles that are left fit in too
  abbrev IsBooting : World M → ℕ → Type 0
  IsBooting w boots =
      (boots ≤ K.most_booting o.geometry)
      × ((seen K o w).phase ≡ BootPhase → boots + (K.gauge w.machine w.device).boot_left ≤ K.most_booting o.geometry)

  -- power came on after a listed cycle
  powered : (w : World M) → K.is_at (line o w) w.cycles w.machine w.device → K.powered o.geometry w.machine → w.device.queue ≡ []
      → w.cycles ≤ last_of cuts
      → Works K o cuts w nothing_done
  powered w at_moment on empty listed =
      let p : IsPoweredOn K (line o w) w.machine w.device = laws.powered_on (line o w) w.cycles w.machine w.device at_moment on empty in
      record {
        at_moment = at_moment;
        near = omega (arith, listed, p.ahead);
        boots = omega arith;
        boot = λ e. omega (arith, p.boot_left);
        queued = omega (arith, p.queued);
      }

  module _ (w next : World M) (step : TakesStep K o w next) (t : Tally) (h : Works K o cuts w t) where
    -- a step after the boot is none of its cycles, and the boot does not come again
    behind : is_boot (seen K o w).phase ≡ false → IsBooting next (t.booted + 0)
    behind up =
        let kind = kind_of (line o next) (seen K o w) (seen K o next) step.r.did (core_of K o w next step) in
        let still : is_boot (seen K o next).phase ≡ false = stays_up (line o next) (seen K o w) (seen K o next) step.r.did kind up in
        (omega (arith, h.boots), λ e. absurd (let boot : is_boot (seen K o next).phase ≡ true = ap is_boot e in cc))

    phases : (p : Phase) → (seen K o w).phase ≡ p → IsBooting next (t.booted + one_if (is_boot p && not (is_drained step.r.did)))
    phases BootPhase is =
        let kept = boots_kept (is_drained step.r.did) t.booted (K.most_booting o.geometry) _ _
        (step.is_step.pace.boots (ap (λ (v : View). v.phase) step.alike ∙ is)) (h.boot is) in
        (omega (arith, kept), λ e. kept)
    phases Run is = behind (ap is_boot is)
    phases Halt is = behind (ap is_boot is)

    -- a step leaves what was done and what lies ahead within their bounds
    step_works : Works K o cuts next (counted t (is_boot (seen K o w).phase) step.r.did)
    step_works =
        let cycles : next.cycles ≡ w.cycles + 1 = ap (λ (y : World M). y.cycles) step.next_is in
        let boots = phases (seen K o w).phase refl in
        record {
          at_moment = subst (λ k. K.is_at (line o next) k next.machine next.device) (sym cycles) step.is_step.at_next;
          near =
              let ahead : K.ahead (line o next) w.machine w.device ≡ K.ahead (line o w) w.machine w.device =
              (laws.seen_alike (line o w) next.turns w.cycles w.machine w.device h.at_moment step.agree).ahead in
              let nears = step.is_step.nears (ap (λ (v : View). is_halt v.phase) step.alike ∙ step.going) in
              omega (arith, cycles, h.near, ahead, nears);
          boots = boots.0;
          boot = boots.1;
          queued = drains_kept (is_drained step.r.did) t.drains t.others _ _ step.is_step.pace.queues h.queued;
        }

  -- a cut leaves what was done and what lies ahead within their bounds
  cut_works : (pick : ℕ) (x next : World M) → is_due K o cuts x ≡ true → IsCutOff K o pick x next → Works K o cuts next nothing_done
  cut_works pick x next due cut =
      let rest = and_parts (not (is_halt (seen K o x).phase)) _ due in
      let listed = and_parts (nat_lt x.passed (length cuts)) (slice_index cuts x.passed == x.cycles) rest.1 in
      let at : slice_index cuts x.passed ≡ x.cycles = eqb-true (slice_index cuts x.passed) x.cycles listed.1 in
      let most : slice_index cuts x.passed ≤ last_of cuts = listed-last_of cuts x.passed (ltb-true x.passed (length cuts) listed.0) in
      let cycles : next.cycles ≡ x.cycles = ap (λ (y : World M). y.cycles) cut.next_is in
      powered next (subst (λ k. K.is_at (line o next) k next.machine next.device) (sym cycles) cut.at_moment) cut.powered
      (ap (λ (n : Device). n.queue) cut.cut.device) (omega (arith, at, most, cycles))

  by_due : (w x next : World M) (step : TakesStep K o w x) (t : Tally) → Works K o cuts w t → (pick : ℕ) (b : Bool) → is_due K o cuts x ≡ b
      → MatchBool b (IsCutOff K o pick x next) (next ≡ x)
      → Works K o cuts next (if b then nothing_done else counted t (is_boot (seen K o w).phase) step.r.did)
  by_due w x next step t h pick true due cut = cut_works pick x next due cut
  by_due w x next step t h pick false due is =
      subst (λ (y : World M). Works K o cuts y (counted t (is_boot (seen K o w).phase) step.r.did)) (sym is) (step_works w x step t h)

-- after any number of cycles, what was done and what lies ahead are within their bounds
pub Works-ran : {M : Type 0} (K : KindOf M) (laws : IsLawful K) (o : Origin) (given : Given) (k : ℕ) (w : World M) (ran : Ran K o given k w)
    → Works K o given.config.cuts w (tally_of K o given k w ran)
Works-ran {M = M} K laws o given zero w first =
    powered K laws o given.config.cuts w
    (subst (λ k. K.is_at (line o w) k w.machine w.device) (sym first.cycles) first.at_moment) first.powered first.empty
    (let none : w.cycles ≡ 0 = first.cycles in omega (arith, none))
Works-ran {M = M} K laws o given (suc k) w (before, ran, cycle) =
    by_due K laws o given.config.cuts before cycle.between w cycle.steps (tally_of K o given k before ran) (Works-ran K laws o given k before ran)
    (tear given.config.tears cycle.between.passed) (is_due K o given.config.cuts cycle.between) refl cycle.cut

-- ---- what was spent

image_spent : (count : ℕ) (d : Decoded) → (view_of_image count d).spent ≡ 0
image_spent count NothingLeft = refl
image_spent count (RefusedImage bad) = refl
image_spent count (At epoch state) = refl

module _ {M : Type 0} (K : KindOf M) where
  spent_by : (o : Origin) (w x next : World M) → TakesStep K o w x → (pick : ℕ) (b : Bool)
      → MatchBool b (IsCutOff K o pick x next) (next ≡ x) → (seen K o next).spent < K.most_spent o.geometry
  spent_by o w x next step pick true cut =
      let none : (seen K o next).spent ≡ 0 = ap (λ v. v.spent) cut.found ∙ image_spent o.start.count _ in
      let some : (seen K o x).spent < K.most_spent o.geometry = step.is_step.pace.spent in
      omega (arith, none, some)
  spent_by o w x next step pick false is = subst (λ (y : World M). (seen K o y).spent < K.most_spent o.geometry) (sym is) step.is_step.pace.spent

  spent-ran : (o : Origin) (given : Given) (k : ℕ) (w : World M) → Ran K o given k w → 0 < k
      → (seen K o w).spent < K.most_spent o.geometry
  spent-ran o given zero w first some = absurd (omega arith)
  spent-ran o given (suc k) w (before, ran, cycle) some =
      spent_by o before cycle.between w cycle.steps (tear given.config.tears cycle.between.passed)
      (is_due K o given.config.cuts cycle.between) cycle.cut

  -- ---- the laws

  -- every run is busy
  pub Busy-ran : IsLawful K → RunIsBusy K
  Busy-ran laws o given k w ran =
      let h = Works-ran K laws o given k w ran in
      let cycles : w.cycles ≡ k = cycles-ran K o given k w ran in
      let ahead : 1 ≤ K.ahead (line o w) w.machine w.device = laws.some_ahead (line o w) w.cycles w.machine w.device h.at_moment in
      record {
        paced = omega (arith, h.near, cycles, ahead);
        boots = h.boots;
        spent = spent-ran o given k w ran;
        drains = omega (arith, h.queued);
      }

  -- no cycle of a run rests
  pub NeverRests-ran : RunNeverRests K
  NeverRests-ran o w next step is =
      let core : CoreStep (line o next) (seen K o w) Nothing (seen K o next) =
      subst (λ d. CoreStep (line o next) (seen K o w) d (seen K o next)) is (core_of K o w next step) in
      let halted : is_halt (seen K o w).phase ≡ true = ap is_halt core.0 in
      let going : is_halt (seen K o w).phase ≡ false = step.going in
      cc
