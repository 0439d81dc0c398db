-- Every run of one hart is soon over: its counts stay between the count of the start and the count of the program's end.
use Rattle.std.proofs.Common.{◌≡◌, ℕ, zero, suc, ◌+◌, ◌≤◌, Bool, true, false, if◌then◌else◌, List, [], Option, Some, None, refl, sym, ◌∙◌, ap, subst, inl, inr, arith}
use Rattle.std.specs.Prelude.{◌≢◌, MatchBool}
use Rattle.std.proofs.Math.Nat.{mul-le-mul_left}
use Rattle.thy_block.specs.declared.mark.Mark.{Mark}
use Rattle.thy_layout.specs.Decoded.{Decoded, Nothing as NothingLeft, Refused as RefusedImage, At}
use Rattle.thy_computer.specs.declared.did.Did.{Did}
use Rattle.thy_computer.specs.declared.view.View.{View}
use Rattle.thy_computer.specs.Booting.{found_first, loading_view, view_of_image}
use Rattle.thy_computer.specs.CoreStep.{CoreStep}
use Rattle.thy_computer.specs.Kind.{KindOf, IsLawful}
use Rattle.thy_computer.specs.Origin.{Origin, runs_at}
use Rattle.thy_computer.specs.Pace.{retires}
use Rattle.thy_computer.specs.Safe.{IsOneOf}
use Rattle.thy_computer.specs.WithTurns.{with_turns}
use Rattle.thy_block.specs.Marks.{mark}
use Rattle.thy_block.proofs.BasicLemmas.{not_both}
use Rattle.thy_computer.specs.Views.{is_boot, doubt_of}
use Rattle.thy_run.specs.Progress.{RunIsSoonOver, Tally, nothing_done, counted, tally_of}
use Rattle.thy_run.specs.World.{World, Given, seen, TakesStep, is_due, IsCutOff, tear, Ran}
use Rattle.thy_run.proofs.StepKinds.{Kind, keeps, loads, restores, advances, seals, commits, kind_of}
use Rattle.thy_run.proofs.BusyLaws.{Busy-ran}
use Rattle.thy_run.proofs.StepAlong.{core_of}
use Rattle.thy_run.proofs.TurnListLaws.{one_after}
use Rattle.thy_run.proofs.WorldLaws.{unlisted-ran}

-- ---- counts

-- a count from the start on, up to the end
abbrev IsBetween : Origin → ℕ → ℕ → Type 0
IsBetween o end count = (o.start.count ≤ count) × (count ≤ end)

-- all counts of a view are between these, and after the boot at least this many instructions are done
pub record Counts (o : Origin) (end done : ℕ) (v : View) : Type 0 where
  pub kept : (m : Mark) → v.done ≡ Some m → IsBetween o end m.count
  pub sealed : (m : Mark) → v.sealed ≡ Some m → IsBetween o end m.count
  pub boot : is_boot v.phase ≡ true → done ≡ 0
  pub up : is_boot v.phase ≡ false → (o.start.count + done ≤ v.count) × (v.count ≤ end)

no_mark : (o : Origin) (end : ℕ) (x : Option Mark) → x ≡ None → (m : Mark) → x ≡ Some m → IsBetween o end m.count
no_mark o end x none m e = absurd (cc)

one_mark : (o : Origin) (end epoch count : ℕ) (x : Option Mark) → x ≡ Some (mark epoch count) → IsBetween o end count → (m : Mark)
    → x ≡ Some m → IsBetween o end m.count
one_mark o end epoch count x is between m e =
    let same : mark epoch count ≡ m = cc in
    subst (λ (n : Mark). IsBetween o end n.count) same between

counts_step : (o : Origin) (end done : ℕ) (v next : View) (did : Did) → o.start.count ≤ end → runs_at (with_turns o []) end ≡ false
    → Kind (with_turns o []) v next did → Counts o end done v
    → Counts o end (done + retires did) next
counts_step o end done v next did some over (keeps k) h = record {
  kept = λ m e. h.kept m (sym k.done ∙ e);
  sealed = λ m e. h.sealed m (sym k.sealed ∙ e);
  boot = λ e. let none : done ≡ 0 = h.boot (ap is_boot (sym k.phase) ∙ e) in omega (arith, none, k.none);
  up = λ e. let here = h.up (ap is_boot (sym k.phase) ∙ e) in (omega (arith, here.0, k.none, k.count), omega (arith, here.1, k.count));
}
counts_step o end done v next did some over (loads k) h = record {
  kept = λ m e. h.sealed m (sym k.done ∙ e);
  sealed = no_mark o end next.sealed k.sealed;
  boot = λ e. not_both _ e k.up;
  up = λ e.
      let none : done ≡ 0 = h.boot (ap is_boot k.boot) in
      let no_more : retires did ≡ 0 = ap retires k.did_is in
      (omega (arith, none, no_more, k.count), omega (arith, k.count, some));
}
counts_step o end done v next did some over (restores k) h = record {
  kept = λ m e. h.kept m (sym k.done ∙ e);
  sealed = λ m e. h.sealed m (sym k.sealed ∙ e);
  boot = λ e. not_both _ e k.up;
  up = λ e.
      let none : done ≡ 0 = h.boot (ap is_boot k.boot) in
      let no_more : retires did ≡ 0 = ap retires k.did_is in
      let here = h.kept (mark k.epoch k.to) k.kept in
      (omega (arith, none, no_more, k.count, here.0), omega (arith, k.count, here.1));
}
counts_step o end done v next did some over (advances k) h = record {
  kept = λ m e. h.kept m (sym k.done ∙ e);
  sealed = λ m e. h.sealed m (sym k.sealed ∙ e);
  boot = λ e. not_both _ e k.up;
  up = λ e.
      let here = h.up (ap is_boot k.runs) in
      let one_more : retires did ≡ 1 = ap retires k.did_is in
      let before : v.count ≢ end = λ same. not_both (runs_at (with_turns o []) v.count) k.going (ap (runs_at (with_turns o [])) same ∙ over) in
      (omega (arith, here.0, one_more, k.count), omega (arith, here.1, before, k.count));
}
counts_step o end done v next did some over (seals k) h =
    let here = h.up (ap is_boot k.runs) in
    let no_more : retires did ≡ 0 = ap retires k.did_is in
    record {
      kept = λ m e. h.kept m (sym k.done ∙ e);
      sealed = one_mark o end k.epoch v.count next.sealed k.sealed (omega (arith, here.0), here.1);
      boot = λ e. not_both _ e k.up;
      up = λ e. (omega (arith, here.0, no_more, k.count), omega (arith, here.1, k.count));
    }
counts_step o end done v next did some over (commits k) h =
    let here = h.up (ap is_boot k.runs) in
    let no_more : retires did ≡ 0 = ap retires k.did_is in
    record {
      kept = λ m e. h.sealed m (sym k.done ∙ e);
      sealed = no_mark o end next.sealed k.sealed;
      boot = λ e. not_both _ e k.up;
      up = λ e. (omega (arith, here.0, no_more, k.count), omega (arith, here.1, k.count));
    }

-- ---- a power cut

doubt_sealed : (written : Bool) (sealed : Option Mark) (m : Mark) → (if written then sealed else None) ≡ Some m → sealed ≡ Some m
doubt_sealed true sealed m e = e
doubt_sealed false sealed m e = absurd (cc)

counts_loading : (o : Origin) (end : ℕ) → o.start.count ≤ end → Counts o end 0 (loading_view o.start.count)
counts_loading o end some = record {
  kept = no_mark o end None refl;
  sealed = one_mark o end 0 o.start.count (Some (mark 0 o.start.count)) refl (omega arith, some);
  boot = λ e. refl;
  up = λ e. absurd (cc);
}

-- a run begins with nothing, or with the checkpoint of its start
counts_first : (o : Origin) (end : ℕ) (kept : Option Mark) → o.start.count ≤ end
    → Counts o end 0 (view_of_image o.start.count (found_first o kept))
counts_first o end None some = counts_loading o end some
counts_first o end (Some m) some = record {
  kept = one_mark o end m.epoch o.start.count (Some (mark m.epoch o.start.count)) refl (omega arith, some);
  sealed = no_mark o end None refl;
  boot = λ e. refl;
  up = λ e. absurd (cc);
}

-- what the image means is one of the two marks
counts_image : (o : Origin) (t : List ℕ) (end done : ℕ) (v : View) (d : Decoded) → o.start.count ≤ end → Counts o end done v
    → IsOneOf (with_turns o t) v.done (doubt_of v) d
    → Counts o end 0 (view_of_image o.start.count d)
counts_image o t end done v NothingLeft some h one = counts_loading o end some
counts_image o t end done v (RefusedImage bad) some h one = absurd one
counts_image o t end done v (At epoch state) some h one =
    let between : IsBetween o end state.count = elim one.0 as (λ _. IsBetween o end state.count) [
      | inl kept ↦ h.kept (mark epoch state.count) kept
      | inr doubt ↦ h.sealed (mark epoch state.count) (doubt_sealed v.written v.sealed (mark epoch state.count) doubt)
    ] in
    record {
      kept = one_mark o end epoch state.count (Some (mark epoch state.count)) refl between;
      sealed = no_mark o end None refl;
      boot = λ e. refl;
      up = λ e. absurd (cc);
    }

-- ---- runs

module _ {M : Type 0} (K : KindOf M) (o : Origin) (given : Given) (end : ℕ) (one : o.geometry.harts ≡ 1) (some : o.start.count ≤ end)
    (over : runs_at (with_turns o []) end ≡ false) where
  -- with no turn reported a step goes along none
  counts_stepped : (w x : World M) (step : TakesStep K o w x) (done : ℕ) → x.turns ≡ [] → Counts o end done (seen K o w)
      → Counts o end (done + retires step.r.did) (seen K o x)
  counts_stepped w x step done none h =
      let core : CoreStep (with_turns o []) (seen K o w) step.r.did (seen K o x) =
      subst (λ (t : List ℕ). CoreStep (with_turns o t) (seen K o w) step.r.did (seen K o x)) none (core_of K o w x step) in
      counts_step o end done (seen K o w) (seen K o x) step.r.did some over (kind_of (with_turns o []) (seen K o w) (seen K o x) step.r.did core) h

  by_due : (w x next : World M) (step : TakesStep K o w x) (t : Tally) → x.turns ≡ [] → Counts o end t.retired (seen K o w)
      → (pick : ℕ) (b : Bool)
      → MatchBool b (IsCutOff K o pick x next) (next ≡ x)
      → Counts o end (if b then nothing_done else counted t (is_boot (seen K o w).phase) step.r.did).retired (seen K o next)
  by_due w x next step t none h pick true cut =
      let stepped = counts_stepped w x step t.retired none h in
      subst (Counts o end 0) (sym cut.found)
      (counts_image o x.turns end _ (seen K o x) _ some stepped (step.is_step.safe next.device.image cut.cut.crash))
  by_due w x next step t none h pick false is =
      let stepped = counts_stepped w x step t.retired none h in
      subst (λ (y : World M). Counts o end (t.retired + retires step.r.did) (seen K o y)) (sym is) stepped

  counts_ran : (k : ℕ) (w : World M) (ran : Ran K o given k w) → Counts o end (tally_of K o given k w ran).retired (seen K o w)
  counts_ran zero w first = subst (Counts o end 0) (sym first.found) (counts_first o end o.kept some)
  counts_ran (suc k) w (before, ran, cycle) =
      by_due before cycle.between w cycle.steps (tally_of K o given k before ran)
      (cycle.steps.turns_are ∙ one_after o.geometry.harts before.turns cycle.steps.r.did one ∙ unlisted-ran K o given k before one ran)
      (counts_ran k before ran) (tear given.config.tears cycle.between.passed) (is_due K o given.config.cuts cycle.between) cycle.cut

  -- no more instructions are done than the program has
  few_done : (k : ℕ) (w : World M) (ran : Ran K o given k w) → o.start.count + (tally_of K o given k w ran).retired ≤ end
  few_done k w ran = by_phase (is_boot (seen K o w).phase) refl
    where
      by_phase : (b : Bool) → is_boot (seen K o w).phase ≡ b → o.start.count + (tally_of K o given k w ran).retired ≤ end
      by_phase true e = let none : (tally_of K o given k w ran).retired ≡ 0 = (counts_ran k w ran).boot e in omega (arith, none, some)
      by_phase false e = let here = (counts_ran k w ran).up e in omega (arith, here.0, here.1)

-- every run of one hart is soon over
pub SoonOver-ran : {M : Type 0} (K : KindOf M) → IsLawful K → RunIsSoonOver K
SoonOver-ran K laws o given cycles w ran k one over =
    let t : Tally = tally_of K o given cycles w ran in
    let few : t.retired ≤ k = (let all = few_done K o given (o.start.count + k) one (omega arith) over cycles w ran in omega (arith, all)) in
    let each : ℕ = K.most_each o.geometry in
    omega (arith, (Busy-ran K laws o given cycles w ran).paced, mul-le-mul_left each few)
