-- Every run strides: the epochs that its events report are the machine's.
use Rattle.std.proofs.Common.{◌≡◌, ℕ, zero, suc, ◌+◌, ◌<◌, ◌≤◌, ◌==◌, Bool, true, false, ◌&&◌, if◌then◌else◌, List, [], ◌∷◌, ◌++◌, refl, sym, ◌∙◌, ap, subst, inl, inr, arith}
use Rattle.std.specs.Prelude.{MatchBool}
use Rattle.std.proofs.lemmas.Bool.{eq-eqb, eqb-true}
use Rattle.thy_layout.specs.Decoded.{Decoded, Nothing as NothingLeft, Refused as RefusedImage, At}
use Rattle.thy_block.specs.Device.{Device}
use Rattle.thy_block.proofs.BasicLemmas.{not_both}
use Rattle.thy_text.specs.Event.{Event, Cut, Reload, Ended}
use Rattle.thy_computer.specs.declared.did.Did.{Did}
use Rattle.thy_computer.specs.declared.view.View.{View}
use Rattle.thy_computer.specs.Booting.{found_first, view_of_image}
use Rattle.thy_computer.specs.Kind.{KindOf}
use Rattle.thy_computer.specs.Origin.{Origin, at}
use Rattle.thy_computer.specs.Pace.{Strides as KeepsIdle}
use Rattle.thy_computer.specs.Views.{is_boot, loads as is_loading, halts}
use Rattle.thy_run.specs.Strides.{Epoch, first_epoch, epoch_after, AllStride, IsStriding, RunStrides}
use Rattle.thy_run.specs.Unfinished.{ReportingFailed, AtStop}
use Rattle.thy_run.specs.World.{World, Given, line, seen, did_events, reload_events, end_events, events_of, TakesStep, is_due, IsCutOff, tear, Ran}
use Rattle.thy_run.specs.declared.ending.Stop.{Stop}
use Rattle.thy_run.specs.declared.ending.Stop.TheVariants.{Ended as EndedStop, Nvm, Memory, Terminal, Report, Limit}
use Rattle.thy_run.proofs.StepAlong.{core_of}
use Rattle.thy_run.proofs.StepKinds.{Kind, keeps, loads, restores, advances, seals, commits, kind_of}

-- ---- epochs and events

abbrev epoch_from : ℕ → Epoch → List Event → Epoch
epoch_from start e [] = e
epoch_from start e (v ∷ vs) = epoch_from start (epoch_after start e v) vs

epoch_from-append : (start : ℕ) (e : Epoch) (vs ws : List Event)
    → epoch_from start e (vs ++ ws) ≡ epoch_from start (epoch_from start e vs) ws
epoch_from-append start e [] ws = refl
epoch_from-append start e (v ∷ vs) ws = epoch_from-append start (epoch_after start e v) vs ws

AllStride-append : (start : ℕ) (e : Epoch) (vs ws : List Event) → AllStride start e vs → AllStride start (epoch_from start e vs) ws
    → AllStride start e (vs ++ ws)
AllStride-append start e [] ws all more = more
AllStride-append start e (v ∷ vs) ws all more = (all.0, AllStride-append start (epoch_after start e v) vs ws all.1 more)

pub AllStride-part : (start : ℕ) (e : Epoch) (vs ws : List Event) → AllStride start e (vs ++ ws) → AllStride start e vs
AllStride-part start e [] ws all = tt
AllStride-part start e (v ∷ vs) ws all = (all.0, AllStride-part start (epoch_after start e v) vs ws all.1)

-- events that stride, and the epoch that they leave
abbrev Leaves : ℕ → Epoch → List Event → Epoch → Type 0
Leaves start e vs after = AllStride start e vs × (epoch_from start e vs ≡ after)

leaves_append : (start : ℕ) (e f g : Epoch) (vs ws : List Event) → Leaves start e vs f → Leaves start f ws g → Leaves start e (vs ++ ws) g
leaves_append start e f g vs ws a b = (
  AllStride-append start e vs ws a.0 (subst (λ x. AllStride start x ws) (sym a.1) b.0),
  epoch_from-append start e vs ws ∙ ap (λ x. epoch_from start x ws) a.1 ∙ b.1,
)

leaves_reload : (start : ℕ) (e : Epoch) (b : Bool) → Leaves start e (if b then Reload ∷ [] else []) e
leaves_reload start e true = ((tt, tt), refl)
leaves_reload start e false = (tt, refl)

leaves_end : (o : Origin) (start : ℕ) (e : Epoch) (next : View) (cycle : ℕ) (b : Bool)
    → Leaves start e (if b then Ended (at o next.count).status next.count cycle (at o next.count) ∷ [] else []) e
leaves_end o start e next cycle true = ((tt, tt), refl)
leaves_end o start e next cycle false = (tt, refl)

-- all events of a cycle leave what the event of its deed leaves
leaves_all : (o : Origin) (start : ℕ) (e f : Epoch) (fresh : Bool) (v : View) (did : Did) (next : View) (cycle : ℕ)
    → Leaves start e (did_events o v did cycle) f
    → Leaves start e (events_of o fresh v did next cycle) f
leaves_all o start e f fresh v did next cycle l =
    leaves_append start e f f (reload_events fresh next ++ did_events o v did cycle) (end_events o v next cycle)
    (leaves_append start e e f (reload_events fresh next) (did_events o v did cycle) (leaves_reload start e (fresh && is_loading next)) l)
    (leaves_end o start f next cycle (halts v next))

-- ---- between two cycles

-- The epoch that events report is the one that a view has. If they say that the one before it was idle, the machine
-- knows it.
pub record KnowsEpoch (start : ℕ) (e : Epoch) (v : View) (known : Bool) : Type 0 where
  pub idle : e.idle ≡ true → known ≡ true
  pub boot : is_boot v.phase ≡ true → (v.retired ≡ 0) × (e.began ≡ start)
  pub up : is_boot v.phase ≡ false → e.began + v.retired ≡ v.count

-- what a step leaves
record KnowsEpochOn (o : Origin) (e : Epoch) (v next : View) (did : Did) (cycle : ℕ) (known : Bool) : Type 0 where
  after : Epoch
  leaves : Leaves o.start.count e (did_events o v did cycle) after
  reports : KnowsEpoch o.start.count after next known

module _ (o : Origin) (e : Epoch) (v next : View) (did : Did) (cycle : ℕ) where
  -- events that say nothing of epochs
  reports_same : (known : Bool) → Leaves o.start.count e (did_events o v did cycle) e → KnowsEpoch o.start.count e next known
      → KnowsEpochOn o e v next did cycle known
  reports_same known l t = record { after = e; leaves = l; reports = t }

  reports_step : (old new : Bool) → Kind o v next did → KeepsIdle did v.retired old new → KnowsEpoch o.start.count e v old
      → KnowsEpochOn o e v next did cycle new
  reports_step old new (keeps k) step h =
      let same : new ≡ old = k.idle v.retired old new step in
      reports_same new (subst (λ (l : List Event). Leaves o.start.count e l e) (sym (k.nothing_reported cycle)) (tt, refl))
      (record {
        idle = λ i. same ∙ h.idle i;
        boot = λ b. let here = h.boot (ap is_boot (sym k.phase) ∙ b) in (k.retired ∙ here.0, here.1);
        up = λ b. let here = h.up (ap is_boot (sym k.phase) ∙ b) in omega (arith, here, k.retired, k.count);
      })
  reports_step old new (loads k) step h =
      let here = h.boot (ap is_boot k.boot) in
      let same : new ≡ old = subst (λ d. KeepsIdle d v.retired old new) k.did_is step in
      reports_same new (subst (λ d. Leaves o.start.count e (did_events o v d cycle) e) (sym k.did_is) ((tt, tt), refl))
      (record {
        idle = λ i. same ∙ h.idle i;
        boot = λ b. not_both _ b k.up;
        up = λ b. omega (arith, here.0, here.1, k.retired, k.count);
      })
  reports_step old new (restores k) step h =
      record {
        after = first_epoch k.to;
        leaves = subst (λ d. Leaves o.start.count e (did_events o v d cycle) (first_epoch k.to)) (sym k.did_is) ((tt, tt), refl);
        reports = record {
          idle = λ i. absurd (cc);
          boot = λ b. not_both _ b k.up;
          up = λ b. omega (arith, k.retired, k.count);
        };
      }
  reports_step old new (advances k) step h =
      let here = h.up (ap is_boot k.runs) in
      let same : new ≡ old = subst (λ d. KeepsIdle d v.retired old new) k.did_is step in
      reports_same new (subst (λ d. Leaves o.start.count e (did_events o v d cycle) e) (sym k.did_is) (tt, refl))
      (record {
        idle = λ i. same ∙ h.idle i;
        boot = λ b. not_both _ b k.up;
        up = λ b. omega (arith, here, k.retired, k.count);
      })
  reports_step old new (seals k) step h =
      let here = h.up (ap is_boot k.runs) in
      let known : (old ≡ true → 1 ≤ v.retired) × (new ≡ (v.retired == 0)) = subst (λ d. KeepsIdle d v.retired old new) k.did_is step in
      let after : Epoch = record { began = v.count; idle = v.count == e.began } in
      let strides : e.idle ≡ true → e.began < v.count = λ i. (let some : 1 ≤ v.retired = known.0 (h.idle i) in omega (arith, some, here)) in
      record {
        after = after;
        leaves = subst (λ d. Leaves o.start.count e (did_events o v d cycle) after) (sym k.did_is) ((strides, tt), refl);
        reports = record {
          idle = λ i.
              let same : v.count ≡ e.began = eqb-true v.count e.began i in
              known.1 ∙ eq-eqb v.retired 0 (omega (arith, same, here));
          boot = λ b. not_both _ b k.up;
          up = λ b. omega (arith, k.retired, k.count);
        };
      }
  reports_step old new (commits k) step h =
      let here = h.up (ap is_boot k.runs) in
      let same : new ≡ old = subst (λ d. KeepsIdle d v.retired old new) k.did_is step in
      reports_same new (subst (λ d. Leaves o.start.count e (did_events o v d cycle) e) (sym k.did_is) ((tt, tt), refl))
      (record {
        idle = λ i. same ∙ h.idle i;
        boot = λ b. not_both _ b k.up;
        up = λ b. omega (arith, here, k.retired, k.count);
      })

-- in a boot nothing was reported of the epoch yet
knows_boot : (start : ℕ) (v : View) (known : Bool) → is_boot v.phase ≡ true → v.retired ≡ 0 → KnowsEpoch start (first_epoch start) v known
knows_boot start v known boot none = record { idle = λ i. absurd (cc); boot = λ b. (none, refl); up = λ b. not_both _ boot b }

image_boot : (count : ℕ) (d : Decoded) → (is_boot (view_of_image count d).phase ≡ true) × ((view_of_image count d).retired ≡ 0)
image_boot count NothingLeft = (refl, refl)
image_boot count (RefusedImage bad) = (refl, refl)
image_boot count (At epoch state) = (refl, refl)

-- ---- runs

-- the events of a run so far stride, and the machine is in the epoch that they report
pub record Strode {M : Type 0} (K : KindOf M) (o : Origin) (w : World M) : Type 0 where
  pub all : AllStride o.start.count (first_epoch o.start.count) w.events
  pub reports : KnowsEpoch o.start.count (epoch_from o.start.count (first_epoch o.start.count) w.events) (seen K o w)
      (K.gauge w.machine w.device).idle

module _ {M : Type 0} (K : KindOf M) (o : Origin) where
  abbrev first : Epoch
  first = first_epoch o.start.count

  -- the events stride after one more step
  pub strode_step : (w x : World M) → TakesStep K o w x → Strode K o w → Strode K o x
  strode_step w x step h =
      let v : View = seen K o w in
      let next : View = seen K o x in
      let did : Did = step.r.did in
      let e : Epoch = epoch_from o.start.count first w.events in
      let es : List Event = events_of (line o x) w.fresh v did next (w.cycles + 1) in
      let idle : KeepsIdle did v.retired (K.gauge w.machine w.device).idle (K.gauge x.machine x.device).idle =
      subst (λ (y : View). KeepsIdle did y.retired (K.gauge w.machine w.device).idle (K.gauge x.machine x.device).idle) step.alike
      step.is_step.pace.strides in
      let on : KnowsEpochOn (line o x) e v next did (w.cycles + 1) (K.gauge x.machine x.device).idle =
      reports_step (line o x) e v next did (w.cycles + 1) _ _ (kind_of (line o x) v next did (core_of K o w x step)) idle h.reports in
      let l : Leaves o.start.count e es on.after = leaves_all (line o x) o.start.count e on.after w.fresh v did next (w.cycles + 1) on.leaves in
      let all : AllStride o.start.count first (w.events ++ es) = AllStride-append o.start.count first w.events es h.all l.0 in
      let here : epoch_from o.start.count first (w.events ++ es) ≡ on.after = epoch_from-append o.start.count first w.events es ∙ l.1 in
      let did_events : x.events ≡ w.events ++ es = ap (λ (y : World M). y.events) step.next_is in
      record {
        all = subst (AllStride o.start.count first) (sym did_events) all;
        reports = subst (λ t. KnowsEpoch o.start.count t next (K.gauge x.machine x.device).idle)
            (sym (ap (epoch_from o.start.count first) did_events ∙ here)) on.reports;
      }

  -- the events stride after a cut
  strode_cut : (pick : ℕ) (x next : World M) → IsCutOff K o pick x next → Strode K o x → Strode K o next
  strode_cut pick x next cut h =
      let es : List Event = Cut (x.passed + 1) x.cycles ∷ [] in
      let did_events : next.events ≡ x.events ++ es = ap (λ (y : World M). y.events) cut.next_is in
      let here : epoch_from o.start.count first (x.events ++ es) ≡ first = epoch_from-append o.start.count first x.events es in
      let boot = image_boot o.start.count _ in
      record {
        all = subst (AllStride o.start.count first) (sym did_events) (AllStride-append o.start.count first x.events es h.all (tt, tt));
        reports = subst (λ e. KnowsEpoch o.start.count e (seen K o next) (K.gauge next.machine next.device).idle)
            (sym (ap (epoch_from o.start.count first) did_events ∙ here))
            (knows_boot o.start.count (seen K o next) _ (ap (λ v. is_boot v.phase) cut.found ∙ boot.0) (ap (λ v. v.retired) cut.found ∙ boot.1));
      }

  by_due : (w x next : World M) → TakesStep K o w x → Strode K o w → (pick : ℕ) (b : Bool)
      → MatchBool b (IsCutOff K o pick x next) (next ≡ x) → Strode K o next
  by_due w x next step h pick true cut = strode_cut pick x next cut (strode_step w x step h)
  by_due w x next step h pick false is = subst (Strode K o) (sym is) (strode_step w x step h)

  pub strode_ran : (given : Given) (k : ℕ) (w : World M) → Ran K o given k w → Strode K o w
  strode_ran given zero w start = let boot = image_boot o.start.count (found_first o o.kept) in record {
    all = subst (AllStride o.start.count first) (sym start.events) tt;
    reports = subst (λ e. KnowsEpoch o.start.count e (seen K o w) (K.gauge w.machine w.device).idle)
        (sym (ap (epoch_from o.start.count first) start.events))
        (knows_boot o.start.count (seen K o w) _ (ap (λ v. is_boot v.phase) start.found ∙ boot.0) (ap (λ v. v.retired) start.found ∙ boot.1));
  }
  strode_ran given (suc k) w (before, ran, cycle) =
      by_due before cycle.between w cycle.steps (strode_ran given k before ran) (tear given.config.tears cycle.between.passed)
      (is_due K o given.config.cuts cycle.between) cycle.cut

  -- only the first events of a step were made
  strode_reporting : (w : World M) (events : List Event) (Why : World M → List Event → Type 0) → Strode K o w
      → ReportingFailed K o w events Why → IsStriding o.start.count events
  strode_reporting w events Why h t =
      AllStride-part o.start.count first events t.rest (subst (AllStride o.start.count first) t.split (strode_step w t.next t.steps h).all)

  strode_last : (w : World M) (events : List Event) → Strode K o w → events ≡ w.events → IsStriding o.start.count events
  strode_last w events h same = subst (AllStride o.start.count first) (sym same) h.all

  strode_stop : (cuts : List ℕ) (w : World M) (events : List Event) (n : Device) (stop : Stop) → Strode K o w
      → AtStop K o cuts w events n stop → IsStriding o.start.count events
  strode_stop cuts w events n (EndedStop status) h is = strode_last w events h is.0
  strode_stop cuts w events n Nvm h (inl f) = strode_last w events h f.nothing_reported
  strode_stop cuts w events n Nvm h (inr t) = strode_reporting w events _ h t
  strode_stop cuts w events n Memory h (inl none) = strode_last w events h none.1.0
  strode_stop cuts w events n Memory h (inr t) = strode_reporting w events _ h t
  strode_stop cuts w events n Terminal h is = strode_last w events h is.0
  strode_stop cuts w events n Report h is = strode_last w events h is.0
  strode_stop cuts w events n Limit h is = strode_last w events h is.0

-- every run strides
pub Strides-stopped : {M : Type 0} (K : KindOf M) → RunStrides K
Strides-stopped K o given cycles events n stop s =
    strode_stop K o given.config.cuts s.last events n stop (strode_ran K o given cycles s.last s.ran) s.at_stop
