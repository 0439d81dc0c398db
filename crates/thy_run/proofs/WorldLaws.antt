-- What holds of a run between two cycles, and that one more cycle keeps it.
use Rattle.std.proofs.Common.{◌≡◌, ◌⊎◌, ℕ, zero, suc, ◌+◌, ◌-◌, ◌≤◌, Bool, true, false, ◌&&◌, ◌||◌, ◌==◌, not, nat_lt, if◌then◌else◌, Option, Some, None, List, [], ◌∷◌, ◌++◌, length, take, refl, sym, ◌∙◌, ap, subst, inl, inr, append-nil, length-append, arith}
use Rattle.std.specs.Prelude.{slice_index, MatchBool}
use Rattle.std.proofs.lemmas.Bool.{or_from, eq-eqb, eqb-true, ltb-true, lt-ltb}
use Rattle.std.proofs.lemmas.List.{take_all}
use Rattle.std.proofs.lemmas.List.Folds.{list_any-append}
use Rattle.thy_block.specs.declared.block.Block.{Block}
use Rattle.thy_block.specs.declared.mark.Mark.{Mark}
use Rattle.thy_base.specs.Config.{IsRising}
use Rattle.thy_block.specs.Device.{Device, Crash, IsCut, cut_to}
use Rattle.thy_block.proofs.CrashLemmas.{Crash-cut_to}
use Rattle.thy_layout.specs.Decoded.{Decoded, Nothing as NothingLeft, Refused as RefusedImage, At}
use Rattle.thy_computer.specs.Kind.{KindOf}
use Rattle.thy_text.specs.Event.{Event, Cut, Reload, Ended}
use Rattle.thy_text.specs.Marks.{Marks, marks_from, AllLawful}
use Rattle.thy_text.proofs.Histories.{marks_from-append, AllLawful-append}
use Rattle.thy_computer.specs.declared.did.Did.{Did}
use Rattle.thy_computer.specs.declared.did.Did.TheVariants.{Boot, Loaded, Restarted, Refused, Moved, Retired, Flushed, Merged, Sealed, Promoted, Engine, Committed, NvmDrained, DramDrained, Nothing}
use Rattle.thy_computer.specs.declared.view.Phase.TheVariants.{Boot as BootPhase}
use Rattle.thy_computer.specs.declared.view.View.{View}
use Rattle.thy_computer.specs.Booting.{found_first, first_view, view_of_image}
use Rattle.thy_block.specs.Marks.{mark}
use Rattle.thy_computer.specs.Views.{is_boot, is_halt, loads, halts, doubt_of}
use Rattle.thy_computer.specs.CoreStep.{CoreStep}
use Rattle.thy_computer.specs.Origin.{Origin, at}
use Rattle.thy_computer.specs.Pace.{retires}
use Rattle.thy_computer.specs.Safe.{ceiling, Safe, IsOneOf}
use Rattle.thy_computer.specs.WithTurns.{with_turns, AgreeBelow, reach}
use Rattle.thy_computer.proofs.TurnLaws.{at-early}
use Rattle.thy_run.specs.Cuts.{is_end, has_ended, cuts_among, numbered, last_cuttable, cuts_up_to}
use Rattle.thy_run.specs.Going.{HasItsTurns}
use Rattle.thy_run.specs.Images.{Found, found, AllFit}
use Rattle.thy_run.specs.Laws.{course_of, marks_at, first_marks, marks_of, found_at_start, MayStand, IsSafe}
use Rattle.thy_run.specs.World.{World, line, seen, did_events, reload_events, end_events, events_of, after_step, TakesStep, is_due, cut_off, IsCutOff, tear, Cycle, Given, IsFirst, Ran}
use Rattle.thy_run.proofs.Fitting.{Fits}
use Rattle.thy_run.proofs.CutLaws.{leaves_one, IsSafe-by, IsSafe-fits, cut_below, fits_cut, leads_cut, found_cut}
use Rattle.thy_run.proofs.EventLaws.{Fits-events}
use Rattle.thy_run.proofs.ImageLaws.{IsFound, ImagesFit, AllFit-events}
use Rattle.thy_run.proofs.Leading.{LeadsTo, Leads, none_listed, start_leads}
use Rattle.thy_run.proofs.LeadingLaws.{Leads-events, Lawful-events}
use Rattle.thy_run.proofs.AgreeingTurnsLaws.{late_of, fits_with_turns, leads_with_turns, images_with_turns}
use Rattle.thy_run.proofs.StepAlong.{core_of, listed_after}
use Rattle.thy_run.proofs.TurnListLaws.{one_after, after_same, kept_agrees, kept_listed}
use Rattle.thy_run.proofs.ImageLemmas.{AllFit-append}
use Rattle.thy_run.proofs.ListedLemmas.{next_cut, cuts_among-append, numbered-take, up_none}
use Rattle.thy_run.proofs.StepFrames.{TakesStep-framed}

-- ---- the events of a step are neither cuts nor, unless it halts, an end

pub report_is_uncut : (o : Origin) (v : View) (did : Did) (cycle : ℕ)
    → (cuts_among (did_events o v did cycle) ≡ []) × (has_ended (did_events o v did cycle) ≡ false)
report_is_uncut o v Boot cycle = (refl, refl)
report_is_uncut o v Loaded cycle = (refl, refl)
report_is_uncut o v (Restarted epoch count) cycle = (refl, refl)
report_is_uncut o v (Refused bad) cycle = (refl, refl)
report_is_uncut o v Moved cycle = (refl, refl)
report_is_uncut o v (Retired hart) cycle = (refl, refl)
report_is_uncut o v Flushed cycle = (refl, refl)
report_is_uncut o v Merged cycle = (refl, refl)
report_is_uncut o v Promoted cycle = (refl, refl)
report_is_uncut o v (Sealed epoch count cause) cycle = (refl, refl)
report_is_uncut o v (Engine step) cycle = (refl, refl)
report_is_uncut o v (Committed epoch overlapped) cycle = (refl, refl)
report_is_uncut o v NvmDrained cycle = (refl, refl)
report_is_uncut o v DramDrained cycle = (refl, refl)
report_is_uncut o v Nothing cycle = (refl, refl)

pub reload_uncut : (b : Bool) → (cuts_among (if b then Reload ∷ [] else []) ≡ []) × (has_ended (if b then Reload ∷ [] else []) ≡ false)
reload_uncut true = (refl, refl)
reload_uncut false = (refl, refl)

end_uncut : (o : Origin) (next : View) (cycle : ℕ) (b : Bool)
    → (cuts_among (if b then Ended (at o next.count).status next.count cycle (at o next.count) ∷ [] else []) ≡ [])
    × (has_ended (if b then Ended (at o next.count).status next.count cycle (at o next.count) ∷ [] else []) ≡ b)
end_uncut o next cycle true = (refl, refl)
end_uncut o next cycle false = (refl, refl)

module _ (o : Origin) (fresh : Bool) (v : View) (did : Did) (next : View) (cycle : ℕ) where
  pub events_uncut : cuts_among (events_of o fresh v did next cycle) ≡ []
  events_uncut =
      cuts_among-append (reload_events fresh next ++ did_events o v did cycle) (end_events o v next cycle)
      ∙ ap (λ (l : List Event). l ++ cuts_among (end_events o v next cycle)) (cuts_among-append (reload_events fresh next) (did_events o v did cycle)
      ∙ ap (λ (l : List Event). l ++ cuts_among (did_events o v did cycle)) (reload_uncut (fresh && loads next)).0
      ∙ (report_is_uncut o v did cycle).0)
      ∙ (end_uncut o next cycle (halts v next)).0

  pub events_end : has_ended (events_of o fresh v did next cycle) ≡ halts v next
  events_end =
      list_any-append is_end (reload_events fresh next ++ did_events o v did cycle) (end_events o v next cycle)
      ∙ ap (λ b. b || has_ended (end_events o v next cycle)) (list_any-append is_end (reload_events fresh next) (did_events o v did cycle)
      ∙ or_from (has_ended (reload_events fresh next)) (has_ended (did_events o v did cycle)) (reload_uncut (fresh && loads next)).1
      (report_is_uncut o v did cycle).1)
      ∙ (end_uncut o next cycle (halts v next)).1

-- ---- between two cycles

-- what holds whatever the cuts are
pub record Coheres {M : Type 0} (K : KindOf M) (o : Origin) (w : World M) : Type 0 where
  pub at_moment : K.is_at (line o w) w.cycles w.machine w.device
  pub listed_all : HasItsTurns (line o w) (seen K o w)
  pub fits : Fits (line o w) (seen K o w) (marks_of o w.events)
  pub leads : Leads (line o w) (seen K o w) (marks_of o w.events)
  pub lawful : AllLawful (course_of o) (first_marks o) w.events
  pub safe : IsSafe K.decode o (marks_of o w.events) w.device
  pub each : AllFit (K.decode o.geometry ceiling) (ImagesFit (line o w) w.cycles w.fresh (seen K o w))
      (found_at_start o) w.events w.device.left
  pub left : length w.device.left ≡ w.passed
  pub ended : has_ended w.events ≡ is_halt (seen K o w).phase
  pub queue : w.fresh ≡ true → w.device.queue ≡ []

-- the cuts that have fallen are the listed ones up to a cycle
pub record Listed {M : Type 0} (cuts : List ℕ) (cycle : ℕ) (w : World M) : Type 0 where
  pub few : w.passed ≤ length cuts
  pub up_to : cuts_up_to cycle cuts ≡ take w.passed cuts
  pub among : cuts_among w.events ≡ numbered 1 (take w.passed cuts)

pub record Good {M : Type 0} (K : KindOf M) (o : Origin) (cuts : List ℕ) (w : World M) : Type 0 where
  pub stands : Coheres K o w
  pub listed : Listed cuts (last_cuttable w.events w.cycles) w

-- ---- a step

and_true : (b : Bool) → (true && b) ≡ b
and_true true = refl
and_true false = refl

module _ {M : Type 0} (K : KindOf M) (o : Origin) (w : World M) (least : 1 ≤ o.geometry.epoch) (h : Coheres K o w) where
  -- what held before a step holds along the turns that are reported once it is done
  pub fits_before : (x : World M) → TakesStep K o w x → Fits (line o x) (seen K o w) (marks_of o w.events)
  fits_before x step = fits_with_turns (line o w) x.turns (seen K o w) (marks_of o w.events) step.agree h.fits

  pub leads_before : (x : World M) → TakesStep K o w x → Leads (line o x) (seen K o w) (marks_of o w.events)
  leads_before x step = leads_with_turns (line o w) x.turns (seen K o w) (marks_of o w.events) step.agree h.fits h.leads

  -- a step that retires nothing leaves the turns
  pub reported_before : (x : World M) (step : TakesStep K o w x) → retires step.r.did ≡ 0 → HasItsTurns (line o x) (seen K o w)
  reported_before x step none =
      subst (λ (t : List ℕ). HasItsTurns (with_turns o t) (seen K o w))
      (sym (step.turns_are ∙ after_same o.geometry.harts w.turns step.r.did none)) h.listed_all

  -- the world after a step, given as the definition has it
  stepped_coheres : (x : World M) (step : TakesStep K o w x) → Coheres K o (after_step K o w x.machine x.device x.turns step.r.did)
  stepped_coheres x step =
      let next : View = seen K o x in
      let v : View = seen K o w in
      let did : Did = step.r.did in
      let m : Marks = marks_of o w.events in
      let e : List Event = events_of (line o x) w.fresh v did next (w.cycles + 1) in
      let core : CoreStep (line o x) v did next = core_of K o w x step in
      let before : Fits (line o x) v m = fits_before x step in
      let leads : Leads (line o x) v m = leads_before x step in
      let marks : marks_of o (w.events ++ e) ≡ marks_from o.start.count m e = marks_from-append o.start.count (first_marks o) w.events e in
      let fits : Fits (line o x) next (marks_of o (w.events ++ e))
      = subst (Fits (line o x) next) (sym marks) (Fits-events (line o x) v next m did w.fresh (w.cycles + 1) least before core) in
      let on : Leads (line o x) next (marks_of o (w.events ++ e))
      = subst (Leads (line o x) next) (sym marks)
      (Leads-events (line o x) v next m did w.fresh (w.cycles + 1) least before leads (reported_before x step) core) in
      let read : List Block → Decoded = K.decode o.geometry ceiling in
      let now : Found → Type 0 = ImagesFit (line o x) (w.cycles + 1) false next in
      let left : x.device.left ≡ w.device.left = (TakesStep-framed K o w x step).left in
      record {
        at_moment = step.is_step.at_next;
        listed_all = listed_after K o w x step (late_of (line o w) (seen K o w) (marks_of o w.events) h.fits h.leads) h.listed_all;
        fits = fits;
        leads = on;
        lawful = AllLawful-append (course_of o) (first_marks o) w.events e h.lawful
            (Lawful-events (line o x) v next m did w.fresh (w.cycles + 1) least before leads (reported_before x step) core);
        safe = IsSafe-fits K.decode (line o x) next (marks_of o (w.events ++ e)) x.device fits on step.is_step.safe;
        each = subst (AllFit read now (found_at_start o) (w.events ++ e)) (append-nil w.device.left ∙ sym left)
            (AllFit-append read (ImagesFit (line o w) w.cycles w.fresh v) now (found_at_start o) w.events e w.device.left []
            (λ t f. AllFit-events read (line o x) w.cycles w.fresh v next t
            (images_with_turns (line o w) x.turns w.cycles w.fresh v t step.agree f) did (w.cycles + 1) core)
            h.each);
        left = ap length left ∙ h.left;
        ended = list_any-append is_end w.events e ∙ ap (λ b. b || has_ended e) (h.ended ∙ step.going)
            ∙ events_end (line o x) w.fresh v did next (w.cycles + 1)
            ∙ ap (λ b. not b && is_halt next.phase) step.going ∙ and_true (is_halt next.phase);
        queue = λ fresh. absurd (cc);
      }

  -- the run coheres after a step
  pub Coheres-stepped : (x : World M) (step : TakesStep K o w x) → Coheres K o x
  Coheres-stepped x step = subst (Coheres K o) (sym step.next_is) (stepped_coheres x step)

-- ---- the cuts that are listed

module _ {M : Type 0} (K : KindOf M) (o : Origin) where
  listed_stepped : (cuts : List ℕ) (w x : World M) (cycle : ℕ) → TakesStep K o w x → Listed cuts cycle w → Listed cuts cycle x
  listed_stepped cuts w x cycle step l =
      let e : List Event = events_of (line o x) w.fresh (seen K o w) step.r.did (seen K o x) (w.cycles + 1) in
      let now : Listed cuts cycle (after_step K o w x.machine x.device x.turns step.r.did) = record {
        few = l.few;
        up_to = l.up_to;
        among = cuts_among-append w.events e ∙ ap (λ (c : List Event). cuts_among w.events ++ c)
            (events_uncut (line o x) w.fresh (seen K o w) step.r.did (seen K o x) (w.cycles + 1))
            ∙ append-nil (cuts_among w.events) ∙ l.among;
      } in
      subst (Listed cuts cycle) (sym step.next_is) now

  stepped_cycles : (w x : World M) → TakesStep K o w x → x.cycles ≡ w.cycles + 1
  stepped_cycles w x step = ap (λ (y : World M). y.cycles) step.next_is

  -- a run that continues: the cuts up to its cycle
  pub listed_going : (cuts : List ℕ) (w : World M) → Good K o cuts w → is_halt (seen K o w).phase ≡ false → Listed cuts w.cycles w
  listed_going cuts w g going =
      let e : last_cuttable w.events w.cycles ≡ w.cycles = ap (λ b. if b then w.cycles - 1 else w.cycles) (g.stands.ended ∙ going) in
      subst (λ c. Listed cuts c w) e g.listed

due_parts : (a b c : Bool) → (not a && (b && c)) ≡ true → (a ≡ false) × (b ≡ true) × (c ≡ true)
due_parts true b c e = absurd (cc)
due_parts false true true e = (refl, refl, refl)
due_parts false true false e = absurd (cc)
due_parts false false c e = absurd (cc)

due_not : (a b c : Bool) → (not a && (b && c)) ≡ false → a ≡ false → b ≡ true → c ≡ true → ⊥
due_not a b c e f g h = let t : (not a && (b && c)) ≡ true = ap (λ x. not x && (b && c)) f ∙ ap (λ x. x && c) g ∙ h in cc

not_due : {M : Type 0} (K : KindOf M) → (o : Origin) (cuts : List ℕ) (x : World M) (c : ℕ) → x.cycles ≡ c + 1 → Listed cuts c x
    → IsRising 0 cuts
    → is_due K o cuts x ≡ false → is_halt (seen K o x).phase ≡ false → Listed cuts (c + 1) x
not_due {M = M} K o cuts x c cycles l rising due going = elim (next_cut c 0 cuts x.passed rising l.few l.up_to) as (λ _. Listed cuts (c + 1) x) [
  | inl comes ↦ absurd (due_not (is_halt (seen K o x).phase) (nat_lt x.passed (length cuts)) (slice_index cuts x.passed == x.cycles) due going
      (lt-ltb x.passed (length cuts) comes.0) (eq-eqb (slice_index cuts x.passed) x.cycles (comes.1 ∙ sym cycles)))
  | inr none ↦ record { few = l.few; up_to = none.1; among = l.among }
]

-- after a step after which no cut falls, the cuts listed up to it have fallen
good_stepped : {M : Type 0} (K : KindOf M) → (o : Origin) (cuts : List ℕ) (w x : World M) → IsRising 0 cuts → TakesStep K o w x
    → Listed cuts w.cycles w → Coheres K o x → is_due K o cuts x ≡ false
    → Listed cuts (last_cuttable x.events x.cycles) x
good_stepped {M = M} K o cuts w x rising step l stands due = by_end (is_halt (seen K o x).phase) refl
  where
    cycles : x.cycles ≡ w.cycles + 1
    cycles = stepped_cycles K o w x step

    at_cycle : (b : Bool) → is_halt (seen K o x).phase ≡ b → last_cuttable x.events x.cycles ≡ (if b then x.cycles - 1 else x.cycles)
    at_cycle b is = ap (λ c. if c then x.cycles - 1 else x.cycles) (stands.ended ∙ is)

    by_end : (b : Bool) → is_halt (seen K o x).phase ≡ b → Listed cuts (last_cuttable x.events x.cycles) x
    by_end true is =
        let last : last_cuttable x.events x.cycles ≡ w.cycles = at_cycle true is ∙ (let e : x.cycles - 1 ≡ w.cycles = omega (arith, cycles) in e) in
        subst (λ c. Listed cuts c x) (sym last) (listed_stepped K o cuts w x w.cycles step l)
    by_end false is =
        subst (λ c. Listed cuts c x) (sym (at_cycle false is ∙ cycles))
        (not_due K o cuts x w.cycles cycles (listed_stepped K o cuts w x w.cycles step l) rising due is)

-- ---- a cut

image_phase : (count : ℕ) (d : Decoded) → ((view_of_image count d).phase ≡ BootPhase) × ((view_of_image count d).written ≡ false)
image_phase count NothingLeft = (refl, refl)
image_phase count (RefusedImage bad) = (refl, refl)
image_phase count (At epoch state) = (refl, refl)

-- after a cut the device is safe for what it was safe for
pub IsSafe-cut : {M : Type 0} (K : KindOf M) → (o : Origin) (m : Marks) (pick : ℕ) (old new : Device) → IsCut pick old new
    → IsSafe K.decode o m old → IsSafe K.decode o m new
IsSafe-cut K o m pick old new cut safe = λ h crash.
    let at_cut : Crash (cut_to old pick new.image new.wear) h = subst (λ n. Crash n h) cut.device crash in
    subst (λ g. MayStand (course_of o) m (K.decode o.geometry ceiling g)) (sym (Crash-cut_to old pick new.image h new.wear at_cut))
    (safe new.image cut.crash)

module _ {M : Type 0} (K : KindOf M) (o : Origin) (x next : World M) (h : Coheres K o x) (late : x.fresh ≡ false)
    (going : is_halt (seen K o x).phase ≡ false)
    (safe : Safe K.decode (line o x) (seen K o x).done (doubt_of (seen K o x)) x.device) (pick : ℕ) (cut : IsCutOff K o pick x next) where
  -- what the image that was left decodes to
  abbrev left_image : Decoded
  left_image = K.decode o.geometry ceiling next.device.image

  one_of : IsOneOf (line o x) (seen K o x).done (doubt_of (seen K o x)) left_image
  one_of = safe next.device.image cut.cut.crash

  lefts : next.device.left ≡ x.device.left ++ next.device.image ∷ []
  lefts = ap (λ (n : Device). n.left) cut.cut.device

  cut_marks : marks_of o (x.events ++ Cut (x.passed + 1) x.cycles ∷ []) ≡ marks_of o x.events
  cut_marks = marks_from-append o.start.count (first_marks o) x.events (Cut (x.passed + 1) x.cycles ∷ [])

  -- the turns that are kept agree with those reported up to the checkpoint that is found
  kept : AgreeBelow (line o x) next.turns (reach (view_of_image o.start.count left_image))
  kept = subst (λ (t : List ℕ). AgreeBelow (line o x) t (reach (view_of_image o.start.count left_image))) (sym cut.kept)
      (kept_agrees o x.turns left_image)

  cut_listed : HasItsTurns (line o next) (seen K o next)
  cut_listed =
      subst (λ (v : View). HasItsTurns (line o next) v) (sym cut.found)
      (subst (λ (t : List ℕ). HasItsTurns (with_turns o t) (view_of_image o.start.count left_image)) (sym cut.kept)
      (kept_listed o x.turns (seen K o x) left_image (cut_below (line o x) (seen K o x) (marks_of o x.events) left_image h.fits one_of) h.listed_all))

  cut_images : ImagesFit (line o next) x.cycles true (view_of_image o.start.count left_image) (found left_image (Some x.cycles))
  cut_images = record {
    last = λ cycle e before. absurd (let same : x.cycles ≡ cycle = cc in omega (arith, same, before));
    just = λ cycle e. inl (refl, (let same : x.cycles ≡ cycle = cc in sym same));
    fresh_boot = λ e. ((image_phase o.start.count left_image).0, (image_phase o.start.count left_image).1, refl);
    boot = λ e. found_cut (line o x) next.turns (seen K o x) left_image one_of kept;
    up = λ e. absurd (let boots : is_boot (view_of_image o.start.count left_image).phase ≡ true =
        ap is_boot (image_phase o.start.count left_image).0 in cc);
  }

  cut_each : AllFit (K.decode o.geometry ceiling) (ImagesFit (line o next) x.cycles true (seen K o next)) (found_at_start o)
      (x.events ++ Cut (x.passed + 1) x.cycles ∷ []) (x.device.left ++ next.device.image ∷ [])
  cut_each =
      AllFit-append (K.decode o.geometry ceiling) (ImagesFit (line o x) x.cycles x.fresh (seen K o x))
      (ImagesFit (line o next) x.cycles true (seen K o next)) (found_at_start o) x.events (Cut (x.passed + 1) x.cycles ∷ [])
      x.device.left (next.device.image ∷ [])
      (λ t p. (p.last, (refl, subst (λ v. ImagesFit (line o next) x.cycles true v (found left_image (Some x.cycles))) (sym cut.found) cut_images))) h.each

  cut_coheres : Coheres K o (cut_off x next.machine next.device next.turns)
  cut_coheres = record {
    at_moment = cut.at_moment;
    listed_all = cut_listed;
    fits = subst (λ v. Fits (line o next) v (marks_of o (x.events ++ Cut (x.passed + 1) x.cycles ∷ []))) (sym cut.found)
        (subst (Fits (line o next) (view_of_image o.start.count left_image)) (sym cut_marks)
        (fits_cut (line o x) next.turns (seen K o x) (marks_of o x.events) left_image h.fits one_of));
    leads = subst (λ v. Leads (line o next) v (marks_of o (x.events ++ Cut (x.passed + 1) x.cycles ∷ []))) (sym cut.found)
        (subst (Leads (line o next) (view_of_image o.start.count left_image)) (sym cut_marks)
        (leads_cut (line o x) next.turns (seen K o x) (marks_of o x.events) left_image h.fits h.leads one_of kept));
    lawful = AllLawful-append (course_of o) (first_marks o) x.events (Cut (x.passed + 1) x.cycles ∷ []) h.lawful (tt, tt);
    safe = subst (λ (m : Marks). IsSafe K.decode o m next.device) (sym cut_marks)
        (IsSafe-cut K o (marks_of o x.events) pick x.device next.device cut.cut h.safe);
    each = subst (AllFit (K.decode o.geometry ceiling) (ImagesFit (line o next) x.cycles true (seen K o next)) (found_at_start o)
        (x.events ++ Cut (x.passed + 1) x.cycles ∷ [])) (sym lefts) cut_each;
    left = ap length lefts ∙ length-append x.device.left (next.device.image ∷ []) ∙ ap (λ c. c + 1) h.left;
    ended = list_any-append is_end x.events (Cut (x.passed + 1) x.cycles ∷ []) ∙ or_from (has_ended x.events) false (h.ended ∙ going) refl
        ∙ sym (ap is_halt (ap (λ v. v.phase) cut.found ∙ (image_phase o.start.count left_image).0));
    queue = λ e. ap (λ (n : Device). n.queue) cut.cut.device;
  }

  -- the run coheres after a cut
  pub Coheres-cut : Coheres K o next
  Coheres-cut = subst (Coheres K o) (sym cut.next_is) cut_coheres

  -- after a cut, the cuts listed up to it have fallen
  pub Listed-cut : (cuts : List ℕ) (c : ℕ) → x.cycles ≡ c + 1 → Listed cuts c x → IsRising 0 cuts → nat_lt x.passed (length cuts) ≡ true
      → (slice_index cuts x.passed == x.cycles) ≡ true → Listed cuts (last_cuttable next.events next.cycles) next
  Listed-cut cuts c cycles l rising some due =
      let last : last_cuttable next.events next.cycles ≡ x.cycles =
      ap (λ b. if b then next.cycles - 1 else next.cycles)
      (Coheres-cut.ended ∙ ap is_halt (ap (λ v. v.phase) cut.found ∙ (image_phase o.start.count left_image).0))
      ∙ ap (λ (y : World M). y.cycles) cut.next_is in
      let now : Listed cuts x.cycles (cut_off x next.machine next.device next.turns) =
      elim (next_cut c 0 cuts x.passed rising l.few l.up_to)
      as (λ _. Listed cuts x.cycles (cut_off x next.machine next.device next.turns)) [
        | inl comes ↦ record {
          few = omega (arith, comes.0);
          up_to = ap (λ k. cuts_up_to k cuts) cycles ∙ comes.2 ∙ ap (λ k. take k cuts) (let e : suc x.passed ≡ x.passed + 1 = omega arith in e);
          among = cuts_among-append x.events (Cut (x.passed + 1) x.cycles ∷ [])
              ∙ ap (λ (e : List Event). e ++ Cut (x.passed + 1) x.cycles ∷ []) l.among
              ∙ ap (λ i. numbered 1 (take x.passed cuts) ++ Cut i x.cycles ∷ []) (let e : x.passed + 1 ≡ 1 + x.passed = omega arith in e)
              ∙ ap (λ i. numbered 1 (take x.passed cuts) ++ Cut (1 + x.passed) i ∷ []) (sym (eqb-true (slice_index cuts x.passed) x.cycles due))
              ∙ sym (numbered-take 1 cuts x.passed comes.0)
              ∙ ap (λ k. numbered 1 (take k cuts)) (let e : suc x.passed ≡ x.passed + 1 = omega arith in e);
        }
        | inr none ↦ absurd (none.0 (ltb-true x.passed (length cuts) some) (eqb-true (slice_index cuts x.passed) x.cycles due ∙ cycles))
      ] in
      subst (Listed cuts (last_cuttable next.events next.cycles)) (sym cut.next_is)
      (subst (λ k. Listed cuts k (cut_off x next.machine next.device next.turns)) (sym last) now)

-- ---- cycles

by_due : {M : Type 0} (K : KindOf M) → (o : Origin) (cuts : List ℕ) (w x next : World M) → IsRising 0 cuts → TakesStep K o w x
    → Listed cuts w.cycles w → Coheres K o x
    → (pick : ℕ) (b : Bool) → is_due K o cuts x ≡ b → MatchBool b (IsCutOff K o pick x next) (next ≡ x) → Good K o cuts next
by_due {M = M} K o cuts w x next rising step l stands pick false due is =
    subst (Good K o cuts) (sym is) (record { stands = stands; listed = good_stepped K o cuts w x rising step l stands due })
by_due {M = M} K o cuts w x next rising step l stands pick true due cut =
    let parts = due_parts (is_halt (seen K o x).phase) (nat_lt x.passed (length cuts)) (slice_index cuts x.passed == x.cycles) due in
    let late : x.fresh ≡ false = ap (λ (y : World M). y.fresh) step.next_is in
    record {
      stands = Coheres-cut K o x next stands late parts.0 step.is_step.safe pick cut;
      listed = Listed-cut K o x next stands late parts.0 step.is_step.safe pick cut cuts w.cycles (stepped_cycles K o w x step)
          (listed_stepped K o cuts w x w.cycles step l) rising parts.1 parts.2;
    }

-- a cycle of a run keeps what holds between two cycles
pub Good-cycle : {M : Type 0} (K : KindOf M) → (o : Origin) (cuts tears : List ℕ) (w next : World M) → 1 ≤ o.geometry.epoch
    → IsRising 0 cuts → Good K o cuts w → Cycle K o cuts tears w next → Good K o cuts next
Good-cycle {M = M} K o cuts tears w next least rising g c =
    by_due K o cuts w c.between next rising c.steps (listed_going K o cuts w g c.steps.going)
    (Coheres-stepped K o w least g.stands c.between c.steps)
    (tear tears c.between.passed) (is_due K o cuts c.between) refl c.cut

-- the start is the plain machine's state at its count
at-start : (o : Origin) → o.start ≡ at o o.start.count
at-start o = sym (at-early o o.start.count (omega arith))

module _ (o : Origin) (t : List ℕ) where
  -- the view and the marks with which a run begins
  first_fits : (kept : Option Mark)
      → Fits (with_turns o t) (view_of_image o.start.count (found_first o kept)) (marks_at o.start.count kept)
  first_fits None = record { retired = refl; over = refl; boots = inl (record { done = refl; sealed = refl; marks = refl }) }
  first_fits (Some m) = record {
    retired = refl;
    over = refl;
    boots = inr (record { mark = mark m.epoch o.start.count; done = refl; sealed = refl; written = refl; either = inl refl; rises = λ k s kept sealed. absurd (cc) });
  }

  finds_first : (kept : Option Mark) → IsFound (with_turns o t) (view_of_image o.start.count (found_first o kept)) (found_first o kept)
  finds_first None = refl
  finds_first (Some m) = (refl, at-start (with_turns o t))

first_boot : (o : Origin) (kept : Option Mark)
    → ((view_of_image o.start.count (found_first o kept)).phase ≡ BootPhase)
    × ((view_of_image o.start.count (found_first o kept)).done ≡ (marks_at o.start.count kept).kept)
first_boot o None = (refl, refl)
first_boot o (Some m) = (refl, refl)

first_leads : (o : Origin) (t : List ℕ) (kept : Option Mark)
    → Leads (with_turns o t) (view_of_image o.start.count (found_first o kept)) (marks_at o.start.count kept)
first_leads o t None = record { kept = λ k is. absurd (cc); other = λ k is. absurd (cc) }
first_leads o t (Some m) =
    let there : (k : Mark) → Some (mark m.epoch o.start.count) ≡ Some k → LeadsTo (with_turns o t) [] k.count = λ k is.
    (let same : mark m.epoch o.start.count ≡ k = cc in
    subst (λ (x : Mark). LeadsTo (with_turns o t) [] x.count) same (start_leads (with_turns o t))) in
    record { kept = there; other = there }

pub first_reach : (o : Origin) (kept : Option Mark) → reach (view_of_image o.start.count (found_first o kept)) - o.start.count ≡ 0
first_reach o None = omega arith
first_reach o (Some m) = omega arith

module _ {M : Type 0} (K : KindOf M) (o : Origin) where
  -- the invariant of a run holds at first
  pub Good-first : (given : Given) (w : World M) → IsRising 0 given.config.cuts → IsFirst K o given w → Good K o given.config.cuts w
  Good-first given w rising f =
      let none : w.events ≡ [] = f.events in
      let marks : marks_of o w.events ≡ first_marks o = ap (marks_of o) none in
      let boots = first_boot o o.kept in
      let fits : Fits (line o w) (first_view o) (first_marks o) = first_fits o w.turns o.kept in
      let leads : Leads (line o w) (first_view o) (first_marks o) = first_leads o w.turns o.kept in
      let images : ImagesFit (line o w) w.cycles false (first_view o) (found_at_start o) = record {
        last = λ cycle e. absurd (cc);
        just = λ cycle e. absurd (cc);
        fresh_boot = λ e. absurd (cc);
        boot = λ e. finds_first o w.turns o.kept;
        up = λ e. refl;
      } in
      let safe : IsSafe K.decode o (first_marks o) w.device =
      IsSafe-by K.decode (line o w) (first_view o).done None (first_marks o) w.device (λ e. sym boots.1 ∙ e)
      (λ k which. leaves_one (line o w) (first_view o) (first_marks o) fits leads k
      (elim which as (λ _. ((first_view o).done ≡ Some k) ⊎ ((first_view o).sealed ≡ Some k)) [ inl done ↦ inl done | inr none ↦ absurd (cc) ])) f.safe in
      let ended : has_ended w.events ≡ false = ap has_ended none in
      let cycles : w.cycles ≡ 0 = f.cycles in
      let last : last_cuttable w.events w.cycles ≡ 0 = ap (λ b. if b then w.cycles - 1 else w.cycles) ended ∙ cycles in
      let passed : w.passed ≡ 0 = f.passed in
      record {
        stands = record {
          at_moment = subst (λ k. K.is_at (line o w) k w.machine w.device) (sym cycles) f.at_moment;
          listed_all = ap (λ (t : List ℕ). length t) f.unlisted
              ∙ sym (none_listed o.geometry.harts (reach (seen K o w) - o.start.count)
              (ap (λ v. reach v - o.start.count) f.found ∙ first_reach o o.kept));
          fits = subst (λ v. Fits (line o w) v (marks_of o w.events)) (sym f.found) (subst (Fits (line o w) (first_view o)) (sym marks) fits);
          leads = subst (λ v. Leads (line o w) v (marks_of o w.events)) (sym f.found) (subst (Leads (line o w) (first_view o)) (sym marks) leads);
          lawful = subst (AllLawful (course_of o) (first_marks o)) (sym none) tt;
          safe = subst (λ (m : Marks). IsSafe K.decode o m w.device) (sym marks) safe;
          each = subst (λ vs. AllFit (K.decode o.geometry ceiling) (ImagesFit (line o w) w.cycles w.fresh (seen K o w))
              (found_at_start o) vs w.device.left) (sym none) (
                f.left,
                subst (λ b. ImagesFit (line o w) w.cycles b (seen K o w) (found_at_start o)) (sym f.fresh)
                    (subst (λ v. ImagesFit (line o w) w.cycles false v (found_at_start o)) (sym f.found) images),
              );
          left = ap length f.left ∙ sym passed;
          ended = ended ∙ sym (ap is_halt (ap (λ v. v.phase) f.found ∙ boots.0));
          queue = λ e. absurd (let no_cut : w.fresh ≡ false = f.fresh in cc);
        };
        listed = record {
          few = omega (arith, passed);
          up_to = ap (λ k. cuts_up_to k given.config.cuts) last ∙ up_none 0 0 given.config.cuts rising (omega arith)
              ∙ sym (ap (λ k. take k given.config.cuts) passed);
          among = ap cuts_among none ∙ sym (ap (λ k. numbered 1 (take k given.config.cuts)) passed);
        };
      }

  -- the invariant of a run holds after any number of cycles
  pub Good-ran : (given : Given) (k : ℕ) (w : World M) → 1 ≤ o.geometry.epoch → IsRising 0 given.config.cuts → Ran K o given k w
      → Good K o given.config.cuts w
  Good-ran given zero w least rising first = Good-first given w rising first
  Good-ran given (suc k) w least rising (before, ran, cycle) =
      Good-cycle K o given.config.cuts given.config.tears before w least rising (Good-ran given k before least rising ran) cycle

  cycle_counts : (cuts : List ℕ) (w x next : World M) → TakesStep K o w x → (pick : ℕ) (b : Bool)
      → MatchBool b (IsCutOff K o pick x next) (next ≡ x) → next.cycles ≡ w.cycles + 1
  cycle_counts cuts w x next step pick true cut = ap (λ (y : World M). y.cycles) cut.next_is ∙ stepped_cycles K o w x step
  cycle_counts cuts w x next step pick false is = ap (λ (y : World M). y.cycles) is ∙ stepped_cycles K o w x step

  -- each cycle of a run counts one
  pub cycles-ran : (given : Given) (k : ℕ) (w : World M) → Ran K o given k w → w.cycles ≡ k
  cycles-ran given zero w first = first.cycles
  cycles-ran given (suc k) w (before, ran, cycle) =
      let e : before.cycles ≡ k = cycles-ran given k before ran in
      let f : w.cycles ≡ before.cycles + 1 = cycle_counts given.config.cuts before cycle.between w cycle.steps
      (tear given.config.tears cycle.between.passed) (is_due K o given.config.cuts cycle.between) cycle.cut in
      omega (arith, e, f)

  -- with one hart no turn is ever reported
  none_due : (x next : World M) → x.turns ≡ [] → (pick : ℕ) (b : Bool) → MatchBool b (IsCutOff K o pick x next) (next ≡ x)
      → next.turns ≡ []
  none_due x next none pick true cut =
      let n : ℕ = reach (view_of_image o.start.count (K.decode o.geometry ceiling next.device.image)) - o.start.count in
      cut.kept ∙ ap (λ (t : List ℕ). take n t) none ∙ take_all n [] (omega arith)
  none_due x next none pick false is = ap (λ (y : World M). y.turns) is ∙ none

  pub unlisted-ran : (given : Given) (k : ℕ) (w : World M) → o.geometry.harts ≡ 1 → Ran K o given k w → w.turns ≡ []
  unlisted-ran given zero w one first = first.unlisted
  unlisted-ran given (suc k) w one (before, ran, cycle) =
      none_due cycle.between w
      (cycle.steps.turns_are ∙ one_after o.geometry.harts before.turns cycle.steps.r.did one ∙ unlisted-ran given k before one ran)
      (tear given.config.tears cycle.between.passed)
      (is_due K o given.config.cuts cycle.between) cycle.cut
