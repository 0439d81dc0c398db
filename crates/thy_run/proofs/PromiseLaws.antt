-- What follows for every run.
use Rattle.std.proofs.Common.{◌≡◌, ◌⊎◌, ℕ, zero, suc, ◌+◌, ◌-◌, ◌≤◌, false, if◌then◌else◌, Option, Some, None, List, [], ◌∷◌, ◌++◌, length, take, refl, sym, ◌∙◌, ap, subst, inl, inr, append-nil, append_assoc, arith}
use Rattle.std.proofs.lemmas.Bool.{or_from}
use Rattle.std.proofs.lemmas.List.Folds.{list_any-append}
use Rattle.thy_block.specs.declared.block.Block.{Block}
use Rattle.thy_block.specs.declared.mark.Mark.{Mark}
use Rattle.thy_block.specs.Device.{Device}
use Rattle.thy_computer.specs.Kind.{KindOf, IsLawful}
use Rattle.thy_text.specs.Event.{Event}
use Rattle.thy_text.specs.Marks.{Marks, Course, marks_from, marks_after, AllLawful}
use Rattle.thy_text.specs.OneHart.{HasNoTurns}
use Rattle.thy_text.proofs.Histories.{marks_from-append}
use Rattle.thy_computer.specs.CoreStep.{CoreStep}
use Rattle.thy_computer.specs.Origin.{Origin}
use Rattle.thy_layout.specs.Decoded.{Decoded}
use Rattle.thy_computer.specs.Safe.{ceiling, Safe}
use Rattle.thy_computer.specs.Views.{doubt_of}
use Rattle.thy_run.proofs.EveryLemmas.{every-failed}
use Rattle.thy_computer.proofs.SafeLemmas.{Safe-failed}
use Rattle.thy_run.specs.Every.{every_of}
use Rattle.thy_run.specs.Cuts.{is_end, has_ended, cuts_among, numbered, last_cuttable, cuts_up_to}
use Rattle.thy_run.specs.Images.{Found, HasLeft, AllFit}
use Rattle.thy_run.specs.Laws.{course_of, marks_at, first_marks, marks_of, found_at_start, torn, IsSafe, LeavesRoom, Promise, RunKeepsPromise}
use Rattle.thy_run.specs.Progress.{IsSoonOver, IsPaced}
use Rattle.thy_run.specs.Strides.{first_epoch, AllStride}
use Rattle.thy_run.specs.Unfinished.{StepFailed, ReadFailed, ReportingFailed, IsLast, AtStop}
use Rattle.thy_run.specs.World.{World, Given, line, seen, events_of, TakesStep}
use Rattle.thy_run.specs.declared.ending.Stop.{Stop}
use Rattle.thy_run.specs.declared.ending.Stop.TheVariants.{Ended, Nvm, Memory, Terminal, Report, Limit}
use Rattle.thy_run.proofs.BusyLaws.{Busy-ran}
use Rattle.thy_run.proofs.ImageLaws.{ImagesFit, AllFit-events}
use Rattle.thy_run.proofs.ImageLemmas.{AllFit-append, AllFit-ends, AllFit-part}
use Rattle.thy_run.proofs.ListedLemmas.{cuts_among-append}
use Rattle.thy_run.proofs.PartLaws.{IsSafe-fault, IsSafe-part}
use Rattle.thy_run.proofs.AgreeingTurnsLaws.{images_with_turns}
use Rattle.thy_run.proofs.StepAlong.{core_of}
use Rattle.thy_run.proofs.PickLaws.{StaysFitted, StaysFitted-framed, StaysFitted-ran}
use Rattle.thy_run.proofs.SoonLaws.{SoonOver-ran}
use Rattle.thy_run.proofs.StrideLaws.{AllStride-part, Strode, strode_step, strode_ran}
use Rattle.thy_run.proofs.WorldLaws.{Coheres, Listed, Good, listed_going, events_uncut, fits_before, leads_before, reported_before, Coheres-stepped, Good-ran, cycles-ran}
use Rattle.thy_block.proofs.RangeLemmas.{epoch_least}
use Rattle.thy_block.proofs.BasicLemmas.{first_empty}
use Rattle.thy_run.proofs.StepFrames.{TakesStep-every, TakesStep-framed}

-- ---- lists

behind_same : {A : Type 0} (xs ys zs : List A) → xs ++ ys ≡ xs ++ zs → ys ≡ zs
behind_same [] ys zs e = e
behind_same (x ∷ xs) ys zs e = behind_same xs ys zs (let t : xs ++ ys ≡ xs ++ zs = cc in t)

length-numbered : (index : ℕ) (cuts : List ℕ) → length (numbered index cuts) ≡ length cuts
length-numbered index [] = refl
length-numbered index (c ∷ cs) = ap (λ n. suc n) (length-numbered (index + 1) cs)

length-taken : (p : ℕ) (cuts : List ℕ) → p ≤ length cuts → length (take p cuts) ≡ p
length-taken zero cuts few = refl
length-taken (suc p) [] few = absurd (omega arith)
length-taken (suc p) (c ∷ cs) few = ap (λ n. suc n) (length-taken p cs (omega arith))

-- the first of some lawful events
pub AllLawful-part : (c : Course) (m : Marks) (vs ws : List Event) → AllLawful c m (vs ++ ws) → AllLawful c m vs
AllLawful-part c m [] ws all = tt
AllLawful-part c m (v ∷ vs) ws all = (all.0, AllLawful-part c (marks_after c.start m v) vs ws all.1)

-- before any event no turn is reported
pub first_without_turns : (start : ℕ) (kept : Option Mark) → HasNoTurns (marks_at start kept)
first_without_turns start None = record { kept = refl; sealed = refl }
first_without_turns start (Some m) = record { kept = refl; sealed = refl }

-- ---- the promise, from its parts

-- what the listed cuts come to
cuts_fit : {M : Type 0} → (cuts : List ℕ) (k : ℕ) (w : World M) → Listed cuts k w
    → (cuts_among w.events ≡ numbered 1 (cuts_up_to k cuts)) × (length (cuts_among w.events) ≡ w.passed)
cuts_fit cuts k w l = (
  l.among ∙ ap (numbered 1) (sym l.up_to),
  ap length l.among ∙ length-numbered 1 (take w.passed cuts) ∙ length-taken w.passed cuts l.few,
)

-- what is left has the room, if it keeps an image for each cut that fell
leaves_room : (given : Given) (passed : ℕ) (events : List Event) (n : Device) → StaysFitted given passed n
    → passed ≤ length given.config.cuts
    → length n.left ≡ passed → length (cuts_among events) ≡ passed → LeavesRoom given events n
leaves_room given passed events n stays few left cuts = record {
  blocks = stays.blocks;
  kept = left ∙ sym cuts;
  few = omega (arith, few, left);
  room = stays.room;
  queue_room = stays.queue_room;
  lent = stays.lent;
  whole = stays.whole;
  every = stays.every;
}

module _ {M : Type 0} (K : KindOf M) (o : Origin) (given : Given) (w : World M) (least : 1 ≤ o.geometry.epoch)
    (g : Good K o given.config.cuts w) (keeps : StaysFitted given w.passed w.device)
    (soon : IsSoonOver K o given.config.cuts w.cycles) (paced : IsPaced K o given w.cycles) (strode : Strode K o w) where
  abbrev read : List Block → Decoded
  read = K.decode o.geometry ceiling

  -- what a restart can find holds between two cycles
  abbrev stood : Found → Type 0
  stood = ImagesFit (line o w) w.cycles w.fresh (seen K o w)

  done_promise : Promise K o given w.cycles w.events w.device
  done_promise =
      let fit = cuts_fit given.config.cuts (last_cuttable w.events w.cycles) w g.listed in
      record {
        events_lawful = g.stands.lawful;
        restarts_decode = AllFit-ends read stood (HasLeft w.cycles) (found_at_start o) w.events w.device.left (λ t p. p.last) g.stands.each;
        cuts_listed = fit.0;
        picks_listed = keeps.picks ∙ sym (ap (torn given.config.tears) fit.1);
        fits_stay = keeps.fits;
        room = leaves_room given w.passed w.events w.device keeps g.listed.few g.stands.left fit.1;
        safe_at_return = g.stands.safe;
        soon = soon;
        paced = paced;
        strides = strode.all;
      }

  -- the step failed: events stay, and the device is safe for what was sealed
  failed_promise : (n : Device) → StepFailed K o w w.events n → Promise K o given w.cycles w.events n
  failed_promise n f =
      let left : n.left ≡ w.device.left = f.framed.left in
      let m : Marks = marks_of o w.events in
      let p = done_promise in
      let fit = cuts_fit given.config.cuts (last_cuttable w.events w.cycles) w g.listed in
      record {
        events_lawful = p.events_lawful;
        restarts_decode = subst (AllFit read (HasLeft w.cycles) (found_at_start o) w.events) (sym left) p.restarts_decode;
        cuts_listed = p.cuts_listed;
        picks_listed = f.framed.picks ∙ p.picks_listed;
        fits_stay = f.framed.fits ∙ keeps.fits;
        room = leaves_room given w.passed w.events n (StaysFitted-framed given w.passed w.device n f.framed
            (every-failed f.leaves.acted.failed.action w.device n f.leaves.acted.failed.failed) keeps) g.listed.few
            (ap length left ∙ g.stands.left) fit.1;
        safe_at_return =
            let action = f.leaves.acted.failed.action in
            IsSafe-fault K.decode (line o w) (seen K o w) m action n g.stands.fits g.stands.leads f.leaves.safe;
        soon = soon;
        paced = paced;
        strides = p.strides;
      }

  -- only a part of the step's events was made
  reporting_promise : (part rest : List Event) (next : World M) (events : List Event) (n : Device) → TakesStep K o w next
      → next.events ≡ w.events ++ part ++ rest → has_ended part ≡ false
      → (n ≡ next.device) ⊎ ReadFailed w events n next rest → Promise K o given w.cycles (w.events ++ part) n
  reporting_promise part rest next events n step split unended device =
      let m : Marks = marks_of o w.events in
      let es : List Event = events_of (line o next) w.fresh (seen K o w) step.r.did (seen K o next) (w.cycles + 1) in
      let core : CoreStep (line o next) (seen K o w) step.r.did (seen K o next) = core_of K o w next step in
      let after : Coheres K o next = Coheres-stepped K o w least g.stands next step in
      let whole : es ≡ part ++ rest = behind_same w.events es (part ++ rest)
      (sym (ap (λ (x : World M). x.events) step.next_is) ∙ split ∙ append_assoc w.events part rest) in
      let uncut : cuts_among part ≡ [] =
      first_empty (cuts_among part) (cuts_among rest) (sym (cuts_among-append part rest) ∙ ap cuts_among (sym whole)
      ∙ events_uncut (line o next) w.fresh (seen K o w) step.r.did (seen K o next) (w.cycles + 1)) in
      let left_next : next.device.left ≡ w.device.left = (TakesStep-framed K o w next step).left in
      let left : n.left ≡ next.device.left =
      elim device as (λ _. n.left ≡ next.device.left) [ inl e ↦ ap (λ (x : Device). x.left) e | inr f ↦ f.framed.left ] in
      let at_next : StaysFitted given w.passed next.device = StaysFitted-framed given w.passed w.device next.device
      (TakesStep-framed K o w next step) (TakesStep-every K o w next step) keeps in
      let kept : StaysFitted given w.passed n = elim device as (λ _. StaysFitted given w.passed n) [
        | inl e ↦ subst (StaysFitted given w.passed) (sym e) at_next
        | inr f ↦ StaysFitted-framed given w.passed next.device n f.framed (ap every_of f.failed.counts.wear) at_next
      ] in
      let fit = cuts_fit given.config.cuts w.cycles w (listed_going K o given.config.cuts w g step.going) in
      let same_cuts : cuts_among (w.events ++ part) ≡ cuts_among w.events =
      cuts_among-append w.events part ∙ ap (λ (l : List Event). cuts_among w.events ++ l) uncut ∙ append-nil (cuts_among w.events) in
      let going : has_ended (w.events ++ part) ≡ false =
      list_any-append is_end w.events part ∙ or_from (has_ended w.events) (has_ended part) (g.stands.ended ∙ step.going) unended in
      let marks : marks_of o (w.events ++ part) ≡ marks_from o.start.count m part = marks_from-append o.start.count (first_marks o) w.events part in
      let safe_view : Safe K.decode (line o next) (seen K o next).done (doubt_of (seen K o next)) n =
      elim device as (λ _. Safe K.decode (line o next) (seen K o next).done (doubt_of (seen K o next)) n) [
        | inl e ↦ subst (Safe K.decode (line o next) (seen K o next).done (doubt_of (seen K o next))) (sym e) step.is_step.safe
        | inr f ↦ Safe-failed K.decode (line o next) (seen K o next).done
            (doubt_of (seen K o next)) next.device n step.is_step.safe f.failed f.framed
      ] in
      let safe : IsSafe K.decode o (marks_from o.start.count m part) n =
      IsSafe-part K.decode (line o next) (seen K o w) (seen K o next) m step.r.did w.fresh (w.cycles + 1) n least
      (fits_before K o w least g.stands next step)
      (leads_before K o w least g.stands next step) (reported_before K o w least g.stands next step) core safe_view part rest (sym whole) in
      record {
        events_lawful = AllLawful-part (course_of o) (first_marks o) (w.events ++ part) rest
            (subst (AllLawful (course_of o) (first_marks o)) split after.lawful);
        restarts_decode = subst (AllFit read (HasLeft w.cycles) (found_at_start o) (w.events ++ part))
            (append-nil w.device.left ∙ sym (left ∙ left_next))
            (AllFit-append read stood (HasLeft w.cycles) (found_at_start o) w.events part w.device.left []
            (λ t f. AllFit-part read (ImagesFit (line o next) (w.cycles + 1) false (seen K o next)) w.cycles t part rest []
            (subst (λ vs. AllFit read (ImagesFit (line o next) (w.cycles + 1) false (seen K o next)) t vs []) whole
            (AllFit-events read (line o next) w.cycles w.fresh (seen K o w) (seen K o next) t
            (images_with_turns (line o w) next.turns w.cycles w.fresh (seen K o w) t step.agree f) step.r.did (w.cycles + 1) core)) uncut f.last)
            g.stands.each);
        cuts_listed = same_cuts ∙ fit.0 ∙ ap (λ k. numbered 1 (cuts_up_to k given.config.cuts))
            (sym (ap (λ b. if b then w.cycles - 1 else w.cycles) going));
        picks_listed = kept.picks ∙ sym (ap (torn given.config.tears) (ap length same_cuts ∙ fit.1));
        fits_stay = kept.fits;
        room = leaves_room given w.passed (w.events ++ part) n kept g.listed.few (ap length (left ∙ left_next) ∙ g.stands.left)
            (ap length same_cuts ∙ fit.1);
        safe_at_return = subst (λ (x : Marks). IsSafe K.decode o x n) (sym marks) safe;
        soon = soon;
        paced = paced;
        strides = AllStride-part o.start.count (first_epoch o.start.count) (w.events ++ part) rest
            (subst (AllStride o.start.count (first_epoch o.start.count)) split (strode_step K o w next step strode).all);
      }

  module _ (events : List Event) (n : Device) where
    -- the last cycle is done
    last_promise : IsLast w events n → Promise K o given w.cycles events n
    last_promise (same, device) =
        subst (λ (vs : List Event). Promise K o given w.cycles vs n) (sym same)
        (subst (Promise K o given w.cycles w.events) (sym device) done_promise)

    -- a cycle was begun after the last one, and its step was done
    begun_promise : (Why : World M → List Event → Type 0) (t : ReportingFailed K o w events Why)
        → (n ≡ t.next.device) ⊎ ReadFailed w events n t.next t.rest → Promise K o given w.cycles events n
    begun_promise Why t device =
        subst (λ (vs : List Event). Promise K o given w.cycles vs n) (sym t.grew)
        (reporting_promise t.part t.rest t.next events n t.steps (t.split ∙ ap (λ (vs : List Event). vs ++ t.rest) t.grew) t.unended device)

    pub stop_promise : (stop : Stop) → AtStop K o given.config.cuts w events n stop → Promise K o given w.cycles events n
    stop_promise (Ended status) is = last_promise is
    stop_promise Nvm (inl f) =
        subst (λ (vs : List Event). Promise K o given w.cycles vs n) (sym f.nothing_reported)
        (failed_promise n (subst (λ (vs : List Event). StepFailed K o w vs n) f.nothing_reported f))
    stop_promise Nvm (inr t) = begun_promise _ t (inr t.why)
    stop_promise Memory (inl none) = last_promise none.1
    stop_promise Memory (inr t) = begun_promise _ t (inl t.why.0)
    stop_promise Terminal is = last_promise is
    stop_promise Report is = last_promise is
    stop_promise Limit is = last_promise is

-- every run keeps its promise
pub Promise-stopped : {M : Type 0} (K : KindOf M) → IsLawful K → RunKeepsPromise K
Promise-stopped K laws o given cycles events n stop origin rising s =
    let least : 1 ≤ o.geometry.epoch = epoch_least o.geometry origin.geometry in
    let good = Good-ran K o given cycles s.last least rising s.ran in
    let same : s.last.cycles ≡ cycles = cycles-ran K o given cycles s.last s.ran in
    let soon : IsSoonOver K o given.config.cuts s.last.cycles =
    subst (IsSoonOver K o given.config.cuts) (sym same) (SoonOver-ran K laws o given cycles s.last s.ran) in
    let paced : IsPaced K o given s.last.cycles = subst (IsPaced K o given) (sym same) (λ w ran. (Busy-ran K laws o given cycles w ran).paced) in
    subst (λ k. Promise K o given k events n) same
    (stop_promise K o given s.last least good (StaysFitted-ran K o given cycles s.last s.ran) soon paced
    (strode_ran K o given cycles s.last s.ran) events n stop s.at_stop)
