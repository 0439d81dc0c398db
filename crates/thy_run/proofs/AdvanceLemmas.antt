-- One cycle of the program's loop is one of a run.
use Rattle.std.proofs.Common.{◌≡◌, ◌≢◌, ℕ, ◌+◌, ◌<◌, ◌≤◌, Bool, true, false, ◌&&◌, not, nat_lt, ◌==◌, if◌then◌else◌, Option, Some, None, List, [], ◌∷◌, ◌++◌, length, refl, sym, ◌∙◌, ap, subst, inl, inr, append-nil, append_assoc, length-append, ◌^◌, arith}
use Rattle.std.specs.Prelude.{MatchBool, slice_index, is_some}
use Rattle.std.proofs.lemmas.Bool.{ltb-true, and_parts}
use Rattle.thy_block.specs.declared.bytes.Bytes.{Bytes}
use Rattle.thy_block.specs.declared.mix.Mix.{Mix}
use Rattle.thy_block.specs.declared.mix.Pick.{Pick}
use Rattle.thy_block.specs.Bytes.{bytes_of, room_of}
use Rattle.thy_block.specs.Counts.{Rose}
use Rattle.thy_block.specs.Device.{Device, IsFramed, cut_to}
use Rattle.thy_block.specs.Mix.{mix_next}
use Rattle.thy_isa.specs.declared.state.Status.{Status}
use Rattle.thy_layout.specs.Decoded.{Decoded, Nothing as NothingLeft, Refused as RefusedImage, At}
use Rattle.thy_text.specs.Event.{Event, Cut, Ended as EndedEvent}
use Rattle.thy_computer.specs.declared.did.Did.{Did}
use Rattle.thy_computer.specs.declared.did.Did.TheVariants.{Loaded, Restarted, Retired, Sealed, Committed}
use Rattle.thy_computer.specs.declared.did.Stepped.{Stepped}
use Rattle.thy_computer.specs.declared.view.View.{View}
use Rattle.thy_computer.specs.Booting.{view_of_image}
use Rattle.thy_computer.specs.Origin.{Begins, Origin, at}
use Rattle.thy_computer.specs.CoreStep.{CoreStep}
use Rattle.thy_computer.specs.WithTurns.{AgreeBelow, reach, IsAtWork, IsThere, HasTurn}
use Rattle.thy_computer.specs.Views.{is_halt, halts, loads}
use Rattle.thy_computer.specs.Safe.{ceiling}
use Rattle.thy_computer.specs.declared.error.CoreError.{CoreError}
use Rattle.thy_computer.specs.declared.error.CoreError.TheVariants.{Nvm as NvmFailed, Memory as NoMemory}
use Rattle.thy_computer.specs.Kind.{HasFailedToRead, KindOf, IsLawful, IsStep, CanStep}
use Rattle.thy_computer.proofs.AgainLaws.{goes_on_after_cut}
use Rattle.thy_run.specs.Laws.{marks_of, released_of}
use Rattle.thy_run.specs.Cuts.{is_end}
use Rattle.thy_run.specs.Due.{due_of, is_reported, shows_console, IsQuiet, IsReported}
use Rattle.thy_run.specs.Unfinished.{ReportingFailed, ReadFailed, LeftAlone}
use Rattle.thy_run.specs.World.{World, seen, turns_kept, did_events, reload_events, end_events, events_of, after_step, TakesStep, is_due, IsCutOff, tear}
use Rattle.thy_run.proofs.ConsoleLaws.{released-cut, released-stepped, released-part, length-released}
use Rattle.thy_run.proofs.GatherLemmas.{due_hidden}
use Rattle.thy_run.proofs.ListingLemmas.{last_none, listed_next, ends_with, list_room}
use Rattle.thy_run.proofs.NoteLemmas.{events_due, report_or_halts}
use Rattle.thy_run.proofs.TurnListLaws.{after_has, after_agrees, kept_agrees}
use Rattle.thy_run.proofs.WorldLaws.{Good, Good-ran, events_end}
use Rattle.thy_run.specs.declared.ending.Stop.TheVariants.{Nvm, Memory}
use Rattle.thy_run.specs.declared.gather.Readings.{Readings}
use Rattle.thy_run.specs.declared.plan.Plan.{Plan}
use Rattle.thy_run.specs.declared.progress.Progress.{Progress}
use Rattle.thy_run.specs.Going.{origin_of, line_of, turns_then, HasItsTurns, last_turns, list_after, HasTurnsRoom, given_of, world_at, IsPlanned, GoesOn, HasRoomToList, IsStepped, IsStuck, CanGather, MadeSome, Restores, IsEnding, IsEnd, IsNoted, IsDone, IsBroken, Breaks, AwaitsCut, Passes, Finishes, CanCut, IsCutOffTo}
use Rattle.thy_run.specs.Endings.{EndsWith}
use Rattle.thy_run.specs.Promises.{EndsWithTurns, IsReady}
use Rattle.thy_run.specs.Stopping.{stop_of}
use Rattle.thy_block.proofs.RangeLemmas.{epoch_least, harts_most}
use Rattle.thy_run.proofs.StepFrames.{TakesStep-framed}

-- an option that is asked whether it is none
pub is_none : {A : Type 0} (e : Option A) (b : Bool) → is_some e ≡ not b → b ≡ true → e ≡ None
is_none None b h is = refl
is_none (Some x) true h is = absurd (cc)
is_none (Some x) false h is = absurd (cc)

pub not_none : {A : Type 0} (e : Option A) (b : Bool) → is_some e ≡ not b → b ≡ false → e ≡ None → ⊥
not_none (Some x) b h is none = absurd (cc)
not_none None true h is none = absurd (cc)
not_none None false h is none = absurd (cc)

-- the progress after a step of the machine
pub progress_stepped : {M : Type 0} → (p : Progress M) (m : M) (harts : ℕ) (mix : Mix) (turns : Bytes) → mix ≡ mix_next harts p.mix
    → record p { machine = m; mix = mix; turns = turns } ≡ record p { machine = m; mix = mix_next harts p.mix; turns = turns }
progress_stepped p m harts mix turns is = ap (λ x. record p { machine = m; mix = x; turns = turns }) is

-- what holds of a run that continues
pub good_of : {M : Type 0} (K : KindOf M) → (plan : Plan) (fitted : Device) (p : Progress M) (n : Device) (k : ℕ) (turns : List ℕ)
    → IsPlanned plan → GoesOn K plan fitted p n k turns → Good K (origin_of plan) plan.config.cuts (world_at p n k turns)
good_of {M = M} K plan fitted p n k turns planned g =
    Good-ran K (origin_of plan) (given_of plan fitted) k (world_at p n k turns)
    (epoch_least (origin_of plan).geometry planned.origin.geometry) planned.rising g.ran

-- a boot's phase does not halt
image_going : (count : ℕ) (d : Decoded) → is_halt (view_of_image count d).phase ≡ false
image_going count NothingLeft = refl
image_going count (RefusedImage bad) = refl
image_going count (At epoch state) = refl

halted_next : (a b : Bool) → (not a && b) ≡ true → b ≡ true
halted_next true b e = absurd (cc)
halted_next false b e = e

going_next : (a b : Bool) → a ≡ false → (not a && b) ≡ false → b ≡ false
going_next true b f e = absurd (cc)
going_next false b f e = e

going_due : (h d : Bool) → h ≡ false → d ≡ false → (not h && d) ≡ false
going_due h d e f = ap (λ x. not x && d) e ∙ f

halted_due : (h d : Bool) → h ≡ true → (not h && d) ≡ false
halted_due h d e = ap (λ x. not x && d) e

due_both : (h d : Bool) → h ≡ false → d ≡ true → (not h && d) ≡ true
due_both h d e f = ap (λ x. not x && d) e ∙ f

-- the turns that a cut keeps: those up to the checkpoint that is found
abbrev pub cut_turns : {M : Type 0} → KindOf M → Plan → List ℕ → Device → List ℕ
cut_turns K plan turns d = turns_kept (origin_of plan) turns (K.decode (origin_of plan).geometry ceiling d.image)

image_retired : (count : ℕ) (d : Decoded) → (view_of_image count d).retired ≡ 0
image_retired count NothingLeft = refl
image_retired count (RefusedImage bad) = refl
image_retired count (At epoch state) = refl

-- what a cycle that halts reports of the end
end_events-halted : (o : Origin) (v next : View) (cycle : ℕ) → halts v next ≡ true
    → end_events o v next cycle ≡ EndedEvent (at o next.count).status next.count cycle (at o next.count) ∷ []
end_events-halted o v next cycle halt =
    ap (λ b. if b then EndedEvent (at o next.count).status next.count cycle (at o next.count) ∷ [] else []) halt

module _ {M : Type 0} (K : KindOf M) (laws : IsLawful K) (plan : Plan) (p q : Progress M) (n m : Device) (k : ℕ) (turns : List ℕ)
    (r : Stepped) (ended : Option Status) (bytes : List ℕ) (noted : IsNoted K plan p q n m k turns r ended bytes) where
  -- what the step leaves
  abbrev turns_next : List ℕ
  turns_next = turns_then plan turns r.did

  abbrev line_next : Origin
  line_next = line_of plan turns_next

  abbrev world_next : World M
  world_next = world_at q m (k + 1) turns_next

  abbrev seen_next : View
  seen_next = seen K (origin_of plan) world_next

  abbrev seen_first : View
  seen_first = seen K (origin_of plan) (world_at p n k turns)

  -- the turns that a cut keeps, and whether one falls after a cycle
  abbrev turns_cut : Device → List ℕ
  turns_cut d = cut_turns K plan turns_next d

  abbrev due_at : ℕ → Bool
  due_at cycle = nat_lt q.passed (length plan.config.cuts) && slice_index plan.config.cuts q.passed == cycle

  listed_all : q.events ≡ p.events ++ events_of line_next p.fresh seen_first noted.steps.r.did seen_next (k + 1)
  listed_all = ap (λ (y : World M). y.events) noted.steps.next_is

  passed_same : q.passed ≡ p.passed
  passed_same = ap (λ (y : World M). y.passed) noted.steps.next_is

  -- a cycle with no cut
  done_uncut : is_due K (origin_of plan) plan.config.cuts world_next ≡ false → IsDone K plan p q n m k turns turns_next r false bytes
  done_uncut due = record {
    cycle = record {
      between = world_next;
      steps = noted.steps;
      cut = subst (λ b. MatchBool b (IsCutOff K (origin_of plan) (tear plan.config.tears q.passed) world_next world_next)
          (world_at q m (k + 1) turns_next ≡ world_next)) (sym due) refl;
    };
    listed = noted.listed;
    turns_room = noted.turns_room;
    by_step = noted.by_step;
    has_fallen = due;
    released = noted.released;
    releases = noted.releases;
    grew = (_, listed_all);
    room = (TakesStep-framed K (origin_of plan) _ _ noted.steps).left_room;
    faults = noted.faults;
    on_terminal = noted.on_terminal;
    on_report = noted.on_report;
  }

  -- the step ended the run
  pub done_ended : (status : Status) → ended ≡ Some status → Finishes K plan p q n m k turns r bytes status
  done_ended status is =
      let v : View = seen_first in
      let next : View = seen_next in
      let end : IsEnd line_next v next (Some status) = subst (IsEnd line_next v next) is noted.is_end in
      let halt : is_halt next.phase ≡ true = halted_next (is_halt v.phase) (is_halt next.phase) end.0 in
      let first : List Event = reload_events p.fresh next ++ did_events line_next v noted.steps.r.did (k + 1) in
      let reported_last : end_events line_next v next (k + 1) ≡ EndedEvent status next.count (k + 1) (at line_next next.count) ∷ [] =
      end_events-halted line_next v next (k + 1) end.0 ∙ ap (λ x. EndedEvent x next.count (k + 1) (at line_next next.count) ∷ []) (sym end.1) in
      let ends : EndsWith q.events status = record {
        before = p.events ++ first;
        count = next.count;
        cycle = k + 1;
        state = at line_next next.count;
        last = listed_all ∙ ap (λ (l : List Event). p.events ++ (first ++ l)) reported_last
            ∙ sym (append_assoc p.events first (EndedEvent status next.count (k + 1) (at line_next next.count) ∷ []));
      } in
      (done_uncut (halted_due (is_halt next.phase) _ halt), halt, ends)

  going_on : ended ≡ None → is_halt seen_next.phase ≡ false
  going_on is =
      let v : View = seen_first in
      let next : View = seen_next in
      let end : IsEnd line_next v next None = subst (IsEnd line_next v next) is noted.is_end in
      going_next (is_halt v.phase) (is_halt next.phase) noted.steps.going end

  -- the run continues, and no cut falls after the cycle
  pub done_going : ended ≡ None → (cycle : ℕ) → cycle ≡ k + 1 → due_at cycle ≡ false → Passes K plan p q n m k turns r bytes
  done_going is cycle at_cycle due =
      let next : View = seen_next in
      let due_now : due_at (k + 1) ≡ false = subst (λ c. due_at c ≡ false) at_cycle due in
      (done_uncut (going_due (is_halt next.phase) _ (going_on is) due_now), going_on is)

  -- in either case the cycle is done with no cut
  pub done_noted : (cycle : ℕ) → cycle ≡ k + 1 → (ended ≡ None → due_at cycle ≡ false)
      → IsDone K plan p q n m k turns turns_next r false bytes
  done_noted cycle at_cycle undue = by_end ended refl
    where
      by_end : (e : Option Status) → ended ≡ e → IsDone K plan p q n m k turns turns_next r false bytes
      by_end None is = (done_going is cycle at_cycle (undue is)).0
      by_end (Some status) is = (done_ended status is).0

  -- the run continues, and a cut falls after the cycle
  pub awaits_cut : ended ≡ None → (cycle : ℕ) → cycle ≡ k + 1 → due_at cycle ≡ true → AwaitsCut K plan p q n m k turns r bytes
  awaits_cut is cycle at_cycle due = record {
    noted = subst (λ e. IsNoted K plan p q n m k turns r e bytes) is noted;
    due = subst (λ c. due_at c ≡ true) at_cycle due;
  }

  -- a cut fell after the cycle
  pub done_cut : (q' : Progress M) (m' : Device) → ended ≡ None → (cycle : ℕ) → cycle ≡ k + 1
      → due_at cycle ≡ true → IsCutOffTo K plan q q' m m' cycle → IsDone K plan p q' n m' k turns (turns_cut m') r true bytes
      × (is_halt (seen K (origin_of plan) (world_at q' m' (k + 1) (turns_cut m'))).phase ≡ false)
  done_cut q' m' is cycle at_cycle due cut =
      let o : Origin = origin_of plan in
      let x : World M = world_next in
      let next : View = seen K o x in
      let due_now : due_at (k + 1) ≡ true = subst (λ c. due_at c ≡ true) at_cycle due in
      let is_cut : is_due K o plan.config.cuts x ≡ true = due_both (is_halt next.phase) _ (going_on is) due_now in
      let device : m' ≡ cut_to m (tear plan.config.tears q.passed) m'.image m'.wear = cut.cut.device in
      let left : Decoded = K.decode o.geometry ceiling m'.image in
      let kept : AgreeBelow line_next (turns_cut m') (reach (view_of_image o.start.count left)) = kept_agrees o turns_next left in
      let law = goes_on_after_cut K laws line_next (k + 1) q.machine q'.machine m
      (tear plan.config.tears q.passed) m'.image m'.wear noted.steps.is_step.at_next cut.powered cut.cut.crash in
      let was : K.view line_next q'.machine m' ≡ view_of_image o.start.count left = ap (K.view line_next q'.machine) device ∙ law.1 in
      let was_at : K.is_at line_next (k + 1) q'.machine m' = subst (λ d. K.is_at line_next (k + 1) q'.machine d) (sym device) law.0 in
      let so_far : AgreeBelow line_next (turns_cut m') (reach (K.view line_next q'.machine m')) =
      subst (λ (w : View). AgreeBelow line_next (turns_cut m') (reach w)) (sym was) kept in
      let found : seen K o (world_at q' m' (k + 1) (turns_cut m')) ≡ view_of_image o.start.count left =
      (laws.seen_alike line_next (turns_cut m') (k + 1) q'.machine m' was_at so_far).view ∙ was in
      let off : IsCutOff K o (tear plan.config.tears q.passed) x (world_at q' m' (k + 1) (turns_cut m')) = record {
        cut = cut.cut;
        powered = cut.powered;
        dram = cut.dram;
        kept = refl;
        at_moment = laws.agrees line_next (turns_cut m') (k + 1) q'.machine m' was_at so_far;
        found = found;
        next_is = ap (λ (y : Progress M). world_at y m' (k + 1) (turns_cut m')) cut.same
            ∙ ap (λ c. world_at (record q { machine = q'.machine; passed = q.passed + 1; fresh = true; events = q.events ++ Cut (q.passed + 1) c ∷ []; turns = q'.turns }) m' (k + 1) (turns_cut m')) at_cycle;
      } in
      let events : q'.events ≡ q.events ++ Cut (q.passed + 1) cycle ∷ [] = ap (λ (y : Progress M). y.events) cut.same in
      let releases : released_of o q'.events ≡ released_of o q.events = ap (released_of o) events ∙ released-cut o q.events (q.passed + 1) cycle in (
        record {
          cycle = record {
            between = x;
            steps = noted.steps;
            cut = subst (λ b. MatchBool b (IsCutOff K o (tear plan.config.tears q.passed) x (world_at q' m' (k + 1) (turns_cut m')))
                (world_at q' m' (k + 1) (turns_cut m') ≡ x)) (sym is_cut) off;
          };
          listed = cut.cleared ∙ sym (ap (λ (w : View). last_turns w.retired (turns_cut m')) found
              ∙ ap (λ c. last_turns c (turns_cut m')) (image_retired o.start.count left) ∙ last_none (turns_cut m'));
          turns_room = subst (HasTurnsRoom plan.geometry) (sym cut.turns_room) noted.turns_room;
          by_step = noted.by_step;
          has_fallen = is_cut;
          released = ap (λ (y : Progress M). y.released) cut.same ∙ noted.released ∙ ap length (sym releases);
          releases = releases ∙ noted.releases;
          grew = (_, events ∙ ap (λ (l : List Event). l ++ Cut (q.passed + 1) cycle ∷ []) listed_all ∙ append_assoc p.events _ (Cut (q.passed + 1) cycle ∷ []));
          room = ap (λ (d : Device). d.left_room) device ∙ (TakesStep-framed K o _ _ noted.steps).left_room;
          faults = ap (λ (d : Device). d.faults) device ∙ noted.faults;
          on_terminal = ap (λ (y : Progress M). y.terminal_failed) cut.same ∙ noted.on_terminal;
          on_report = ap (λ (y : Progress M). y.report_failed) cut.same ∙ noted.on_report;
        },
        ap (λ v. is_halt v.phase) found ∙ image_going o.start.count left,
      )

  -- memory ran out before a cut that falls after the cycle
  pub broken_cut : (q' : Progress M) (m' : Device) → ended ≡ None
      → due_at (k + 1) ≡ true → q' ≡ q → m' ≡ m → IsBroken K plan p q' n m' k bytes × Breaks K plan p q' n m' k turns bytes Memory
  broken_cut q' m' is due same device =
      let v : View = seen_first in
      let next : View = seen_next in
      let end : IsEnd line_next v next None = subst (IsEnd line_next v next) is noted.is_end in
      let reporting : ReportingFailed K (origin_of plan) (world_at p n k turns) q.events (LeftAlone K (origin_of plan) plan.config.cuts m) = record {
        next = world_next;
        steps = noted.steps;
        part = _;
        rest = [];
        grew = listed_all;
        split = sym (append-nil q.events);
        unended = events_end line_next p.fresh v noted.steps.r.did next (k + 1) ∙ end;
        why = (refl, inr (due_both (is_halt next.phase) _ (going_on is) due));
      } in
      let broken : IsBroken K plan p q n m k bytes = record {
        rest = [];
        releases = noted.releases ∙ sym (append-nil (released_of (origin_of plan) p.events ++ bytes));
        grew = (_, listed_all);
        on_terminal = noted.on_terminal;
        on_report = noted.on_report;
      } in
      let here : IsBroken K plan p q n m k bytes × Breaks K plan p q n m k turns bytes Memory = (broken, (reporting, noted.faults)) in
      subst (λ (y : Progress M). IsBroken K plan p y n m' k bytes × Breaks K plan p y n m' k turns bytes Memory) (sym same)
      (subst (λ (d : Device). IsBroken K plan p q n d k bytes × Breaks K plan p q n d k turns bytes Memory) (sym device) here)

  -- a cut that falls after the cycle can be made: there is room for its image
  pub can_cut : (fitted : Device) (cycle : ℕ) → IsPlanned plan → GoesOn K plan fitted p n k turns
      → due_at cycle ≡ true → CanCut K plan q m
  can_cut fitted cycle planned g due =
      let few : q.passed < length plan.config.cuts =
      ltb-true q.passed (length plan.config.cuts) (and_parts (nat_lt q.passed (length plan.config.cuts)) _ due).0 in
      let left : length m.left ≡ q.passed = ap length (TakesStep-framed K (origin_of plan) _ _ noted.steps).left
      ∙ (good_of K plan fitted p n k turns planned g).stands.left ∙ sym passed_same in
      let room : m.left_room ≡ length plan.config.cuts + 1 = (TakesStep-framed K (origin_of plan) _ _ noted.steps).left_room ∙ g.room in
      record { cycles = k + 1; turns = turns_next; at_moment = noted.steps.is_step.at_next; room = omega (arith, left, room, few); few = few }

-- ---- a quiet cycle

-- what has no event of its own reports none
none_reported : (o : Origin) (v : View) (did : Did) (cycle : ℕ) → is_reported did ≡ false → did_events o v did cycle ≡ []
none_reported o v Loaded cycle h = absurd (cc)
none_reported o v (Restarted epoch count) cycle h = absurd (cc)
none_reported o v (Sealed epoch count cause) cycle h = absurd (cc)
none_reported o v (Committed epoch overlapped) cycle h = absurd (cc)
none_reported o v did cycle h = refl

-- what has no event of its own shows no console
hidden_none : (did : Did) → is_reported did ≡ false → shows_console did ≡ false
hidden_none Loaded h = absurd (cc)
hidden_none (Restarted epoch count) h = absurd (cc)
hidden_none (Committed epoch overlapped) h = absurd (cc)
hidden_none did h = refl

-- what has no event of its own leaves the list of turns
list_quiet : (did : Did) (l : List ℕ) → is_reported did ≡ false → l ≡ list_after did l
list_quiet (Sealed epoch count cause) l h = absurd (cc)
list_quiet did l h = refl

-- ---- a step and its events

-- what a step that succeeded is, along the turns that are reported once it is done
pub record StepsAlong {M : Type 0} (K : KindOf M) (plan : Plan) (p : Progress M) (n : Device) (k : ℕ) (turns : List ℕ) (pick : Pick)
    (next : M) (m : Device) (r : Stepped) : Type 0 where
  pub there : IsThere (line_of plan turns) (seen K (origin_of plan) (world_at p n k turns)) r.did
  pub agree : AgreeBelow (line_of plan turns) (turns_then plan turns r.did) (reach (seen K (origin_of plan) (world_at p n k turns)))
  pub alike : K.view (line_of plan (turns_then plan turns r.did)) p.machine n ≡ seen K (origin_of plan) (world_at p n k turns)
  pub is_step : IsStep K (line_of plan (turns_then plan turns r.did)) k pick p.machine next n m r

module _ {M : Type 0} (K : KindOf M) (laws : IsLawful K) (plan : Plan) (fitted : Device) (p : Progress M) (n : Device) (k : ℕ)
    (turns : List ℕ) (planned : IsPlanned plan)
    (g : GoesOn K plan fitted p n k turns) where
  -- what is there before the step
  abbrev seen_here : View
  seen_here = seen K (origin_of plan) (world_at p n k turns)

  -- the start is the run's, whatever turns are reported
  pub begins_of : (t : List ℕ) → Begins (line_of plan t) plan.start
  begins_of t = record { state = refl; input = refl; kept = refl }

  pub at_of : K.is_at (line_of plan turns) k p.machine n
  at_of = (good_of K plan fitted p n k turns planned g).stands.at_moment

  -- a step may be asked for
  pub can_step : k < 2 ^ 62 → CanStep K plan.start p.machine n
  can_step few = record { o = line_of plan turns; cycles = k; begins = begins_of turns; at_moment = at_of; few = few }

  pub steps_of : (pick : Pick) (next : M) (m : Device) (r : Stepped) → k < 2 ^ 62
      → ((o : Origin) (i : ℕ) → Begins o plan.start → K.is_at o i p.machine n → i < 2 ^ 62
      → IsThere o (K.view o p.machine n) r.did × (HasTurn o (K.view o p.machine n) r.did → IsStep K o i pick p.machine next n m r))
      → StepsAlong K plan p n k turns pick next m r
  steps_of pick next m r few simulates =
      let v : View = seen_here in
      let all : HasItsTurns (line_of plan turns) v = (good_of K plan fitted p n k turns planned g).stands.listed_all in
      let there : IsThere (line_of plan turns) v r.did = (simulates (line_of plan turns) k (begins_of turns) at_of few).0 in
      let agree : AgreeBelow (line_of plan turns) (turns_then plan turns r.did) (reach v) = after_agrees (origin_of plan) turns v r.did all there in
      let mine : HasTurn (line_of plan (turns_then plan turns r.did)) v r.did = after_has (origin_of plan) turns v r.did all there in
      let alike : K.view (line_of plan (turns_then plan turns r.did)) p.machine n ≡ v =
      (laws.seen_alike (line_of plan turns) (turns_then plan turns r.did) k p.machine n at_of agree).view in
      let at_then : K.is_at (line_of plan (turns_then plan turns r.did)) k p.machine n =
      laws.agrees (line_of plan turns) (turns_then plan turns r.did) k p.machine n at_of agree in
      record {
        there = there;
        agree = agree;
        alike = alike;
        is_step = (simulates (line_of plan (turns_then plan turns r.did)) k (begins_of (turns_then plan turns r.did)) at_then few).1
            (subst (λ (w : View). HasTurn (line_of plan (turns_then plan turns r.did)) w r.did) (sym alike) mine);
      }

  -- there is room to list the turn of a step
  pub steps_room : (pick : Pick) (next : M) (m : Device) (r : Stepped) → StepsAlong K plan p n k turns pick next m r
      → HasRoomToList plan.geometry.harts (bytes_of p.turns) (room_of p.turns) r.did
  steps_room pick next m r s =
      let v : View = seen_here in
      let after : View = K.view (line_of plan (turns_then plan turns r.did)) next m in
      let core : CoreStep (line_of plan (turns_then plan turns r.did)) v r.did after =
      subst (λ (w : View). CoreStep (line_of plan (turns_then plan turns r.did)) w r.did after) s.alike s.is_step.step in
      list_room (origin_of plan) turns (turns_then plan turns r.did) v after (marks_of (origin_of plan) p.events) (bytes_of p.turns)
      (room_of p.turns) r.did
      (good_of K plan fitted p n k turns planned g).stands.fits g.listed g.turns_room core

  -- as few harts there are, its number is a byte
  pub steps_hart : (pick : Pick) (next : M) (m : Device) (r : Stepped) → StepsAlong K plan p n k turns pick next m r
      → (hart : ℕ) → r.did ≡ Retired hart → hart < 2 ^ 8
  steps_hart pick next m r s hart is =
      let v : View = seen_here in
      let at_work : IsAtWork (line_of plan turns) v hart = subst (IsThere (line_of plan turns) v) is s.there in
      let few : plan.geometry.harts ≤ 2 = harts_most plan.geometry planned.origin.geometry in
      let low : hart < plan.geometry.harts = at_work.there in
      omega (arith, few, low)

  -- ---- what is made of it

  module _ (q : Progress M) (m : Device) (r : Stepped) (s : IsStepped K plan p q n m k turns r) where
    -- what the step leaves
    abbrev turns_now : List ℕ
    turns_now = turns_then plan turns r.did

    abbrev line_now : Origin
    line_now = line_of plan turns_now

    abbrev seen_now : View
    seen_now = K.view line_now q.machine m

    events_q : q.events ≡ p.events
    events_q = ap (λ (y : Progress M). y.events) s.same

    fresh_q : q.fresh ≡ p.fresh
    fresh_q = ap (λ (y : Progress M). y.fresh) s.same

    -- the step of the view
    pub core_stepped : CoreStep line_now seen_here r.did seen_now
    core_stepped = subst (λ (w : View). CoreStep line_now w r.did seen_now) s.alike s.is_step.step

    ended_stepped : r.ended ≡ halts seen_here seen_now
    ended_stepped = s.is_step.ended ∙ ap (λ (w : View). halts w seen_now) s.alike

    -- the step of the run
    pub takes_step : TakesStep K (origin_of plan) (world_at p n k turns)
        (after_step K (origin_of plan) (world_at p n k turns) q.machine m turns_now r.did)
    takes_step = record {
      r = r;
      going = g.going;
      turns_are = refl;
      agree = s.agree;
      alike = s.alike;
      is_step = s.is_step;
      next_is = refl;
    }

    -- what a step lets be read
    pub CanGather-stepped : CanGather K line_now (k + 1) seen_here q m r
    CanGather-stepped = record {
      at_next = s.is_step.at_next;
      step = core_stepped;
      ended = ended_stepped;
      read = λ fresh. s.is_step.read ((good_of K plan fitted p n k turns planned g).stands.queue (sym fresh_q ∙ fresh));
      released = ap (λ (y : Progress M). y.released) s.same ∙ g.released
          ∙ ap (λ (y : Progress M). length (released_of (origin_of plan) y.events)) (sym s.same);
    }

    -- the turns that are listed are those that an epoch's end reports
    pub ends_stepped : EndsWithTurns line_now seen_here r.did (bytes_of q.turns)
    ends_stepped =
        let good = good_of K plan fitted p n k turns planned g in
        let v : View = seen_here in
        subst (EndsWithTurns line_now v r.did) (sym s.listed)
        (ends_with (origin_of plan) turns v seen_now (marks_of (origin_of plan) p.events)
        (bytes_of p.turns) good.stands.listed_all good.stands.fits g.listed r.did
        good.stands.leads core_stepped)

    -- the turns that are listed after the cycle, if the list is cleared at an epoch's end, are the turns since the last
    -- seal
    listed_stepped : (l : List ℕ) → l ≡ list_after r.did (bytes_of q.turns) → l ≡ last_turns seen_now.retired turns_now
    listed_stepped l is =
        let good = good_of K plan fitted p n k turns planned g in
        let v : View = seen_here in
        is ∙ ap (list_after r.did) s.listed
        ∙ listed_next (origin_of plan) turns v seen_now (marks_of (origin_of plan) p.events)
        (bytes_of p.turns) good.stands.listed_all good.stands.fits g.listed r.did core_stepped

    long_enough : (x y : ℕ) → x ≤ y → HasTurnsRoom plan.geometry x → HasTurnsRoom plan.geometry y
    long_enough x y le (inl one) = inl one
    long_enough x y le (inr long) = inr (omega (arith, le, long))

    -- a cycle is noted once all its events were made
    pub IsNoted-made : (t : Progress M) (ended : Option Status) (bytes : List ℕ)
        → t.events ≡ q.events ++ events_of line_now q.fresh seen_here r.did seen_now (k + 1)
        → t ≡ record q { events = t.events; released = t.released; fresh = false; turns = t.turns } → t.released ≡ q.released + length bytes
        → bytes_of t.turns ≡ list_after r.did (bytes_of q.turns) → room_of q.turns ≤ room_of t.turns
        → bytes ≡ due_of line_now q.events r.did seen_now → IsEnd line_now seen_here seen_now ended
        → IsNoted K plan p t n m k turns r ended bytes
    IsNoted-made t ended bytes made same released listed room bytes_is is_end =
        let o : Origin = origin_of plan in
        let v : View = seen K o (world_at p n k turns) in
        let next : View = seen_now in
        let good = good_of K plan fitted p n k turns planned g in
        let steps : TakesStep K o (world_at p n k turns)
        (world_at (record q { events = t.events; released = t.released; fresh = false; turns = t.turns }) m (k + 1) turns_now) =
        record {
          r = r;
          going = g.going;
          turns_are = refl;
          agree = s.agree;
          alike = s.alike;
          is_step = s.is_step;
          next_is =
              ap (λ (y : Progress M). world_at (record y { events = t.events; fresh = false }) m (k + 1) turns_now) s.same
              ∙ ap (λ (l : List Event). world_at (record p { machine = q.machine; mix = mix_next plan.geometry.harts p.mix; events = l; fresh = false }) m (k + 1) turns_now)
              (made ∙ ap (λ (l : List Event). l ++ events_of line_now q.fresh v r.did next (k + 1)) events_q
              ∙ ap (λ b. p.events ++ events_of line_now b v r.did next (k + 1)) fresh_q);
        } in
        let releases : released_of o t.events ≡ released_of o p.events ++ bytes =
        released-stepped K o (world_at p n k turns) _ (epoch_least o.geometry planned.origin.geometry) good.stands steps
        ∙ ap (λ (l : List ℕ). released_of o p.events ++ l) (ap (λ (e : List Event). due_of line_now e r.did next) (sym events_q) ∙ sym bytes_is) in
        let now : IsNoted K plan p (record q { events = t.events; released = t.released; fresh = false; turns = t.turns }) n m k turns r
        ended bytes = record {
          steps = steps;
          by_step = refl;
          is_end = is_end;
          listed = listed_stepped (bytes_of t.turns) listed;
          turns_room = long_enough (room_of p.turns) (room_of t.turns) (let first = s.turns_room in omega (arith, first, room)) g.turns_room;
          released = released ∙ ap (λ c. c + length bytes) (ap (λ (y : Progress M). y.released) s.same ∙ g.released)
              ∙ sym (length-append (released_of o p.events) bytes) ∙ ap length (sym releases);
          releases = releases;
          faults = s.faults;
          on_terminal = ap (λ (y : Progress M). y.terminal_failed) s.same;
          on_report = ap (λ (y : Progress M). y.report_failed) s.same;
        } in
        subst (λ (y : Progress M). IsNoted K plan p y n m k turns r ended bytes) (sym same) now

    -- only some events were made, as memory ran out
    pub IsBroken-made : (t : Progress M) → MadeSome t.events (events_of line_now q.fresh seen_here r.did seen_now (k + 1)) q.events
        → t ≡ record q { events = t.events } → IsBroken K plan p t n m k [] × Breaks K plan p t n m k turns [] Memory
    unfolding takes_step
    IsBroken-made t some same =
        let o : Origin = origin_of plan in
        let v : View = seen K o (world_at p n k turns) in
        let after : View = seen_now in
        let good = good_of K plan fitted p n k turns planned g in
        let all : List Event = events_of line_now p.fresh v r.did after (k + 1) in
        let split : all ≡ some.part ++ some.rest = ap (λ b. events_of line_now b v r.did after (k + 1)) (sym fresh_q) ∙ some.split in
        let next : World M = after_step K o (world_at p n k turns) q.machine m turns_now r.did in
        let did_events : t.events ≡ p.events ++ some.part = some.grew ∙ ap (λ (l : List Event). l ++ some.part) events_q in
        let more = released-part K o (world_at p n k turns) next
        (epoch_least o.geometry planned.origin.geometry) good.stands takes_step some.part some.rest (sym split) in
        let reporting : ReportingFailed K o (world_at p n k turns) t.events (LeftAlone K o plan.config.cuts m) = record {
          next = next;
          steps = takes_step;
          part = some.part;
          rest = some.rest;
          grew = did_events;
          split = ap (λ (l : List Event). p.events ++ l) split ∙ sym (append_assoc p.events some.part some.rest)
              ∙ ap (λ (l : List Event). l ++ some.rest) (sym did_events);
          unended = some.unended;
          why = (refl, inl some.some);
        } in
        let broken : IsBroken K plan p t n m k [] = record {
          rest = more.0;
          releases = ap (released_of o) did_events ∙ more.1 ∙ ap (λ (l : List ℕ). l ++ more.0) (sym (append-nil (released_of o p.events)));
          grew = (some.part, did_events);
          on_terminal = ap (λ (y : Progress M). y.terminal_failed) same ∙ ap (λ (y : Progress M). y.terminal_failed) s.same;
          on_report = ap (λ (y : Progress M). y.report_failed) same ∙ ap (λ (y : Progress M). y.report_failed) s.same;
        } in
        (broken, (reporting, s.faults))

    -- a read failed before any event was made
    pub IsBroken-read : (m' : Device) (e : CoreError) → HasFailedToRead e m m' → IsFramed m m' → IsReported r
        → IsBroken K plan p q n m' k [] × Breaks K plan p q n m' k turns [] (stop_of e)
    IsBroken-read m' e failed framed due =
        let o : Origin = origin_of plan in
        let v : View = seen K o (world_at p n k turns) in
        let after : View = seen_now in
        let next : World M = after_step K o (world_at p n k turns) q.machine m turns_now r.did in
        let all : List Event = events_of line_now p.fresh v r.did after (k + 1) in
        let some : all ≢ [] = events_due line_now p.fresh v after r.did (k + 1) (report_or_halts r (halts v after) ended_stepped due) in
        let reporting : (Why : World M → List Event → Type 0) → Why next all → ReportingFailed K o (world_at p n k turns) q.events Why =
        λ Why why. record {
          next = next;
          steps = takes_step;
          part = [];
          rest = events_of line_now p.fresh v r.did after (k + 1);
          grew = events_q ∙ sym (append-nil p.events);
          split = ap (λ (l : List Event). l ++ events_of line_now p.fresh v r.did after (k + 1)) (sym events_q);
          unended = refl;
          why = why;
        } in
        let broken : IsBroken K plan p q n m' k [] = record {
          rest = [];
          releases = ap (released_of o) events_q ∙ sym (append-nil (released_of o p.events)) ∙ sym (append-nil (released_of o p.events ++ []));
          grew = ([], events_q ∙ sym (append-nil p.events));
          on_terminal = ap (λ (y : Progress M). y.terminal_failed) s.same;
          on_report = ap (λ (y : Progress M). y.report_failed) s.same;
        } in
        by_error e failed broken all some reporting events_q
      where
        by_error : (e : CoreError) → HasFailedToRead e m m' → IsBroken K plan p q n m' k [] → (all : List Event) → all ≢ []
            → ((Why : World M → List Event → Type 0) → Why (after_step K (origin_of plan) (world_at p n k turns) q.machine m turns_now
            r.did) all → ReportingFailed K (origin_of plan) (world_at p n k turns) q.events Why)
            → q.events ≡ p.events → IsBroken K plan p q n m' k [] × Breaks K plan p q n m' k turns [] (stop_of e)
        by_error NvmFailed f broken all some reporting events = (
          broken,
          (inr (reporting (ReadFailed (world_at p n k turns) q.events m') (record { due = some; nothing_reported = events; failed = f.0; framed = framed; rose = f.1 })), record { events = events; none = refl; rose = subst (λ c. Rose c m'.faults) s.faults f.1 }),
        )
        by_error (NoMemory x) f broken all some reporting events = (
          broken,
          (reporting (LeftAlone K (origin_of plan) plan.config.cuts m') (f, inl some), ap (λ (d : Device). d.faults) f ∙ s.faults),
        )

    -- the console's bytes are few
    pub few_released : (bytes : List ℕ) → bytes ≡ due_of line_now q.events r.did seen_now → q.released + length bytes < 2 ^ 64
    unfolding takes_step
    few_released bytes due =
        let o : Origin = origin_of plan in
        let good = good_of K plan fitted p n k turns planned g in
        let after : View = seen_now in
        let next : World M = after_step K o (world_at p n k turns) q.machine m turns_now r.did in
        let releases : released_of o next.events ≡ released_of o p.events ++ bytes =
        released-stepped K o (world_at p n k turns) next (epoch_least o.geometry planned.origin.geometry) good.stands takes_step
        ∙ ap (λ (l : List ℕ). released_of o p.events ++ l) (ap (λ (e : List Event). due_of line_now e r.did after) (sym events_q) ∙ sym due) in
        let released : q.released ≡ length (released_of o p.events) = ap (λ (y : Progress M). y.released) s.same ∙ g.released in
        let sum : length (released_of o next.events) ≡ length (released_of o p.events) + length bytes =
        ap length releases ∙ length-append (released_of o p.events) bytes in
        let few : length (released_of o next.events) < 2 ^ 64 = length-released o next.events planned.origin in
        omega (arith, released, sum, few)

    -- ---- a quiet cycle

    -- a quiet step makes a cycle without an event
    pub quiet_goes : IsQuiet plan.config.cuts q r (k + 1) → Passes K plan p q n m k turns r []
    quiet_goes quiet =
        let o : Origin = origin_of plan in
        let v : View = seen K o (world_at p n k turns) in
        let next : View = seen_now in
        let going : halts v next ≡ false = sym ended_stepped ∙ quiet.going in
        let reload : reload_events q.fresh next ≡ [] = ap (λ b. reload_events b next) quiet.later in
        let end : end_events line_now v next (k + 1) ≡ [] =
        ap (λ b. if b then EndedEvent (at line_now next.count).status next.count (k + 1) (at line_now next.count) ∷ [] else []) going in
        let none : events_of line_now q.fresh v r.did next (k + 1) ≡ [] =
        ap (λ (l : List Event). (l ++ did_events line_now v r.did (k + 1)) ++ end_events line_now v next (k + 1)) reload
        ∙ ap (λ (l : List Event). l ++ end_events line_now v next (k + 1)) (none_reported line_now v r.did (k + 1) quiet.unlisted) ∙ end in
        let noted : IsNoted K plan p q n m k turns r None [] =
        IsNoted-made q None []
        (sym (append-nil q.events) ∙ ap (λ (l : List Event). q.events ++ l) (sym none))
        (ap (λ b. record q { fresh = b }) quiet.later) (omega arith) (list_quiet r.did (bytes_of q.turns) quiet.unlisted) (omega arith)
        (due_hidden line_now next r.did q.events [] (hidden_none r.did quiet.unlisted) refl) going in
        done_going K laws plan p q n m k turns r None [] noted refl (k + 1) refl quiet.uncut

-- the step itself failed
pub IsBroken-stuck : {M : Type 0} (K : KindOf M)
    → (plan : Plan) (fitted : Device) (p q : Progress M) (n m : Device) (k : ℕ) (turns : List ℕ) → GoesOn K plan fitted p n k turns
    → IsStuck K plan p q n m turns → IsBroken K plan p q n m k [] × Breaks K plan p q n m k turns [] Nvm
IsBroken-stuck {M = M} K plan fitted p q n m k turns g s =
    let o : Origin = origin_of plan in
    let events_q : q.events ≡ p.events = ap (λ (y : Progress M). y.events) s.same in (
      record {
        rest = [];
        releases = ap (released_of o) events_q ∙ sym (append-nil (released_of o p.events)) ∙ sym (append-nil (released_of o p.events ++ []));
        grew = ([], events_q ∙ sym (append-nil p.events));
        on_terminal = ap (λ (y : Progress M). y.terminal_failed) s.same;
        on_report = ap (λ (y : Progress M). y.report_failed) s.same;
      },
      (inl (record { going = g.going; next = q.machine; leaves = s.leaves; framed = s.framed; rose = s.rose; nothing_reported = events_q }), record { events = events_q; none = refl; rose = s.rose }),
    )

-- ---- a step and all that was read for its events, from what the calls promise

module _ {M : Type 0} (K : KindOf M) (laws : IsLawful K) (plan : Plan) (fitted : Device) (p q : Progress M) (n m : Device) (k : ℕ)
    (turns : List ℕ) (r : Stepped) (readings : Readings) (cycle : ℕ) (planned : IsPlanned plan)
    (ready : IsReady K plan fitted p q n m k turns r readings cycle) where
  abbrev line : Origin
  line = line_of plan (turns_then plan turns r.did)

  abbrev before : View
  before = seen K (origin_of plan) (world_at p n k turns)

  abbrev after : View
  after = K.view line q.machine m

  -- a fact of a step holds in every run for which this was read
  abbrev ForReadings : (Origin → Bool → View → View → Type 0) → Type 0
  ForReadings Holds =
      (o : Origin) (fresh : Bool) (v next : View) → readings.reload ≡ (fresh && loads next) → EndsWithTurns o v r.did (bytes_of q.turns)
      → Restores o r.did readings.restored → IsEnding o v next readings.ended → Holds o fresh v next

  -- the events of a step are made
  abbrev AllMade : List Event → Type 0
  AllMade e = ForReadings (λ o fresh v next. e ≡ q.events ++ events_of o fresh v r.did next cycle)

  -- the first events of a step are made
  abbrev SomeMade : List Event → Type 0
  SomeMade e = ForReadings (λ o fresh v next. MadeSome e (events_of o fresh v r.did next cycle) q.events)

  of_run : (Holds : Origin → Bool → View → View → Type 0) → ForReadings Holds → Holds line q.fresh before after
  of_run Holds all =
      all line q.fresh before after ready.gathered.reload (ends_stepped K laws plan fitted p n k turns planned ready.goes q m r ready.stepped)
      ready.gathered.restored ready.gathered.ended

  all_of : (e : List Event) → AllMade e → e ≡ q.events ++ events_of line q.fresh before r.did after cycle
  all_of e all = of_run (λ o fresh v next. e ≡ q.events ++ events_of o fresh v r.did next cycle) all

  some_of : (e : List Event) → SomeMade e → MadeSome e (events_of line q.fresh before r.did after cycle) q.events
  some_of e some = of_run (λ o fresh v next. MadeSome e (events_of o fresh v r.did next cycle) q.events) some

  pub noted_ready : (ended : Option Status) (e : List Event) (len : ℕ) (t : Bytes) → AllMade e
      → ((o : Origin) (v next : View) → IsEnding o v next readings.ended → IsEnd o v next ended)
      → len ≡ length (bytes_of readings.bytes) → bytes_of t ≡ list_after r.did (bytes_of q.turns) → room_of t ≡ room_of q.turns
      → IsNoted K plan p (record q { events = e; released = q.released + len; fresh = false; turns = t }) n m k turns r ended
      (bytes_of readings.bytes)
  noted_ready ended e len t all is_end len_is listed room =
      let Made : ℕ → Type 0 = λ c. e ≡ q.events ++ events_of line q.fresh before r.did after c in
      IsNoted-made K laws plan fitted p n k turns planned ready.goes q m r ready.stepped
      (record q { events = e; released = q.released + len; fresh = false; turns = t }) ended (bytes_of readings.bytes)
      (subst Made ready.at_cycle (all_of e all)) refl (ap (λ l. q.released + l) len_is) listed (omega (arith, room)) ready.gathered.bytes
      (is_end line before after ready.gathered.ended)

  pub broken_ready : (e : List Event) → SomeMade e
      → IsBroken K plan p (record q { events = e }) n m k [] × Breaks K plan p (record q { events = e }) n m k turns [] Memory
  broken_ready e some =
      let Made : ℕ → Type 0 = λ c. MadeSome e (events_of line q.fresh before r.did after c) q.events in
      IsBroken-made K laws plan fitted p n k turns planned ready.goes q m r ready.stepped (record q { events = e })
      (subst Made ready.at_cycle (some_of e some)) refl

  -- once all events of a step were made, there are no fewer than before
  pub more_noted : (e : List Event) → AllMade e → length q.events ≤ length e
  more_noted e all =
      let is : length e ≡ length q.events + _ = ap length (all_of e all) ∙ length-append q.events _ in
      omega (arith, is)

  pub more_broken : (e : List Event) → SomeMade e → length q.events ≤ length e
  more_broken e some =
      let made = some_of e some in
      let is : length e ≡ length q.events + length made.part = ap length made.grew ∙ length-append q.events made.part in
      omega (arith, is)
