-- What a cycle came to, once it was reported.
use Rattle.std.proofs.Common.{◌≡◌, ℕ, suc, ◌+◌, ◌<◌, Bool, true, false, None, Some, List, [], ◌∷◌, ◌++◌, length, take, refl, sym, ◌∙◌, ap, subst, inr, append-nil, arith}
use Rattle.thy_block.specs.Counts.{Rose}
use Rattle.thy_block.specs.Device.{Device}
use Rattle.thy_block.specs.Outside.{Stream, Took}
use Rattle.thy_block.proofs.Streams.{Took-append}
use Rattle.thy_computer.specs.Kind.{KindOf, IsLawful}
use Rattle.thy_text.specs.declared.reporting.Reporting.{Reporting}
use Rattle.thy_text.specs.Event.{Event}
use Rattle.thy_text.specs.Lines.{report_of}
use Rattle.thy_run.specs.Laws.{released_of}
use Rattle.thy_isa.specs.declared.state.Status.{Status}
use Rattle.thy_computer.specs.declared.did.Stepped.{Stepped}
use Rattle.thy_computer.specs.Views.{is_halt}
use Rattle.thy_run.specs.World.{Ran, seen}
use Rattle.thy_run.specs.declared.advance.Outcome.TheVariants.{Breaks as BreaksOff}
use Rattle.thy_run.specs.declared.ending.Ending.{Ending}
use Rattle.thy_run.specs.declared.ending.Stop.{Stop}
use Rattle.thy_run.specs.declared.ending.Stop.TheVariants.{Ended, Nvm, Memory, Terminal, Report, Limit}
use Rattle.thy_run.specs.declared.plan.Plan.{Plan}
use Rattle.thy_run.specs.declared.progress.Progress.{Progress}
use Rattle.thy_run.specs.Going.{origin_of, turns_then, given_of, world_at, IsDone, IsBroken, Breaks, AwaitsCut, IsCutOffTo, Finishes, reporting_of}
use Rattle.thy_run.specs.Sending.{Sent, Sends, Delivered}
use Rattle.thy_run.proofs.AdvanceLemmas.{cut_turns, done_cut, broken_cut}
use Rattle.thy_run.specs.Endings.{is_memory, IsSettled, StopFits}
use Rattle.thy_run.specs.Unfinished.{AtStop}
use Rattle.thy_run.specs.Rounds.{sink_stop, ending_of, Running, RunEndsAt, ComesTo}

-- ---- lines

first_same : {A : Type 0} (xs ys : List A) → take (length xs) (xs ++ ys) ≡ xs
first_same [] ys = refl
first_same (x ∷ xs) ys = ap (λ l. x ∷ l) (first_same xs ys)

take-all : {A : Type 0} (xs : List A) → take (length xs) xs ≡ xs
take-all [] = refl
take-all (x ∷ xs) = ap (λ l. x ∷ l) (take-all xs)

-- the report has to get the lines of all events
read_on : (reporting : Reporting) (failed : Bool) (before after more : List Event) (y z : Stream) → after ≡ before ++ more
    → Sends (report_of reporting (take (length before) after)) (report_of reporting after) failed y z
    → Sends (report_of reporting before) (report_of reporting after) failed y z
read_on reporting failed before after more y z grew two =
    let same : take (length before) after ≡ before = ap (take (length before)) grew ∙ first_same before more in
    subst (λ (l : List Event). Sends (report_of reporting l) (report_of reporting after) failed y z) same two

-- a sink took what was settled, and then what was added, or a first part
delivered_on : (failed : Bool) (before after : List ℕ) (x y z : Stream) → Took x y before → Sends before after failed y z
    → Delivered false failed before after x z
delivered_on failed before after x y z one two = record {
  more = two.more;
  unsent = [];
  is_text = two.grew ∙ sym (append-nil (before ++ two.more));
  whole = λ _. refl;
  middle = y;
  took = one;
  sent = two.sent;
}

-- a sink that did not fail took what was settled, and then what was added
took_on : (before after : List ℕ) (x y z : Stream) → Took x y before → Sends before after false y z → Took x z after
took_on before after x y z one two = subst (Took x z) (sym two.grew) (Took-append x y z before two.more one two.sent)

-- ---- a cycle with no cut

-- a sink failed
abbrev IsSinks : Stop → Type 0
IsSinks Terminal = Unit {0}
IsSinks Report = Unit {0}
IsSinks Nvm = ⊥
IsSinks (Ended status) = ⊥
IsSinks Memory = ⊥
IsSinks Limit = ⊥

-- a sink that took nothing
pub Took-none : (s : Stream) → Took s s []
Took-none s = record { taken = λ had e. e ∙ ap Some (sym (append-nil had)); faults = refl }

-- all of a text was settled, and taken
pub delivered_all : (failed : Bool) (text : List ℕ) (x z : Stream) → failed ≡ false → Took x z text → Delivered false failed text text x z
delivered_all failed text x z faults took = record {
  more = [];
  unsent = [];
  is_text = sym (append-nil (text ++ []) ∙ append-nil text);
  whole = λ _. refl;
  middle = z;
  took = took;
  sent = subst (λ b. Sent b z z []) (sym faults) (Took-none z);
}

-- what the report has of events, and what they settle for the terminal
abbrev told_of : Plan → List Event → List ℕ
told_of plan events = report_of (reporting_of plan) events

abbrev shown_of : Plan → List Event → List ℕ
shown_of plan events = released_of (origin_of plan) events

-- the report was given the lines of the events that came after others
abbrev SendsLines : Plan → List Event → List Event → Bool → Stream → Stream → Type 0
SendsLines plan before after failed x y = Sends (told_of plan (take (length before) after)) (told_of plan after) failed x y

module _ {M : Type 0} (K : KindOf M) (plan : Plan) (fitted : Device) (p q : Progress M) (n m : Device) (k : ℕ) (turns after : List ℕ)
    (bytes : List ℕ) (terminal_failed report_failed : Bool) (t0 t1 t2 r0 r1 r2 : Stream)
    (running : Running K plan fitted p n k turns t0 t1 r0 r1) (few : k < plan.geometry.limit) (sent : Sent terminal_failed t1 t2 bytes)
    (lines : SendsLines plan p.events q.events report_failed r1 r2) where
  -- how the run ends
  abbrev ending : Stop → ℕ → Ending
  ending stop cycles = record { stop = stop; events = q.events; cycles = cycles; terminal_failed = terminal_failed; report_failed = report_failed }

  module _ {r : Stepped} {fell : Bool} (d : IsDone K plan p q n m k turns after r fell bytes) where
    ran_on : Ran K (origin_of plan) (given_of plan fitted) (k + 1) (world_at q m (k + 1) after)
    ran_on =
        let e : suc k ≡ k + 1 = omega arith in
        subst (λ (j : ℕ). Ran K (origin_of plan) (given_of plan fitted) j (world_at q m (k + 1) after)) e
        (world_at p n k turns, running.goes.ran, d.cycle)

    shown_on : Sends (shown_of plan p.events) (shown_of plan q.events) terminal_failed t1 t2
    shown_on = record { more = bytes; grew = d.releases; sent = sent }

  lines_on : ((more : List Event) × (q.events ≡ p.events ++ more))
      → Sends (told_of plan p.events) (told_of plan q.events) report_failed r1 r2
  lines_on t = read_on (reporting_of plan) report_failed p.events q.events t.0 r1 r2 t.1 lines

  -- the cycle is done, and a sink failed
  done_stops : {r : Stepped} {fell : Bool} (stop : Stop) → IsDone K plan p q n m k turns after r fell bytes → IsSinks stop
      → StopFits plan.geometry.limit fitted m (ending stop (k + 1)) stop
      → RunEndsAt K plan fitted m (ending stop (k + 1)) t0 t2 r0 r2 (world_at q m (k + 1) after)
  done_stops stop d sinks fits = (
    record {
      stopped = record { last = world_at q m (k + 1) after; ran = ran_on d; at_stop = last_done stop sinks };
      few = omega arith;
      settled = p.events;
      is_settled = settled_at stop sinks d;
      shown_all = subst (λ b. Delivered b terminal_failed (shown_of plan p.events) (shown_of plan q.events) t0 t2) (sym (long stop sinks))
          (delivered_on terminal_failed (shown_of plan p.events) (shown_of plan q.events) t0 t1 t2 running.shown_all (shown_on d));
      read_all = delivered_on report_failed (told_of plan p.events) (told_of plan q.events) r0 r1 r2 running.read_all (lines_on d.grew);
      stop_fits = fits;
    },
    refl,
  )
    where
      long : (stop : Stop) → IsSinks stop → is_memory stop ≡ false
      long Terminal sinks = refl
      long Report sinks = refl
      long (Ended status) sinks = absurd sinks
      long Nvm sinks = absurd sinks
      long Memory sinks = absurd sinks
      long Limit sinks = absurd sinks

      last_done : (stop : Stop) → IsSinks stop → AtStop K (origin_of plan) plan.config.cuts (world_at q m (k + 1) after) q.events m stop
      last_done Terminal sinks = (refl, refl)
      last_done Report sinks = (refl, refl)
      last_done (Ended status) sinks = absurd sinks
      last_done Nvm sinks = absurd sinks
      last_done Memory sinks = absurd sinks
      last_done Limit sinks = absurd sinks

      settled_at : {r : Stepped} {fell : Bool} (stop : Stop) → IsSinks stop → IsDone K plan p q n m k turns after r fell bytes
          → IsSettled K (origin_of plan) (given_of plan fitted) (world_at q m (k + 1) after) p.events stop
      settled_at Terminal sinks d = (k, world_at p n k turns, running.goes.ran, d.cycle, refl)
      settled_at Report sinks d = (k, world_at p n k turns, running.goes.ran, d.cycle, refl)
      settled_at (Ended status) sinks d = absurd sinks
      settled_at Nvm sinks d = absurd sinks
      settled_at Memory sinks d = absurd sinks
      settled_at Limit sinks d = absurd sinks

  -- the cycle is done, and the program has ended
  done_ends : {r : Stepped} {fell : Bool} (status : Status) → IsDone K plan p q n m k turns after r fell bytes → terminal_failed ≡ false
      → report_failed ≡ false → StopFits plan.geometry.limit fitted m (ending (Ended status) (k + 1)) (Ended status)
      → RunEndsAt K plan fitted m (ending (Ended status) (k + 1)) t0 t2 r0 r2 (world_at q m (k + 1) after)
  done_ends status d on_terminal on_report fits = (
    record {
      stopped = record { last = world_at q m (k + 1) after; ran = ran_on d; at_stop = (refl, refl) };
      few = omega arith;
      settled = q.events;
      is_settled = refl;
      shown_all = delivered_all terminal_failed (shown_of plan q.events) t0 t2 on_terminal
          (took_on (shown_of plan p.events) (shown_of plan q.events) t0 t1 t2 running.shown_all
          (subst (λ b. Sends (shown_of plan p.events) (shown_of plan q.events) b t1 t2) on_terminal (shown_on d)));
      read_all = delivered_all report_failed (told_of plan q.events) r0 r2 on_report
          (took_on (told_of plan p.events) (told_of plan q.events) r0 r1 r2 running.read_all
          (subst (λ b. Sends (told_of plan p.events) (told_of plan q.events) b r1 r2) on_report (lines_on d.grew)));
      stop_fits = fits;
    },
    refl,
  )

  -- the cycle is not done
  broken_stops : (stop : Stop) → IsBroken K plan p q n m k bytes → Breaks K plan p q n m k turns bytes stop
      → (bytes ≡ [] → terminal_failed ≡ false) → (q.events ≡ p.events → report_failed ≡ false)
      → RunEndsAt K plan fitted m (ending stop k) t0 t2 r0 r2 (world_at p n k turns)
  broken_stops stop b why on_terminal on_report = (
    record {
      stopped = record { last = world_at p n k turns; ran = running.goes.ran; at_stop = begun stop why };
      few = omega arith;
      settled = p.events;
      is_settled = settled_at stop why;
      shown_all = shown stop why;
      read_all = delivered_on report_failed (told_of plan p.events) (told_of plan q.events) r0 r1 r2 running.read_all (lines_on b.grew);
      stop_fits = because stop why;
    },
    refl,
  )
    where
      begun : (stop : Stop) → Breaks K plan p q n m k turns bytes stop
          → AtStop K (origin_of plan) plan.config.cuts (world_at p n k turns) q.events m stop
      begun Nvm f = f.0
      begun Memory f = inr f.0
      begun (Ended status) f = absurd f
      begun Terminal f = absurd f
      begun Report f = absurd f
      begun Limit f = absurd f

      settled_at : (stop : Stop) → Breaks K plan p q n m k turns bytes stop
          → IsSettled K (origin_of plan) (given_of plan fitted) (world_at p n k turns) p.events stop
      settled_at Nvm f = refl
      settled_at Memory f = refl
      settled_at (Ended status) f = absurd f
      settled_at Terminal f = absurd f
      settled_at Report f = absurd f
      settled_at Limit f = absurd f

      shown : (stop : Stop) → Breaks K plan p q n m k turns bytes stop
          → Delivered (is_memory stop) terminal_failed (shown_of plan p.events) (shown_of plan q.events) t0 t2
      shown Nvm f = delivered_on terminal_failed (shown_of plan p.events) (shown_of plan q.events) t0 t1 t2 running.shown_all
          (record { more = bytes; grew = ap (released_of (origin_of plan)) f.1.events ∙ sym (append-nil (shown_of plan p.events)) ∙ ap (λ (l : List ℕ). shown_of plan p.events ++ l) (sym f.1.none); sent = sent })
      shown Memory f = record { more = bytes; unsent = b.rest; is_text = b.releases; whole = λ no. absurd (cc); middle = t1; took = running.shown_all; sent = sent }
      shown (Ended status) f = absurd f
      shown Terminal f = absurd f
      shown Report f = absurd f
      shown Limit f = absurd f

      because : (stop : Stop) → Breaks K plan p q n m k turns bytes stop → StopFits plan.geometry.limit fitted m (ending stop k) stop
      because Nvm f = (subst (λ c. Rose c m.faults) running.goes.faults f.1.rose, few, (on_terminal f.1.none, on_report f.1.events))
      because Memory f = (few, f.1 ∙ running.goes.faults)
      because (Ended status) f = absurd f
      because Terminal f = absurd f
      because Report f = absurd f
      because Limit f = absurd f

module _ {M : Type 0} (K : KindOf M) (plan : Plan) (fitted : Device) (p q : Progress M) (n m : Device) (k : ℕ) (turns : List ℕ) where
  -- the cycle is done, and a sink failed
  pub ends_unheard : (after : List ℕ) (r : Stepped) (fell : Bool) (bytes : List ℕ) (terminal_failed report_failed : Bool)
      (t0 t1 t2 r0 r1 r2 : Stream)
      → Running K plan fitted p n k turns t0 t1 r0 r1 → k < plan.geometry.limit → Sent terminal_failed t1 t2 bytes
      → SendsLines plan p.events q.events report_failed r1 r2
      → IsDone K plan p q n m k turns after r fell bytes → (stop : Stop) → sink_stop terminal_failed report_failed ≡ Some stop
      → RunEndsAt K plan fitted m (ending_of stop (record q { terminal_failed = terminal_failed; report_failed = report_failed }) (k + 1))
      t0 t2 r0 r2 (world_at q m (k + 1) after)
  ends_unheard after r fell bytes terminal_failed true t0 t1 t2 r0 r1 r2 running few sent lines d stop is =
      let same : Report ≡ stop = (cc) in
      subst (λ (x : Stop). RunEndsAt K plan fitted m (ending_of x (record q { terminal_failed = terminal_failed; report_failed = true })
      (k + 1)) t0 t2 r0 r2 (world_at q m (k + 1) after)) same
      (done_stops K plan fitted p q n m k turns after bytes terminal_failed true t0 t1 t2 r0 r1 r2 running few sent lines Report d tt
      (refl, d.faults ∙ running.goes.faults))
  ends_unheard after r fell bytes true false t0 t1 t2 r0 r1 r2 running few sent lines d stop is =
      let same : Terminal ≡ stop = (cc) in
      subst (λ (x : Stop). RunEndsAt K plan fitted m
      (ending_of x (record q { terminal_failed = true; report_failed = false }) (k + 1)) t0 t2 r0 r2 (world_at q m (k + 1) after)) same
      (done_stops K plan fitted p q n m k turns after bytes true false t0 t1 t2 r0 r1 r2 running few sent lines Terminal d tt
      (refl, refl, d.faults ∙ running.goes.faults))
  ends_unheard after r fell bytes false false t0 t1 t2 r0 r1 r2 running few sent lines d stop is = absurd (cc)

  -- the cycle is done, and the run continues
  pub Running-done : (after : List ℕ) (r : Stepped) (fell : Bool) (bytes : List ℕ) (terminal_failed report_failed : Bool)
      (t0 t1 t2 r0 r1 r2 : Stream)
      → Running K plan fitted p n k turns t0 t1 r0 r1 → k < plan.geometry.limit → Sent terminal_failed t1 t2 bytes
      → SendsLines plan p.events q.events report_failed r1 r2
      → IsDone K plan p q n m k turns after r fell bytes × (is_halt (seen K (origin_of plan) (world_at q m (k + 1) after)).phase ≡ false)
      → sink_stop terminal_failed report_failed ≡ None
      → Running K plan fitted (record q { terminal_failed = terminal_failed; report_failed = report_failed }) m (k + 1) after t0 t2 r0 r2
  Running-done after r fell bytes terminal_failed true t0 t1 t2 r0 r1 r2 running few sent lines c none = absurd (cc)
  Running-done after r fell bytes true false t0 t1 t2 r0 r1 r2 running few sent lines c none = absurd (cc)
  Running-done after r fell bytes false false t0 t1 t2 r0 r1 r2 running few sent lines c none = record {
    goes = record {
      ran = ran_on K plan fitted p q n m k turns after bytes false false t0 t1 t2 r0 r1 r2 running few sent lines c.0;
      going = c.1;
      listed = c.0.listed;
      turns_room = c.0.turns_room;
      released = c.0.released;
      room = c.0.room ∙ running.goes.room;
      faults = c.0.faults ∙ running.goes.faults;
      on_terminal = refl;
      on_report = refl;
    };
    shown_all = took_on (shown_of plan p.events) (shown_of plan q.events) t0 t1 t2 running.shown_all
        (shown_on K plan fitted p q n m k turns after bytes false false t0 t1 t2 r0 r1 r2 running few sent lines c.0);
    read_all = took_on (told_of plan p.events) (told_of plan q.events) r0 r1 r2 running.read_all
        (lines_on K plan fitted p q n m k turns after bytes false false t0 t1 t2 r0 r1 r2 running few sent lines c.0.grew);
  }

  -- the cycle is done, and the program has ended
  pub ends_finished : (r : Stepped) (bytes : List ℕ) (status : Status) (terminal_failed report_failed : Bool) (t0 t1 t2 r0 r1 r2 : Stream)
      → Running K plan fitted p n k turns t0 t1 r0 r1 → k < plan.geometry.limit → Sent terminal_failed t1 t2 bytes
      → SendsLines plan p.events q.events report_failed r1 r2
      → Finishes K plan p q n m k turns r bytes status → sink_stop terminal_failed report_failed ≡ None
      → RunEndsAt K plan fitted m (ending_of (Ended status) (record q { terminal_failed = terminal_failed; report_failed = report_failed })
      (k + 1)) t0 t2 r0 r2 (world_at q m (k + 1) (turns_then plan turns r.did))
  ends_finished r bytes status terminal_failed true t0 t1 t2 r0 r1 r2 running few sent lines c none = absurd (cc)
  ends_finished r bytes status true false t0 t1 t2 r0 r1 r2 running few sent lines c none = absurd (cc)
  ends_finished r bytes status false false t0 t1 t2 r0 r1 r2 running few sent lines c none =
      done_ends K plan fitted p q n m k turns (turns_then plan turns r.did) bytes false false t0 t1 t2 r0 r1 r2 running few sent lines
      status c.0 refl refl (c.2, (refl, refl), c.0.faults ∙ running.goes.faults)

  -- a cycle was begun, and none of its events was made
  pub ComesTo-unlisted : (after : List ℕ) (stop : Stop) (t0 t1 r0 r1 : Stream) → Running K plan fitted p n k turns t0 t1 r0 r1
      → k < plan.geometry.limit → q.events ≡ p.events → IsBroken K plan p q n m k [] × Breaks K plan p q n m k turns [] stop
      → ComesTo K plan fitted p q n m k turns after t0 t1 t1 r0 r1 r1 (BreaksOff stop)
  ComesTo-unlisted after stop t0 t1 r0 r1 running few same (broken, why) =
      let on_terminal : q.terminal_failed ≡ false = broken.on_terminal ∙ running.goes.on_terminal in
      let on_report : q.report_failed ≡ false = broken.on_report ∙ running.goes.on_report in
      let L : ℕ → Type 0 = λ i. Sends (told_of plan (take i q.events)) (told_of plan q.events) false r1 r1 in
      let all : Sends (told_of plan (take (length q.events) q.events)) (told_of plan q.events) false r1 r1 =
      record {
        more = [];
        grew = sym (append-nil (told_of plan q.events)) ∙ ap (λ (l : List Event). told_of plan l ++ []) (sym (take-all q.events));
        sent = Took-none r1;
      } in
      broken_stops K plan fitted p q n m k turns after [] q.terminal_failed q.report_failed t0 t1 t1 r0 r1 r1 running few
      (subst (λ b. Sent b t1 t1 []) (sym on_terminal) (Took-none t1))
      (subst (λ b. SendsLines plan p.events q.events b r1 r1) (sym on_report) (subst L (ap length same) all))
      stop broken why (λ _. on_terminal) (λ _. on_report)

  -- memory ran out for its events, of which the first were made, and the report was given their lines
  pub ComesTo-short : (after : List ℕ) (report_failed : Bool) (t0 t1 r0 r1 r2 : Stream) → Running K plan fitted p n k turns t0 t1 r0 r1
      → k < plan.geometry.limit → SendsLines plan p.events q.events report_failed r1 r2
      → (q.events ≡ p.events → report_failed ≡ false) → IsBroken K plan p q n m k [] × Breaks K plan p q n m k turns [] Memory
      → ComesTo K plan fitted p (record q { report_failed = report_failed }) n m k turns after t0 t1 t1 r0 r1 r2 (BreaksOff Memory)
  ComesTo-short after report_failed t0 t1 r0 r1 r2 running few lines on_report (broken, why) =
      let on_terminal : q.terminal_failed ≡ false = broken.on_terminal ∙ running.goes.on_terminal in
      broken_stops K plan fitted p q n m k turns after [] q.terminal_failed report_failed t0 t1 t1 r0 r1 r2 running few
      (subst (λ b. Sent b t1 t1 []) (sym on_terminal) (Took-none t1)) lines Memory broken why (λ _. on_terminal) on_report

-- ---- a cut after a cycle

module _ {M : Type 0} (K : KindOf M) (laws : IsLawful K) (plan : Plan) (fitted : Device) (p q : Progress M) (n m : Device) (k : ℕ)
    (turns : List ℕ) (r : Stepped) (bytes : List ℕ) (terminal_failed report_failed : Bool) (t0 t1 t2 r0 r1 r2 : Stream)
    (running : Running K plan fitted p n k turns t0 t1 r0 r1) (few : k < plan.geometry.limit) (sent : Sent terminal_failed t1 t2 bytes)
    (awaits : AwaitsCut K plan p q n m k turns r bytes) where
  -- power was cut, the cycle was reported, and a sink failed
  pub ends_cut : (q' : Progress M) (m' : Device) → IsCutOffTo K plan q q' m m' (k + 1)
      → SendsLines plan p.events q'.events report_failed r1 r2 → (stop : Stop) → sink_stop terminal_failed report_failed ≡ Some stop
      → RunEndsAt K plan fitted m' (ending_of stop (record q' { terminal_failed = terminal_failed; report_failed = report_failed }) (k + 1))
      t0 t2 r0 r2 (world_at q' m' (k + 1) (cut_turns K plan (turns_then plan turns r.did) m'))
  ends_cut q' m' cut lines stop is =
      ends_unheard K plan fitted p q' n m' k turns (cut_turns K plan (turns_then plan turns r.did) m') r true bytes terminal_failed
      report_failed t0 t1 t2 r0 r1 r2 running few sent lines
      (done_cut K laws plan p q n m k turns r None bytes awaits.noted q' m' refl (k + 1) refl awaits.due cut).0 stop is

  -- power was cut, the cycle was reported, and the run continues
  pub Running-cut : (q' : Progress M) (m' : Device) → IsCutOffTo K plan q q' m m' (k + 1)
      → SendsLines plan p.events q'.events report_failed r1 r2 → sink_stop terminal_failed report_failed ≡ None
      → Running K plan fitted (record q' { terminal_failed = terminal_failed; report_failed = report_failed }) m' (k + 1)
      (cut_turns K plan (turns_then plan turns r.did) m') t0 t2 r0 r2
  Running-cut q' m' cut lines none =
      Running-done K plan fitted p q' n m' k turns (cut_turns K plan (turns_then plan turns r.did) m') r true bytes terminal_failed
      report_failed t0 t1 t2 r0 r1 r2 running few sent lines
      (done_cut K laws plan p q n m k turns r None bytes awaits.noted q' m' refl (k + 1) refl awaits.due cut) none

  -- memory ran out, and what was made of the cycle was reported
  pub RunEnds-uncut : (bytes ≡ [] → terminal_failed ≡ false) → (q.events ≡ p.events → report_failed ≡ false)
      → SendsLines plan p.events q.events report_failed r1 r2
      → RunEndsAt K plan fitted m (record { stop = Memory; events = q.events; cycles = k; terminal_failed = terminal_failed; report_failed = report_failed }) t0 t2 r0 r2 (world_at p n k turns)
  RunEnds-uncut on_terminal on_report lines =
      let broken = broken_cut K laws plan p q n m k turns r None bytes awaits.noted q m refl awaits.due refl refl in
      broken_stops K plan fitted p q n m k turns turns bytes terminal_failed report_failed t0 t1 t2 r0 r1 r2 running few sent lines Memory
      broken.0 broken.1 on_terminal on_report
