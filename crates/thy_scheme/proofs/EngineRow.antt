-- A step of the engine simulates the run: with the last one the sealed checkpoint is the committed one.
use Rattle.std.proofs.Common.{◌≡◌, ◌≢◌, ℕ, ◌+◌, ◌<◌, ◌≤◌, Bool, true, false, not, if◌then◌else◌, length, unwrap_or, Option, Some, None, refl, sym, ◌∙◌, ap, ap₂, subst, arith}
use Rattle.thy_block.specs.declared.cause.EndCause.{EndCause}
use Rattle.thy_block.specs.declared.mark.Mark.{Mark}
use Rattle.thy_block.specs.Device.{Device}
use Rattle.thy_block.specs.Marks.{mark}
use Rattle.thy_cache.specs.Contents.{Contents}
use Rattle.thy_hart.specs.HartState.{HartState}
use Rattle.thy_hart.specs.Moments.{moment, moves_left}
use Rattle.thy_layout.specs.declared.engine_step.EngineStep.{EngineStep}
use Rattle.thy_layout.specs.declared.engine_step.EngineStep.TheVariants.{Idle, Copied, PageBlock, StateBlock, TableBlock, Barrier, CommitWritten, Committed}
use Rattle.thy_computer.specs.declared.did.Did.{Did}
use Rattle.thy_computer.specs.declared.did.Did.TheVariants.{Engine, Committed as DidCommit}
use Rattle.thy_computer.specs.declared.view.Phase.TheVariants.{Boot, Run, Halt}
use Rattle.thy_computer.specs.Action.{Acts}
use Rattle.thy_computer.specs.CoreStep.{phase_at, busier, CoreStep}
use Rattle.thy_computer.specs.Dram.{ActsOnDram, WritesBlock}
use Rattle.thy_computer.specs.Origin.{Origin, at, runs_at}
use Rattle.thy_computer.specs.NextActor.{has_stopped}
use Rattle.thy_computer.specs.Work.{adds_copies, GetsDone}
use Rattle.thy_scheme.specs.SchemeStore.{held_by_scheme}
use Rattle.thy_scheme.specs.Scheme.{SchemeOf}
use Rattle.thy_scheme.specs.Calls.{queued_in, Keeps, OwesNoMore, Engines, engine_did}
use Rattle.thy_scheme.specs.MachineCalls.{after_call, phase_after, after_engine}
use Rattle.thy_scheme.specs.Machine.{Machine, run_view, moment_of, moves_in, gauge_of}
use Rattle.thy_scheme.specs.Pace.{cycles_left, most_spent}
use Rattle.thy_scheme.specs.Rows.{SimulatesCycle, At, EngineSimulates}
use Rattle.thy_scheme.specs.Sound.{epochs_ahead, SoundRun}
use Rattle.thy_scheme.proofs.KeepsLaws.{run_of, runs_behind, simulates_by, takes_none, left_on, held_kept, follows_kept, front_kept, counted_kept, epoch_kept, hart_left_kept, paced_kept, sound_kept, up_after}
use Rattle.thy_scheme.proofs.WorkLaws.{NoMore, moves_fewer}

-- ---- the phase after a commit

ended_phase : (ends runs : Bool) → ends ≡ not runs → (if ends then Halt else Run) ≡ (if runs then Run else Halt)
ended_phase true true e = absurd (cc)
ended_phase true false e = refl
ended_phase false true e = refl
ended_phase false false e = absurd (cc)

ended_behind : (ends : Bool) → (if ends then Halt else Run) ≢ Boot
ended_behind true = λ e. absurd (cc)
ended_behind false = λ e. absurd (cc)

stops_where : (ends runs : Bool) → ends ≡ not runs → (if ends then Halt else Run) ≡ Halt → runs ≡ false
stops_where ends true e halts = absurd (let going : (if ends then Halt else Run) ≡ Run = ap (λ (b : Bool). if b then Halt else Run) e in cc)
stops_where ends false e halts = refl

goes_where : (ends runs : Bool) → ends ≡ not runs → (if ends then Halt else Run) ≡ Run → not runs ≡ false
goes_where ends true e goes = refl
goes_where ends false e goes = absurd (let halted : (if ends then Halt else Run) ≡ Halt = ap (λ (b : Bool). if b then Halt else Run) e in cc)

module _ {S : Type 0} (K : SchemeOf S) (o : Origin) (cycles : ℕ) (m : Machine S) (n : Device) (t : S) (new : Device)
    (here : At K o cycles m n) (phase : m.phase ≡ Run) where
  behind : m.phase ≢ Boot
  behind = runs_behind m.phase phase

  run : SoundRun K o m n
  run = run_of K o cycles m n here.sound behind

  -- one cycle more was spent, and the engine has one less
  spends : (step : EngineStep) → Engines K o m.marks step m.scheme n t new
      → m.spent + 1 + cycles_left K o.geometry (after_engine step t m) new < most_spent K o.geometry
  spends step e =
      let spent : m.spent + cycles_left K o.geometry m n < most_spent K o.geometry = run.paced.spent in
      let least = hart_left_kept K m (after_engine step t m) n new refl refl refl o.geometry e.keeps.left.merges in
      let owed = e.keeps.left.owed in
      let promotions = e.keeps.left.promotions in
      let nearer = e.nearer in
      omega (arith, spent, least, owed, promotions, nearer)

  -- the step of the engine did what it reports
  abbrev HasDone : EngineStep → Type 0
  HasDone step = GetsDone (Engine step) (gauge_of K m n) (gauge_of K (after_call t m) new) (WritesBlock n new (K.dram m.scheme) (K.dram t))

  -- an item of the checkpoint leaves its marks
  item : (step : EngineStep) → K.is_sound o m.marks t new → Keeps K m.scheme n t new → OwesNoMore K m.scheme n t new
      → Acts (Engine step) n new → ActsOnDram n new (K.dram m.scheme) (K.dram t)
      → HasDone step → queued_in K t new ≤ queued_in K m.scheme n + 1
      → m.spent + 1 + cycles_left K o.geometry (after_call t m) new < most_spent K o.geometry
      → CoreStep o (run_view m) (Engine step) (busier (run_view m)) → SimulatesCycle K o cycles (Engine step) m n (after_call t m) new
  item step sound keeps owes acts dram done queue below moves =
      simulates_by K o cycles (Engine step) m n (after_call t m) new here behind
      (record {
        behind = behind;
        geometry = refl;
        sized = λ sets ways size. size;
        up = up_after (Engine step) n new here.sound.up acts;
        unfailed = refl;
        moment = sound_kept K o m n t (m.spent + 1) new here.lawful run sound keeps (λ none. absurd (omega (arith, none))) below;
        step = moves;
        acts = acts;
        dram = dram;
        queues = queue;
        strides = refl;
        done = done;
        left = left_on K (Engine step) m n t (m.spent + 1) new keeps (λ e. owes);
        fewer = omega arith;
        room = takes_none K m n t new here.lawful keeps.held;
        hand = refl;
        exhausts = λ is. absurd (cc);
      })

  -- after a step that changes marks or phase too, no more is left
  left_behind : (next : Machine S) (did : Did) → Keeps K m.scheme n next.scheme new
      → (adds_copies did ≡ false → OwesNoMore K m.scheme n next.scheme new)
      → next.hart ≡ m.hart → next.cache ≡ m.cache → next.begun ≡ m.begun → NoMore K did m n next new
  left_behind next did keeps owes hart cache begun = record {
    moves = λ e.
        let over : Option EndCause = m.hart.epoch.over in
        let same = ap₂ (λ (h : HartState) (c : Contents). moves_left (moment h c (held_by_scheme K next.scheme new))) hart cache in
        let fewer : moves_in next.phase over m.begun (moment_of K next new) ≤ moves_in m.phase over m.begun (moment_of K m n) =
        moves_fewer m.phase next.phase over m.begun (moment_of K m n) (moment_of K next new) phase same in
        subst (λ b. moves_in next.phase next.hart.epoch.over b (moment_of K next new) ≤ moves_in m.phase over m.begun (moment_of K m n)) (sym begun)
        (subst (λ (h : HartState). moves_in next.phase h.epoch.over m.begun (moment_of K next new) ≤ moves_in m.phase over m.begun (moment_of K m n)) (sym hart) fewer);
    owed = owes;
    owed_in_all = λ e. keeps.left.owed;
    promotions = λ e. keeps.left.promotions;
  }

  -- a step of the engine that writes the commit block
  commit_written : m.marks.written ≡ false → (s : Mark) → m.marks.sealed ≡ Some s → Engines K o m.marks CommitWritten m.scheme n t new
      → SimulatesCycle K o cycles (Engine CommitWritten) m n (after_engine CommitWritten t m) new
  commit_written unwritten s is e =
      let next : Machine S = after_engine CommitWritten t m in
      simulates_by K o cycles (Engine CommitWritten) m n next new here behind
      (record {
        behind = behind;
        geometry = refl;
        sized = λ sets ways size. size;
        up = up_after (Engine CommitWritten) n new here.sound.up (e.acts m.lap);
        unfailed = refl;
        moment = record {
          checkpoints = e.sound;
          held = held_kept K m next n new refl refl refl here.lawful e.keeps.held run.held;
          follows = follows_kept K m next n new refl refl refl o e.keeps.held.blocks run.follows;
          writes = run.writes;
          front = front_kept K m next n new refl refl refl o run.front;
          counted = counted_kept K m next n new refl refl refl o run.counted;
          epoch = epoch_kept K m next n new refl refl refl o (λ none. absurd (omega (arith, none))) run.epoch;
          numbered = record { epoch = run.numbered.epoch; sealed = run.numbered.sealed; unwritten = λ none. absurd (cc) };
          shown = record { done = run.shown.done; sealed = run.shown.sealed; ends = run.shown.ends };
          ended = record {
            sealed = λ a same stops. let x = run.ended.sealed a same stops in
                record { count_is = x.count_is; hand = x.hand; over = x.over; begun = x.begun };
            halted = λ halt. absurd (cc);
            live = run.ended.live;
          };
          paced = paced_kept K m next n new refl refl refl o.geometry refl e.keeps run.paced (spends CommitWritten e);
        };
        step = (phase, (unwritten, (s, is), refl));
        acts = e.acts m.lap;
        dram = e.dram;
        queues = e.queue;
        strides = refl;
        done = tt;
        left = left_behind next (Engine CommitWritten) e.keeps (λ none. e.owes) refl refl refl;
        fewer = omega arith;
        room = takes_none K m n t new here.lawful e.keeps.held;
        hand = refl;
        exhausts = λ moved. absurd (cc);
      })

  -- a step of the engine that makes the last barrier
  committed : (epoch : ℕ) (s : Mark) → m.marks.sealed ≡ Some s → s.epoch ≡ epoch → m.marks.written ≡ true
      → Engines K o m.marks (Committed epoch) m.scheme n t new
      → SimulatesCycle K o cycles (DidCommit epoch m.lap) m n (after_engine (Committed epoch) t m) new
  committed epoch s is of written e =
      let next : Machine S = after_engine (Committed epoch) t m in
      let did : Did = DidCommit epoch m.lap in
      let done : unwrap_or m.marks.sealed m.marks.done ≡ s = ap (λ x. unwrap_or x m.marks.done) is in
      let ends : m.ends ≡ not (runs_at o s.count) = run.shown.ends s is in
      let ahead : m.hart.epoch.number ≡ m.marks.done.epoch + 2 = run.numbered.epoch ∙ ap (λ x. m.marks.done.epoch + epochs_ahead x) is in
      simulates_by K o cycles did m n next new here behind
      (record {
        behind = subst (λ p. phase_after (Committed epoch) m.ends p ≢ Boot) (sym phase) (ended_behind m.ends);
        geometry = refl;
        sized = λ sets ways size. size;
        up = up_after did n new here.sound.up (e.acts m.lap);
        unfailed = refl;
        moment = record {
          checkpoints = e.sound;
          held = held_kept K m next n new refl refl refl here.lawful e.keeps.held run.held;
          follows = follows_kept K m next n new refl refl refl o e.keeps.held.blocks run.follows;
          writes = run.writes;
          front = front_kept K m next n new refl refl refl o run.front;
          counted = counted_kept K m next n new refl refl refl o run.counted;
          epoch = epoch_kept K m next n new refl refl refl o (λ none. absurd (omega (arith, none))) run.epoch;
          numbered = record {
            epoch = omega (arith, ahead, run.numbered.sealed s is, ap (λ (a : Mark). a.epoch) done);
            sealed = λ a none. absurd (cc);
            unwritten = λ none. refl;
          };
          shown = record {
            done = subst (λ (a : Mark). m.consoles.sealed ≡ length (at o a.count).console) (sym done) (run.shown.sealed s is);
            sealed = λ a none. absurd (cc);
            ends = λ a none. absurd (cc);
          };
          ended = record {
            sealed = λ a none stops. absurd (cc);
            halted = λ halt.
                let x = run.ended.sealed s is (stops_where m.ends (runs_at o s.count) ends halt) in
                (record { count_is = x.count_is ∙ ap (λ (a : Mark). a.count) (sym done); hand = x.hand; over = x.over; begun = x.begun }, refl);
            live = λ goes over none. run.ended.live phase over
                (subst (λ x. has_stopped o x ≡ false) (sym is) (goes_where m.ends (runs_at o s.count) ends goes));
          };
          paced = paced_kept K m next n new refl refl refl o.geometry refl e.keeps run.paced (spends (Committed epoch) e);
        };
        step = record {
          phase = phase;
          written = written;
          laps = refl;
          count = s.count;
          sealed = is ∙ ap (λ (x : ℕ). Some (mark x s.count)) of;
          becomes = ap (λ p. record (busier (run_view m))
              { phase = p; done = Some (unwrap_or m.marks.sealed m.marks.done); sealed = None; written = false })
              (ended_phase m.ends (runs_at o s.count) ends)
              ∙ ap (λ x. record (busier (run_view m)) { phase = phase_at o s.count; done = x; sealed = None; written = false })
              (ap Some done ∙ sym is);
        };
        acts = e.acts m.lap;
        dram = e.dram;
        queues = e.queue;
        strides = refl;
        done = tt;
        left = left_behind next did e.keeps (λ none. absurd (cc)) refl refl refl;
        fewer = omega arith;
        room = takes_none K m n t new here.lawful e.keeps.held;
        hand = refl;
        exhausts = λ moved. absurd (cc);
      })

  engine_in : (step : EngineStep) → K.under_way m.scheme ≡ true → Engines K o m.marks step m.scheme n t new
      → SimulatesCycle K o cycles (engine_did m.lap step) m n (after_engine step t m) new
  engine_in Idle way e = absurd e.due
  engine_in Copied way e = item Copied e.sound e.keeps e.owes (e.acts m.lap) e.dram (e.writes refl) e.queue (spends Copied e) (phase, refl)
  engine_in PageBlock way e = item PageBlock e.sound e.keeps e.owes (e.acts m.lap) e.dram (e.writes refl) e.queue (spends PageBlock e) (phase, refl)
  engine_in StateBlock way e = item StateBlock e.sound e.keeps e.owes (e.acts m.lap) e.dram (e.writes refl) e.queue
      (spends StateBlock e) (phase, refl)
  engine_in TableBlock way e = item TableBlock e.sound e.keeps e.owes (e.acts m.lap) e.dram (e.writes refl) e.queue
      (spends TableBlock e) (phase, refl)
  engine_in Barrier way e = item Barrier e.sound e.keeps e.owes (e.acts m.lap) e.dram tt e.queue (spends Barrier e) (phase, refl)
  engine_in CommitWritten way e = let d = e.due in commit_written d.0 d.1.0 d.1.1 e
  engine_in (Committed epoch) way e = let d = e.due in committed epoch d.1.0 d.1.1 d.1.2 d.0 e

pub engine_simulates : {S : Type 0} (K : SchemeOf S) → EngineSimulates K
engine_simulates K o cycles m n t new step here phase way e = engine_in K o cycles m n t new here phase step way e
