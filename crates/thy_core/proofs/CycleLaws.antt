-- Each actor's cycle, from what its call leaves.
use Rattle.std.proofs.Common.{◌≡◌, ◌≢◌, ◌⊎◌, ℕ, ◌<◌, ◌≤◌, ◌==◌, Bool, List, true, false, if◌then◌else◌, length, Option, Some, None, Result, Ok, Err, IsErr, IfOk, OnErr, true≢false, refl, sym, ◌∙◌, ap, ap₂, subst, inl, inr, arith}
use Rattle.std.proofs.lemmas.Bool.{eq-eqb, ne_eqb}
use Rattle.thy_block.specs.declared.cause.EndCause.{EndCause}
use Rattle.thy_block.specs.declared.nvm.NvmError.{NvmError}
use Rattle.thy_block.specs.Counts.{Rose, RoseByOne}
use Rattle.thy_block.specs.Device.{Device, HasFailed, IsFramed, failed_calls, drained}
use Rattle.thy_block.specs.Geometry.{memory_blocks}
use Rattle.thy_block.specs.declared.store.Stored.{Stored}
use Rattle.thy_block.specs.declared.store.Stored.TheVariants.{Done, CopyFirst}
use Rattle.thy_cache.specs.declared.line.Flushed.{Flushed}
use Rattle.thy_cache.specs.declared.line.Flushed.TheVariants.{Clean, Line as StoredLine, CopyFirst as CopiedFirst}
use Rattle.thy_cache.specs.declared.line.Line.{Line}
use Rattle.thy_cache.specs.declared.line.Victim.{Victim}
use Rattle.thy_cache.specs.declared.line.Victim.TheVariants.{Room, Dirty}
use Rattle.thy_cache.specs.Contents.{Contents, dirty_count, dirty_line, victim_of, victim_line_of, evicted_for, flushed_from, StoresBy, FlushesBy}
use Rattle.thy_hart.specs.Bring.{BringsLine, BringsBy, EvictsBy, CallsStore}
use Rattle.thy_hart.specs.declared.hand.Hand.TheVariants.{Nothing as NoHand}
use Rattle.thy_hart.specs.declared.hand.HartStep.{HartStep}
use Rattle.thy_hart.specs.Outcomes.{Given, given}
use Rattle.thy_hart.specs.HartState.{HartState, next_block}
use Rattle.thy_hart.specs.Moments.{moment, is_missing, brings_line, IsReady}
use Rattle.thy_hart.specs.OneStep.{IsStep, hart_after, answer_to}
use Rattle.thy_isa.specs.declared.state.Status.{Status}
use Rattle.thy_isa.specs.declared.state.Status.TheVariants.{Running, Exited, Trapped}
use Rattle.thy_isa.specs.Step.{is_running}
use Rattle.thy_layout.specs.declared.engine_step.EngineStep.{EngineStep}
use Rattle.thy_layout.specs.declared.engine_step.EngineStep.TheVariants.{Idle, Copied, PageBlock, StateBlock, TableBlock, Barrier, CommitWritten, Committed}
use Rattle.thy_computer.specs.declared.boot_step.BootStep.{BootStep}
use Rattle.thy_computer.specs.declared.boot_step.BootStep.TheVariants.{GoesOn, Loaded, Restarted, Refused}
use Rattle.thy_computer.specs.declared.did.Advance.{Advance}
use Rattle.thy_computer.specs.declared.did.Did.{Did}
use Rattle.thy_computer.specs.declared.did.Did.TheVariants.{Moved, Retired, Flushed as DidFlush, Merged, Sealed, Promoted, Engine, Committed as DidCommit, NvmDrained, DramDrained, Nothing, Boot as DidBoot, Loaded as DidLoad, Restarted as DidRestart, Refused as DidRefuse}
use Rattle.thy_computer.specs.declared.did.Stall.TheVariants.{Booting, Sealing, Waiting, Halted}
use Rattle.thy_computer.specs.declared.view.Phase.{Phase}
use Rattle.thy_computer.specs.declared.view.Phase.TheVariants.{Boot, Run, Halt}
use Rattle.thy_computer.specs.declared.view.View.{View}
use Rattle.thy_computer.proofs.ActionLemmas.{after-is}
use Rattle.thy_computer.specs.Action.{Action, Rest, ReadAt, WriteAt, Barrier as ActBarrier, Drain, IsAfter, after}
use Rattle.thy_computer.specs.Booting.{boot_did}
use Rattle.thy_computer.specs.Origin.{Origin}
use Rattle.thy_computer.specs.WithTurns.{IsThere}
use Rattle.thy_computer.specs.NextActor.{Actor, front_of, Nvm, Dram, Checkpoint, Advances, Stalled, Pressure, IsHanded, HandsOn, Does, Prepares}
use Rattle.thy_scheme.specs.declared.scheme_store.SchemeStore.{SchemeStore}
use Rattle.thy_scheme.specs.SchemeStore.{held_by_scheme, loads_by, stores_by, IsOneCall}
use Rattle.thy_scheme.specs.CheckpointMarks.{CheckpointMarks}
use Rattle.thy_scheme.specs.Exact.{Makes}
use Rattle.thy_scheme.specs.Scheme.{SchemeOf, StaysOf, Stands, IsBooting}
use Rattle.thy_scheme.specs.Calls.{IsOneAccess, Merges, Promotes, PromotionFails, Drains, Seals, Engines, EngineFails, engine_did}
use Rattle.thy_scheme.specs.Boots.{BootsOn, BootFails, BootDrains}
use Rattle.thy_core.specs.declared.parts.MachineParts.{MachineParts}
use Rattle.thy_core.specs.MachineParts.{machine_of}
use Rattle.thy_scheme.specs.Machine.{Machine, cpu_fronted, processor_of, view_of, moment_of, pressure_of}
use Rattle.thy_scheme.specs.Sound.{Sound}
use Rattle.thy_scheme.specs.MachineCalls.{IsBelow, line_evicted, line_brought, below_by, below_after, flushed_as, flushed_line, line_flushed, IsAsked, HartCall, FlushCall, retires_by, begun_by_hart, hart_did, after_hart, after_flush, after_call, after_drain, after_seal, after_engine, after_boot}
use Rattle.thy_scheme.specs.MachineExact.{IsOutcome, sealed_for, given_to, found_by, MakesFirst}
use Rattle.thy_scheme.specs.Rows.{IsMoment, At, HartAdvances, IsSealing, SimulatesCycle}
use Rattle.thy_core.specs.Cycles.{IsEngineDue, IsActorOf, IsAnyRun, IsCycle, HasFailedAs, HasTaken, did_by, stepped_by, reported}
use Rattle.thy_scheme.proofs.Facts.{view-run, sound-run, holds-run, is-going}
use Rattle.thy_scheme.proofs.KeepsLaws.{stands, runs_behind}
use Rattle.thy_scheme.proofs.BegunLaws.{begun-processor, IsBegun, is-begun}
use Rattle.thy_scheme.proofs.BootingLaws.{sound-boot}
use Rattle.thy_scheme.proofs.DrainRows.{nvm_drain_simulates, halt_simulates, dram_drain_simulates, boot_drain_simulates}
use Rattle.thy_scheme.proofs.CallRows.{merge_simulates, promotion_simulates}
use Rattle.thy_scheme.proofs.EngineRow.{engine_simulates}
use Rattle.thy_scheme.proofs.FlushRow.{flush_simulates}
use Rattle.thy_scheme.proofs.SealRow.{standing, seal_simulates}
use Rattle.thy_scheme.proofs.HartCases.{hart-simulates, hart-hands-on}
use Rattle.thy_scheme.proofs.FailRows.{hart_fails, flush_fails, promotion_leaves, engine_leaves, boot_leaves, drain_fails}
use Rattle.thy_scheme.proofs.BootRow.{boot_simulates}

does_boot : (step : BootStep) → Does (boot_did step) (Stalled Booting)
does_boot GoesOn = refl
does_boot Loaded = refl
does_boot (Restarted cpu epoch) = refl
does_boot (Refused bad) = refl

due_boot : (step : BootStep) (p : Pressure) → Prepares (boot_did step) p
due_boot GoesOn p = tt
due_boot Loaded p = tt
due_boot (Restarted cpu epoch) p = tt
due_boot (Refused bad) p = tt

-- what the scheme was before the boot's step does not count
pub boot_over : {S : Type 0} (o : Origin) (step : BootStep) (t : S) (m : Machine S)
    → after_boot o step t (record m { scheme = t }) ≡ after_boot o step t m
boot_over o GoesOn t m = refl
boot_over o Loaded t m = refl
boot_over o (Restarted cpu epoch) t m = refl
boot_over o (Refused bad) t m = refl

pub stands_run : {S : Type 0} (K : SchemeOf S) (o : Origin) (cycles : ℕ) (m : Machine S) (n : Device) → Sound K o cycles m n → m.phase ≡ Run
    → Stands K o m.marks m.scheme n
stands_run K o cycles m n sound e = stands K o cycles m n sound (runs_behind m.phase e)

does_engine : (lap : ℕ) (step : EngineStep) → Does (engine_did lap step) Checkpoint
does_engine lap Idle = inl refl
does_engine lap Copied = inl refl
does_engine lap PageBlock = inl refl
does_engine lap StateBlock = inl refl
does_engine lap TableBlock = inl refl
does_engine lap Barrier = inl refl
does_engine lap CommitWritten = inl refl
does_engine lap (Committed epoch) = inl refl

due_engine : (lap : ℕ) (step : EngineStep) (p : Pressure) → Prepares (engine_did lap step) p
due_engine lap Idle p = tt
due_engine lap Copied p = tt
due_engine lap PageBlock p = tt
due_engine lap StateBlock p = tt
due_engine lap TableBlock p = tt
due_engine lap Barrier p = tt
due_engine lap CommitWritten p = tt
due_engine lap (Committed epoch) p = tt

-- who retired last, and whose instruction is begun, stay as they are
handed : {begun last : Option ℕ} {next : Pressure} → next.begun ≡ begun → next.last ≡ last → IsHanded begun last next
handed begun last = record { begun_is = begun; last_is = last }

hands_engine : (lap : ℕ) (step : EngineStep) (actor : Actor) (p next : Pressure) → next.begun ≡ p.begun → next.last ≡ p.last
    → HandsOn actor (engine_did lap step) p next
hands_engine lap Idle actor p next b l = handed b l
hands_engine lap Copied actor p next b l = handed b l
hands_engine lap PageBlock actor p next b l = handed b l
hands_engine lap StateBlock actor p next b l = handed b l
hands_engine lap TableBlock actor p next b l = handed b l
hands_engine lap Barrier actor p next b l = handed b l
hands_engine lap CommitWritten actor p next b l = handed b l
hands_engine lap (Committed epoch) actor p next b l = handed b l

hands_boot : {S : Type 0} (K : SchemeOf S) (o : Origin) (m : Machine S) (t : S) (step : BootStep)
    → HandsOn (Stalled Booting) (boot_did step) (pressure_of K m) (pressure_of K (after_boot o step t m))
hands_boot K o m t GoesOn = handed refl refl
hands_boot K o m t Loaded = handed refl refl
hands_boot K o m t (Restarted cpu epoch) = handed refl refl
hands_boot K o m t (Refused bad) = handed refl refl

-- a step of the boot retires no instruction
there_boot : (o : Origin) (v : View) (step : BootStep) → IsThere o v (boot_did step)
there_boot o v GoesOn = tt
there_boot o v Loaded = tt
there_boot o v (Restarted cpu epoch) = tt
there_boot o v (Refused bad) = tt

there_engine : (o : Origin) (v : View) (lap : ℕ) (step : EngineStep) → IsThere o v (engine_did lap step)
there_engine o v lap Idle = tt
there_engine o v lap Copied = tt
there_engine o v lap PageBlock = tt
there_engine o v lap StateBlock = tt
there_engine o v lap TableBlock = tt
there_engine o v lap Barrier = tt
there_engine o v lap CommitWritten = tt
there_engine o v lap (Committed epoch) = tt

-- ---- a cycle that failed

-- a step of this hart that failed leaves the processor
pub begun_back : {S : Type 0} (hart : ℕ) (m begun next : Machine S) → ((b : ℕ) → m.begun ≡ Some b → b ≡ hart) → begun ≡ begun_by_hart hart m
    → next.hart ≡ begun.hart → next.begun ≡ begun.begun → processor_of next ≡ processor_of m
begun_back {S} hart m begun next own is same mine =
    ap (λ b. cpu_fronted (front_of b) next.hart.cpu) (mine ∙ ap (λ (x : Machine S). x.begun) is)
    ∙ ap (λ (h : HartState). cpu_fronted hart h.cpu) (same ∙ ap (λ (x : Machine S). x.hart) is)
    ∙ begun-processor hart m.begun m.hart.cpu own

module _ {S : Type 0} (K : SchemeOf S) (o : Origin) (cycles : ℕ) (m : Machine S) (n : Device) (at : IsMoment K o cycles m n) where
  pub engine_failed : (next : Machine S) (new : Device) → IsEngineDue K m → EngineFails K o m.marks n new → StaysOf K m.scheme next.scheme
      → processor_of next ≡ processor_of m
      → HasFailedAs K o Checkpoint m next n new
  engine_failed next new due e left hart = record {
    did = engine_did m.lap e.step;
    does = does_engine m.lap e.step;
    due = due_engine m.lap e.step (pressure_of K m);
    fails = engine_leaves K o cycles m n next.scheme new at due.0 e left;
    processor = hart;
  }

  pub promotion_failed : (next : Machine S) (new : Device) → IsSealing K o m n → K.promoting m.scheme ≡ true → PromotionFails n new
      → StaysOf K m.scheme next.scheme
      → processor_of next ≡ processor_of m → HasFailedAs K o (Stalled Sealing) m next n new
  promotion_failed next new sealing promoting f left hart = record {
    did = Promoted;
    does = refl;
    due = promoting;
    fails = promotion_leaves K o cycles m n next.scheme new at sealing.phase f left;
    processor = hart;
  }

  pub hart_failed : (hart : ℕ) (next : Machine S) (new : Device) → HartAdvances K o m n hart → IsOneAccess K m.scheme n next.scheme new
      → new.down ≡ true → processor_of next ≡ processor_of m
      → HasFailedAs K o (Advances hart) m next n new
  hart_failed hart next new turn access down same =
      record { did = Moved; does = (hart, refl); due = tt; fails = hart_fails K o cycles m n next.scheme new at turn.goes access down; processor = same }

  pub flush_failed : (next : Machine S) (new : Device) → IsSealing K o m n → K.promoting m.scheme ≡ false → dirty_count m.cache ≢ 0
      → IsOneAccess K m.scheme n next.scheme new → new.down ≡ true → processor_of next ≡ processor_of m
      → HasFailedAs K o (Stalled Sealing) m next n new
  flush_failed next new sealing whole dirty access down hart = record {
    did = DidFlush;
    does = refl;
    due = (whole, dirty);
    fails = flush_fails K o cycles m n next.scheme new at sealing access down;
    processor = hart;
  }

  pub boot_failed : (next : Machine S) (new : Device) → m.phase ≡ Boot → BootFails K o m.scheme n new → StaysOf K m.scheme next.scheme
      → processor_of next ≡ processor_of m
      → HasFailedAs K o (Stalled Booting) m next n new
  boot_failed next new e b left hart = record {
    did = boot_did b.step;
    does = does_boot b.step;
    due = due_boot b.step (pressure_of K m);
    fails = boot_leaves K o cycles m n next.scheme new at e b left;
    processor = hart;
  }

  pub land_failed : (new : Device) → HasFailed n new → IsFramed n new → HasFailedAs K o Nvm m m n new
  land_failed new failed frame =
      record { did = NvmDrained; does = refl; due = tt; fails = drain_fails K o cycles m n new at failed frame; processor = refl }

-- ---- one that is a step of the run

module _ {S : Type 0} (K : SchemeOf S) (o : Origin) (cycles : ℕ) (m : Machine S) (n : Device) (at : At K o cycles m n) where
  -- ---- the DRAM's queue

  drains_in : (phase : Phase) (t : S) → m.phase ≡ phase → 0 < K.queued m.scheme
      → ((p : Origin) (k : CheckpointMarks) (d : Device) → Stands K p k m.scheme d → Drains K p k m.scheme d t)
      → ((p : Origin) (d : Device) → IsBooting K p m.scheme d → BootDrains K p m.scheme d t)
      → SimulatesCycle K o cycles DramDrained m n (after_drain t m) n
  drains_in Boot t e some running booting =
      boot_drain_simulates K o cycles m n t at e some
      (booting o n (record { boots = (sound-boot K o cycles m n at.sound e).boots; up = at.sound.up }))
  drains_in Run t e some running booting =
      let behind : m.phase ≢ Boot = λ b. absurd (cc) in
      dram_drain_simulates K o cycles m n t at behind some (running o m.marks n (stands K o cycles m n at.sound behind))
  drains_in Halt t e some running booting =
      let behind : m.phase ≢ Boot = λ b. absurd (cc) in
      dram_drain_simulates K o cycles m n t at behind some (running o m.marks n (stands K o cycles m n at.sound behind))

  pub drain_cycle : (t : S) → 0 < K.queued m.scheme
      → ((p : Origin) (k : CheckpointMarks) (d : Device) → Stands K p k m.scheme d → Drains K p k m.scheme d t)
      → ((p : Origin) (d : Device) → IsBooting K p m.scheme d → BootDrains K p m.scheme d t) → t ≡ K.calls.drained m.scheme
      → IsCycle K o cycles Dram DramDrained m n (after_drain t m) n
  drain_cycle t some running booting is = record {
    does = refl;
    due = tt;
    hands = handed refl refl;
    there = tt;
    simulates = λ mine. drains_in m.phase t refl some running booting;
    exact = record { did_is = refl; machine_is = ap (λ (s : S). after_drain s m) is; nvm_is = refl };
  }

  -- ---- the engine

  pub engine_cycle : (t : S) (new : Device) (step : EngineStep) (next : Machine S) (did : Did) → IsEngineDue K m
      → Engines K o m.marks step m.scheme n t new → Makes (K.calls.engine m.scheme n) step n t new
      → next ≡ after_engine step t m → did ≡ engine_did m.lap step → IsCycle K o cycles Checkpoint did m n next new
  engine_cycle t new step next did due e made is says =
      subst (λ x. IsCycle K o cycles Checkpoint did m n x new) (sym is)
      (subst (λ d. IsCycle K o cycles Checkpoint d m n (after_engine step t m) new) (sym says)
      (record {
        does = does_engine m.lap step;
        due = due_engine m.lap step (pressure_of K m);
        hands = hands_engine m.lap step Checkpoint (pressure_of K m) (pressure_of K (after_engine step t m)) refl refl;
        there = there_engine o (view_of K o m n) m.lap step;
        simulates = λ mine. engine_simulates K o cycles m n t new step at due.0 due.1 e;
        exact = record {
          did_is = ap (engine_did m.lap) made.answer_is;
          machine_is = ap₂ (λ (x : EngineStep) (s : S). after_engine x s m) made.answer_is made.scheme_is;
          nvm_is = made.nvm_is;
        };
      }))

  -- ---- before a seal

  -- the first that is left, by what decides which that is
  first_by : (promotes clean overlaid : Bool) (did : Did) (next : Machine S) (new : Device) → K.promoting m.scheme ≡ promotes
      → (dirty_count m.cache == 0) ≡ clean → K.overlaid m.scheme ≡ overlaid → MakesFirst K promotes clean overlaid m n did next new
      → MakesFirst K (K.promoting m.scheme) (dirty_count m.cache == 0) (K.overlaid m.scheme) m n did next new
  first_by promotes clean overlaid did next new p c v made =
      subst (λ b. MakesFirst K b (dirty_count m.cache == 0) (K.overlaid m.scheme) m n did next new) (sym p)
      (subst (λ b. MakesFirst K promotes b (K.overlaid m.scheme) m n did next new) (sym c)
      (subst (λ b. MakesFirst K promotes clean b m n did next new) (sym v) made))

  pub promotion_cycle : (t : S) (new : Device) (done : Unit {0}) → IsSealing K o m n → K.promoting m.scheme ≡ true
      → Promotes K o m.marks m.scheme n t new
      → Makes (K.calls.promote m.scheme n) done n t new → IsCycle K o cycles (Stalled Sealing) Promoted m n (after_call t m) new
  promotion_cycle t new done sealing promoting p made = record {
    does = refl;
    due = promoting;
    hands = handed refl refl;
    there = tt;
    simulates = λ mine. promotion_simulates K o cycles m n t new at sealing promoting p;
    exact = first_by true (dirty_count m.cache == 0) (K.overlaid m.scheme) Promoted (after_call t m) new promoting refl refl
        (record { did_is = refl; machine_is = ap (λ (s : S). after_call s m) made.scheme_is; nvm_is = made.nvm_is });
  }

  pub merge_cycle : (t : S) → IsSealing K o m n → K.promoting m.scheme ≡ false → dirty_count m.cache ≡ 0 → K.overlaid m.scheme ≡ true
      → Merges K o m.marks m.scheme n t
      → t ≡ K.calls.merged m.scheme → IsCycle K o cycles (Stalled Sealing) Merged m n (after_call t m) n
  merge_cycle t sealing whole clean overlaid p is = record {
    does = refl;
    due = (whole, clean, overlaid);
    hands = handed refl refl;
    there = tt;
    simulates = λ mine. merge_simulates K o cycles m n t at sealing whole clean p;
    exact = first_by false true true Merged (after_call t m) n whole (eq-eqb (dirty_count m.cache) 0 clean) overlaid
        (record { did_is = refl; machine_is = ap (λ (s : S). after_call s m) is; nvm_is = refl });
  }

  -- ---- the seal

  pub sealed_regs : (cause : EndCause) → IsSealing K o m n → K.promoting m.scheme ≡ false → dirty_count m.cache ≡ 0
      → Some cause ≡ m.hart.epoch.over → length m.hart.cpu.regs ≡ 32
  sealed_regs cause sealing whole clean over = (standing K o cycles m n cause at sealing whole clean (sym over)).taken.recordable.regs_length

  pub seal_cycle : (cause : EndCause) (t : S) (next : Machine S) (epoch count : ℕ) → IsSealing K o m n → K.promoting m.scheme ≡ false
      → K.overlaid m.scheme ≡ false → dirty_count m.cache ≡ 0 → Some cause ≡ m.hart.epoch.over
      → Seals K o m.marks m.hart.cpu m.hart.epoch.number m.scheme n t → t ≡ K.calls.sealed m.hart.cpu m.hart.epoch.number m.scheme
      → epoch ≡ m.hart.epoch.number → count ≡ m.hart.cpu.count
      → next ≡ after_seal t m → IsCycle K o cycles (Stalled Sealing) (Sealed epoch count cause) m n next n
  seal_cycle cause t next epoch count sealing whole bare clean over p made number at_count is =
      subst (λ x. IsCycle K o cycles (Stalled Sealing) (Sealed epoch count cause) m n x n) (sym is)
      (subst (λ e. IsCycle K o cycles (Stalled Sealing) (Sealed e count cause) m n (after_seal t m) n) (sym number)
      (subst (λ i. IsCycle K o cycles (Stalled Sealing) (Sealed m.hart.epoch.number i cause) m n (after_seal t m) n) (sym at_count)
      (record {
        does = refl;
        due = (whole, clean, bare);
        hands = handed refl refl;
        there = tt;
        simulates = λ mine. seal_simulates K o cycles m n t cause at sealing whole bare clean (sym over) p;
        exact = first_by false true false (Sealed m.hart.epoch.number m.hart.cpu.count cause) (after_seal t m) n whole
            (eq-eqb (dirty_count m.cache) 0 clean) bare
            (subst (λ x. IsOutcome (sealed_for K x m) n (Sealed m.hart.epoch.number m.hart.cpu.count cause) (after_seal t m) n) over
            (record { did_is = refl; machine_is = ap (λ (s : S). after_seal s m) made; nvm_is = refl }));
      })))

  -- ---- the hart

  runs_by : (status : Status) → is_running status ≡ true → status ≡ Running
  runs_by Running e = refl
  runs_by (Exited v) e = absurd (cc)
  runs_by (Trapped v) e = absurd (cc)

  module _ (hart : ℕ) (turn : HartAdvances K o m n hart) where
    -- the machine is as a hart's step finds it
    begun_here : IsBegun K o m n hart
    begun_here =
        is-begun K o m n hart (sound-run K o cycles m n at.sound turn.goes.phase) (is-going K o cycles m n at turn.goes).going turn.own

    -- while no instruction is begun nothing is in hand
    pub hart_rests : m.begun ≡ None → m.hart.hand ≡ NoHand
    hart_rests = (sound-run K o cycles m n at.sound turn.goes.phase).front.rests

    pub hart_runs : (begun_by_hart hart m).hart.cpu.status ≡ Running
    hart_runs =
        let run = sound-run K o cycles m n at.sound turn.goes.phase in
        (begun_here).status
        ∙ runs_by m.hart.cpu.status (run.counted.running ∙ (is-going K o cycles m n at turn.goes).runs)

    pub hart_ready : (begun : Machine S) → begun ≡ begun_by_hart hart m → IsReady (moment_of K begun n)
    hart_ready begun is =
        let run = sound-run K o cycles m n at.sound turn.goes.phase in
        let holds = holds-run K at.lawful o cycles m n at.sound turn.goes.phase in
        let going = is-going K o cycles m n at turn.goes in
        subst (λ x. IsReady (moment_of K x n)) (sym is) (record {
          blocks = holds.memory ∙ ap memory_blocks (sym at.sound.geometry);
          agree = run.held.agree;
          ready = holds.ready going.whole;
          room = let free = at.lawful.free_is m.scheme n in omega (arith, run.held.room, free);
          opened = (begun_here).opened;
        })

  due_hart : (hart : ℕ) (retired : Bool) (p : Pressure) → Prepares (if retired then Retired hart else Moved) p
  due_hart hart true p = tt
  due_hart hart false p = tt

  does_hart : (hart : ℕ) (retired : Bool) → Does (if retired then Retired hart else Moved) (Advances hart)
  does_hart hart true = refl
  does_hart hart false = (hart, refl)

  -- the hart that moved or retired is there
  there_hart : (hart : ℕ) → HartAdvances K o m n hart → (retired : Bool)
      → IsThere o (view_of K o m n) (if retired then Retired hart else Moved)
  there_hart hart turn true =
      let shown = view-run K o m n turn.goes.phase in
      record {
        there = turn.there;
        runs = ap (λ (v : View). v.phase) shown ∙ turn.goes.phase;
        late = subst (λ (v : View). o.start.count ≤ v.count) (sym shown) (sound-run K o cycles m n at.sound turn.goes.phase).counted.start;
      }
  there_hart hart turn false = tt

  pub hart_cycle : (hart : ℕ) (h : HartState) (c : Contents) (t : S) (new : Device) (step : HartStep) (next : Machine S) (did : Did)
      → HartAdvances K o m n hart
      → HartCall K (given o.input (K.free m.scheme) (K.under_way m.scheme)) (begun_by_hart hart m) n h c t new step
      → next ≡ after_hart hart step h c t m → did ≡ hart_did hart step → IsCycle K o cycles (Advances hart) did m n next new
  hart_cycle hart h c t new step next did turn hs is says =
      subst (λ x. IsCycle K o cycles (Advances hart) did m n x new) (sym is)
      (subst (λ d. IsCycle K o cycles (Advances hart) d m n (after_hart hart step h c t m) new) (sym says)
      (record {
        does = does_hart hart (retires_by step);
        due = due_hart hart (retires_by step) (pressure_of K m);
        hands = hart-hands-on K o cycles m n hart h c t new step at turn hs;
        there = there_hart hart turn (retires_by step);
        simulates = hart-simulates K o cycles m n hart h c t new step at turn hs;
        exact = record {
          did_is = ap (hart_did hart) hs.is_step.says;
          machine_is = ap₂ (λ (x : HartStep) (y : HartState). after_hart hart x y c t m) hs.is_step.says hs.is_step.hart
              ∙ ap₂ (λ (x : Contents) (y : S). after_hart hart (answer_to (given_to K o m) (found_by K hart m n))
              (hart_after (given_to K o m) (found_by K hart m n)) x y m)
              hs.below.cache_is hs.below.scheme_is;
          nvm_is = hs.below.nvm_is;
        };
      }))

  -- ---- a flush

  pub flush_cycle : (c : Contents) (t : S) (new : Device) (flushed : Flushed) → IsSealing K o m n → K.promoting m.scheme ≡ false
      → dirty_count m.cache ≢ 0
      → FlushCall K m n flushed c t new → IsCycle K o cycles (Stalled Sealing) DidFlush m n (after_flush c t m) new
  flush_cycle c t new flushed sealing whole dirty f = record {
    does = refl;
    due = (whole, dirty);
    hands = handed refl refl;
    there = tt;
    simulates = λ mine. flush_simulates K o cycles m n c t new flushed at sealing whole f;
    exact = first_by false false (K.overlaid m.scheme) DidFlush (after_flush c t m) new whole (ne_eqb (dirty_count m.cache) 0 dirty) refl (record {
      did_is = refl;
      machine_is = ap₂ (λ (x : Contents) (y : S). after_flush x y m) f.made.cache_is f.made.scheme_is;
      nvm_is = f.made.nvm_is;
    });
  }

  -- ---- the boot

  pub boot_cycle : (t : S) (new : Device) (step : BootStep) (next : Machine S) (did : Did) → m.phase ≡ Boot
      → BootsOn K o step m.scheme n t new → K.calls.boot o.start m.scheme n step t new → next ≡ after_boot o step t m → did ≡ boot_did step
      → IsCycle K o cycles (Stalled Booting) did m n next new
  boot_cycle t new step next did e b made is says =
      subst (λ x. IsCycle K o cycles (Stalled Booting) did m n x new) (sym is)
      (subst (λ d. IsCycle K o cycles (Stalled Booting) d m n (after_boot o step t m) new) (sym says)
      (record {
        does = does_boot step;
        due = due_boot step (pressure_of K m);
        hands = hands_boot K o m t step;
        there = there_boot o (view_of K o m n) step;
        simulates = λ mine. boot_simulates K o cycles m n t new step at e b;
        exact = record { step = step; scheme = t; made = made; did_is = refl; machine_is = refl };
      }))

  -- ---- the NVM's queue, and nothing

  pub land_cycle : (new : Device) → 0 < length n.queue → new ≡ drained n → IsCycle K o cycles Nvm NvmDrained m n m new
  land_cycle new some is =
      subst (λ d. IsCycle K o cycles Nvm NvmDrained m n m d) (sym is) (record {
        does = refl;
        due = tt;
        hands = handed refl refl;
        there = tt;
        simulates = λ mine. nvm_drain_simulates K o cycles m n at some;
        exact = record { did_is = refl; machine_is = refl; nvm_is = refl };
      })

  pub rest_cycle : m.phase ≡ Halt → IsCycle K o cycles (Stalled Halted) Nothing m n m n
  rest_cycle e = record {
    does = refl;
    due = tt;
    hands = handed refl refl;
    there = tt;
    simulates = λ mine. halt_simulates K o cycles m n at e;
    exact = record { did_is = refl; machine_is = refl; nvm_is = refl };
  }

-- ---- the engine works for a hart that waits

waits_does : (did : Did) → Does did Checkpoint → Does did (Stalled Waiting)
waits_does (Engine step) d = inr refl
waits_does (DidCommit epoch overlapped) d = inr refl
waits_does NvmDrained d = absurd (cc)
waits_does DramDrained d = absurd (cc)
waits_does Moved d = let is = d.1 in absurd (cc)
waits_does (Retired hart) d = absurd (cc)
waits_does DidFlush d = absurd (cc)
waits_does Merged d = absurd (cc)
waits_does (Sealed epoch count cause) d = absurd (cc)
waits_does Promoted d = absurd (cc)
waits_does Nothing d = absurd (cc)
waits_does DidBoot d = absurd (cc)
waits_does DidLoad d = absurd (cc)
waits_does (DidRestart epoch count) d = absurd (cc)
waits_does (DidRefuse bad) d = absurd (cc)

-- what the engine does hands nothing on
waits_hands : (did : Did) (p next : Pressure) → Does did Checkpoint → HandsOn Checkpoint did p next → HandsOn (Stalled Waiting) did p next
waits_hands (Engine step) p next d h = h
waits_hands (DidCommit epoch overlapped) p next d h = h
waits_hands NvmDrained p next d h = absurd (cc)
waits_hands DramDrained p next d h = absurd (cc)
waits_hands Moved p next d h = let is = d.1 in absurd (cc)
waits_hands (Retired hart) p next d h = absurd (cc)
waits_hands DidFlush p next d h = absurd (cc)
waits_hands Merged p next d h = absurd (cc)
waits_hands (Sealed epoch count cause) p next d h = absurd (cc)
waits_hands Promoted p next d h = absurd (cc)
waits_hands Nothing p next d h = absurd (cc)
waits_hands DidBoot p next d h = absurd (cc)
waits_hands DidLoad p next d h = absurd (cc)
waits_hands (DidRestart epoch count) p next d h = absurd (cc)
waits_hands (DidRefuse bad) p next d h = absurd (cc)

pub waits_cycle : {S : Type 0} (K : SchemeOf S) (o : Origin) (cycles : ℕ) (did : Did) (m next : Machine S) (n new : Device)
    → IsCycle K o cycles Checkpoint did m n next new → IsCycle K o cycles (Stalled Waiting) did m n next new
waits_cycle K o cycles did m next n new c = record {
  does = waits_does did c.does;
  due = c.due;
  hands = waits_hands did (pressure_of K m) (pressure_of K next) c.does c.hands;
  there = c.there;
  simulates = c.simulates;
  exact = c.exact;
}

pub waits_failed : {S : Type 0} (K : SchemeOf S) (o : Origin) (m next : Machine S) (n new : Device)
    → HasFailedAs K o Checkpoint m next n new → HasFailedAs K o (Stalled Waiting) m next n new
waits_failed K o m next n new f = record { did = f.did; does = waits_does f.did f.does; due = f.due; fails = f.fails; processor = f.processor }

-- a cycle of the engine, if it succeeded, is also a cycle of a hart that waits for it
waits_simulates : {S : Type 0} (K : SchemeOf S) (o : Origin) (cycles : ℕ) (m next : Machine S) (n new : Device) (r : Result Did NvmError)
    → IfOk r (λ did. IsCycle K o cycles Checkpoint did m n next new) → IfOk r (λ did. IsCycle K o cycles (Stalled Waiting) did m n next new)
waits_simulates K o cycles m next n new (Ok did) c = waits_cycle K o cycles did m next n new c
waits_simulates K o cycles m next n new (Err e) c = tt

waits_fails : {S : Type 0} (K : SchemeOf S) (o : Origin) (m next : Machine S) (n new : Device) (r : Result Did NvmError)
    → OnErr r (HasFailedAs K o Checkpoint m next n new) → OnErr r (HasFailedAs K o (Stalled Waiting) m next n new)
waits_fails K o m next n new (Ok did) f = tt
waits_fails K o m next n new (Err e) f = waits_failed K o m next n new f

-- ---- a call through the store of blocks

-- a call of the store of blocks did nothing, or asked for one call of the scheme
abbrev pub CalledOnce : {S N : Type 0} → SchemeOf S → (N → Device) → SchemeStore S → N → SchemeStore S → N → Type 0
CalledOnce K device a x b y = ((b ≡ a) × (y ≡ x)) ⊎ IsOneCall K a (device x) b (device y)

pub asked_once : {S N : Type 0} (K : SchemeOf S) (device : N → Device) (a b : SchemeStore S) (x y : N) → CalledOnce K device a x b y
    → IsAsked K a.scheme (device x) b.scheme (device y)
asked_once K device a b x y (inl same) = inl (ap (λ s. s.scheme) same.0, ap device same.1)
asked_once K device a b x y (inr once) = inr once.access

pub framed_same : (n : Device) → IsFramed n n
framed_same n = record { blocks = refl; left = refl; picks = refl; queue_room = refl; left_room = refl; fits = refl; lent = refl; whole = refl }

pub framed_once : {S N : Type 0} (K : SchemeOf S) (device : N → Device) (a b : SchemeStore S) (x y : N) → CalledOnce K device a x b y
    → IsFramed (device x) (device y)
framed_once K device a b x y (inl same) = subst (λ z. IsFramed (device x) (device z)) (sym same.1) (framed_same (device x))
framed_once K device a b x y (inr once) = once.access.frame

-- a call that failed left the NVM down
down_now : (old new : Bool) → old ≡ false → RoseByOne (if old then 1 else 0) (if new then 1 else 0) → new ≡ true
down_now old true up rose = refl
down_now true false up rose = absurd (cc)
down_now false false up rose = absurd (let more = rose.more in omega (arith, more))

pub failed_once : {S N : Type 0} (K : SchemeOf S) (device : N → Device) (a b : SchemeStore S) (x y : N) → (device x).down ≡ false
    → CalledOnce K device a x b y → RoseByOne (failed_calls (device x)) (failed_calls (device y))
    → IsOneCall K a (device x) b (device y) × ((device y).down ≡ true)
failed_once K device a b x y up (inl same) rose =
    let down = down_now (device x).down (device y).down up rose in
    absurd (let kept = ap (λ z. (device z).down) same.1 in cc)
failed_once K device a b x y up (inr once) rose = (once, down_now (device x).down (device y).down up rose)

-- a call that succeeded left it up
abbrev count_of : Bool → ℕ
count_of down = if down then 1 else 0

up_now : (old new : Bool) → old ≡ false → count_of new ≡ count_of old → new ≡ false
up_now old false up e = refl
up_now true true up e = absurd (cc)
up_now false true up e = absurd (let one : 1 ≡ count_of false = e in omega (arith, one))

pub up_once : {S N : Type 0} (K : SchemeOf S) (device : N → Device) (a b : SchemeStore S) (x y : N) → (device x).down ≡ false
    → CalledOnce K device a x b y → failed_calls (device y) ≡ failed_calls (device x) → (device y).down ≡ false
up_once K device a b x y up (inl same) e = ap (λ z. (device z).down) same.1 ∙ up
up_once K device a b x y up (inr once) e = up_now (device x).down (device y).down up e

faults_of : (count : ℕ) (a : Action) (n : Device) → (after count a n).faults ≡ n.faults
faults_of count Rest n = refl
faults_of count (ReadAt place) n = refl
faults_of count (WriteAt place block) n = refl
faults_of count ActBarrier n = refl
faults_of count Drain n = refl

faults_after : (a : Action) (n new : Device) → IsAfter a n new → new.faults ≡ n.faults
faults_after a n new left = ap (λ (d : Device). d.faults) (after-is a n new left) ∙ faults_of new.writes a n

-- a call of the store of blocks that did not fail has counted no failure
pub kept_once : {S N : Type 0} (K : SchemeOf S) (device : N → Device) (a b : SchemeStore S) (x y : N) → (device x).down ≡ false
    → CalledOnce K device a x b y → failed_calls (device y) ≡ failed_calls (device x) → (device y).faults ≡ (device x).faults
kept_once K device a b x y up (inl same) e = ap (λ z. (device z).faults) same.1
kept_once K device a b x y up (inr once) e =
    let done = once.access.succeeds (up_now (device x).down (device y).down up e) in
    faults_after once.access.action (device x) (device y) done.left

-- ---- a step of the hart

rests_by : {S N : Type 0} (K : SchemeOf S) (device : N → Device) (a b : SchemeStore S) (x y : N)
    → ((b ≡ a) × (y ≡ x)) ⊎ loads_by device a x b y → K.storeless b.scheme ≡ K.storeless a.scheme
rests_by K device a b x y (inl same) = ap (λ s. K.storeless s.scheme) same.0
rests_by K device a b x y (inr same) = ap K.storeless same.scheme

-- ---- what is left below the hart

module _ {S N : Type 0} (K : SchemeOf S) (device : N → Device) (p : MachineParts S) (b : SchemeStore S) (x y : N) (c : Contents) where
  -- the line in a block's way was stored
  evicted_is : (at : ℕ) → EvictsBy (stores_by K device) at p.cache c p.store x b y
      → IsBelow (line_evicted K at (victim_line_of p.cache at) (machine_of p) (device x)) (device x) c b.scheme (device y)
  evicted_is at e =
      subst (λ (l : Option Line). IsBelow (line_evicted K at l (machine_of p) (device x)) (device x) c b.scheme (device y))
      (sym e.made.stands) (record {
        cache_is = e.cache ∙ ap (λ (s : Stored). evicted_for s at p.cache) e.made.made.answer_is;
        scheme_is = e.made.made.scheme_is;
        nvm_is = e.made.made.nvm_is;
      })

  -- a line was brought
  brought_is : (at : ℕ) (victim : Victim) → (device y).down ≡ false
      → BringsBy (loads_by device) (stores_by K device) victim at p.cache c p.store x b y
      → BringsLine victim at p.cache (held_by_scheme K p.store.scheme (device x)) c
      → IsBelow (line_brought K at victim (machine_of p) (device x)) (device x) c b.scheme (device y)
  brought_is at Room up called filled = record { cache_is = filled; scheme_is = called.scheme; nvm_is = called.nvm up }
  brought_is at (Dirty line) up called filled = evicted_is at called

  -- after a step of the hart
  below_is : (g : Given) (h : HartState) (step : HartStep) → (device y).down ≡ false
      → IsStep g (moment_of K (machine_of p) (device x)) (moment h c (held_by_scheme K b.scheme (device y))) step
      → (brings_line (moment_of K (machine_of p) (device x)) ≡ false → (b ≡ p.store) × (y ≡ x))
      → CallsStore (loads_by device) (stores_by K device) (brings_line (moment_of K (machine_of p) (device x)))
      (next_block p.hart) p.cache c p.store x b y
      → IsBelow (below_after K (machine_of p) (device x)) (device x) c b.scheme (device y)
  below_is g h step up s untouched called = by_line (brings_line (moment_of K (machine_of p) (device x))) refl (next_block p.hart) refl called
    where
      by_line : (brings : Bool) → brings_line (moment_of K (machine_of p) (device x)) ≡ brings → (block : Option ℕ)
          → next_block p.hart ≡ block
          → CallsStore (loads_by device) (stores_by K device) brings block p.cache c p.store x b y
          → IsBelow (below_by K brings block (machine_of p) (device x)) (device x) c b.scheme (device y)
      by_line false is block at calls =
          let kept = untouched is in
          record { cache_is = s.used is; scheme_is = ap (λ (a : SchemeStore S). a.scheme) kept.0; nvm_is = ap device kept.1 }
      by_line true is None at calls = absurd (true≢false (sym is ∙ ap (is_missing p.cache) at))
      by_line true is (Some k) at calls = brought_is k (victim_of p.cache k) up calls (s.brought k is at)

  -- after a step of a flush that was not the last
  stored_is : (stored : Stored) → StoresBy (stores_by K device) stored (dirty_line p.cache) p.store x b y
      → c ≡ flushed_from (flushed_as stored) p.cache
      → IsBelow (line_flushed K (machine_of p) (device x)) (device x) c b.scheme (device y)
  stored_is stored e is =
      subst (λ (l : Option Line). IsBelow (flushed_line K l (machine_of p) (device x)) (device x) c b.scheme (device y)) (sym e.stands) (record {
        cache_is = is ∙ ap (λ (s : Stored). flushed_from (flushed_as s) p.cache) e.made.answer_is;
        scheme_is = e.made.scheme_is;
        nvm_is = e.made.nvm_is;
      })

  pub flushed_is : (flushed : Flushed) → flushed ≢ Clean → FlushesBy (stores_by K device) flushed p.cache p.store x b y
      → c ≡ flushed_from flushed p.cache
      → IsBelow (line_flushed K (machine_of p) (device x)) (device x) c b.scheme (device y)
  flushed_is Clean more made is = absurd (more refl)
  flushed_is StoredLine more made is = stored_is Done made is
  flushed_is CopiedFirst more made is = stored_is CopyFirst made is

pub given_is : (input other : List ℕ) (free before : ℕ) (way under : Bool) → other ≡ input → free ≡ before → way ≡ under
    → given input free way ≡ given other before under
given_is input other free before way under i f w =
    ap (λ x. given x free way) (sym i) ∙ ap (λ x. given other x way) f ∙ ap (λ x. given other before x) w

pub hart_call : {S N : Type 0} (K : SchemeOf S) (device : N → Device) (o : Origin) (p : MachineParts S) (b : SchemeStore S) (x y : N)
    (h : HartState) (c : Contents)
    (step : HartStep) (input : List ℕ) (free : ℕ) (way : Bool) → o.input ≡ input → free ≡ K.free p.store.scheme
    → way ≡ K.under_way p.store.scheme
    → IsStep (given input free way) (moment_of K (machine_of p) (device x)) (moment h c (held_by_scheme K b.scheme (device y))) step
    → CalledOnce K device p.store x b y → K.stays p.store.scheme (device x) b.scheme (device y)
    → (brings_line (moment_of K (machine_of p) (device x)) ≡ false → (b ≡ p.store) × (y ≡ x))
    → (dirty_count p.cache ≡ 0 → ((b ≡ p.store) × (y ≡ x)) ⊎ loads_by device p.store x b y) → (device y).down ≡ false
    → CallsStore (loads_by device) (stores_by K device) (brings_line (moment_of K (machine_of p) (device x)))
    (next_block p.hart) p.cache c p.store x b y
    → HartCall K (given o.input (K.free p.store.scheme) (K.under_way p.store.scheme)) (machine_of p) (device x) h c b.scheme (device y) step
hart_call K device o p b x y h c step input free way i f w s once stays untouched loads up called =
    let same = given_is input o.input free (K.free p.store.scheme) way (K.under_way p.store.scheme) i f w in
    let is_step = subst (λ g. IsStep g (moment_of K (machine_of p) (device x)) (moment h c (held_by_scheme K b.scheme (device y))) step) same s in
    record {
      is_step = is_step;
      asked = asked_once K device p.store b x y once;
      stays = stays;
      untouched = λ none. let kept = untouched none in (ap (λ s. s.scheme) kept.0, ap device kept.1);
      tidy = is_step.tidy;
      rests = λ clean. rests_by K device p.store b x y (loads clean);
      below = below_is K device p b x y c (given input free way) h step up s untouched called;
    }

-- ---- the record of a turn

-- a cycle whose call failed, by what the exit of the call returns
pub taken_err : {S : Type 0} (K : SchemeOf S) (P : Origin → Type 0) (actor : Actor) (m next : Machine S) (n new : Device)
    (r : Result Did NvmError) → IsErr r
    → ((o : Origin) (cycles : ℕ) → P o → IsMoment K o cycles m n → IsActorOf K o m n actor → HasFailedAs K o actor m next n new)
    → IsFramed n new → Rose n.faults new.faults → HasTaken K P actor m n next new r
taken_err K P actor m next n new (Ok did) is fails frame rose = absurd (true≢false (sym is))
taken_err K P actor m next n new (Err e) is fails frame rose =
    record { simulates = λ o cycles q at turn. tt; fails = fails; frame = frame; cause = rose }

-- a hart's cycle that failed is one
pub err_by : (r : Result Advance NvmError) → IsErr r → IsErr (did_by r)
err_by (Ok a) is = absurd (true≢false (sym is))
err_by (Err e) is = refl

-- a hart's cycle is reported with no stall, and does not halt
pub reported_by : (r : Result Advance NvmError) → stepped_by r ≡ reported None false (did_by r)
reported_by (Ok a) = refl
reported_by (Err e) = refl

-- the turn by another name
pub taken_is : {S : Type 0} (K : SchemeOf S) (P Q : Origin → Type 0) (a b : Actor) (m next : Machine S) (n new : Device)
    (r : Result Did NvmError)
    → b ≡ a → ((o : Origin) → Q o → P o) → HasTaken K P a m n next new r → HasTaken K Q b m n next new r
taken_is K P Q a b m next n new r e kind taken = record {
  simulates = λ o cycles q at turn.
      subst (λ x. IfOk r (λ did. IsCycle K o cycles x did m n next new)) (sym e)
      (taken.simulates o cycles (kind o q) at (subst (IsActorOf K o m n) e turn));
  fails = λ o cycles q at turn.
      subst (λ x. OnErr r (HasFailedAs K o x m next n new)) (sym e)
      (taken.fails o cycles (kind o q) at (subst (IsActorOf K o m n) e turn));
  frame = taken.frame;
  cause = taken.cause;
}

-- the engine's, for a hart that waits
pub waits_taken : {S : Type 0} (K : SchemeOf S) (m next : Machine S) (n new : Device) (r : Result Did NvmError)
    → HasTaken K IsAnyRun Checkpoint m n next new r → HasTaken K IsAnyRun (Stalled Waiting) m n next new r
waits_taken K m next n new r taken = record {
  simulates = λ o cycles any at due. waits_simulates K o cycles m next n new r (taken.simulates o cycles any at due);
  fails = λ o cycles any at due. waits_fails K o m next n new r (taken.fails o cycles any at due);
  frame = taken.frame;
  cause = taken.cause;
}
