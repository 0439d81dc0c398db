-- A step of the boot leads to the next moment: in the boot, or after it with the hart at the checkpoint that was found.
use Rattle.std.proofs.Common.{◌≡◌, ◌≢◌, ℕ, ◌+◌, Bool, true, false, if◌then◌else◌, List, length, Option, Some, None, refl, sym, ◌∙◌, ap, subst, arith, inl, inr}
use Rattle.thy_block.specs.declared.block.Block.{Block}
use Rattle.thy_block.specs.declared.parameters.Parameters.{Parameters}
use Rattle.thy_block.specs.declared.mark.Mark.{Mark}
use Rattle.thy_block.specs.Device.{Device}
use Rattle.thy_block.specs.Marks.{mark}
use Rattle.thy_block.proofs.RangeLemmas.{epoch_least}
use Rattle.thy_block.proofs.MemoryLaws.{length-console_bytes}
use Rattle.thy_hart.specs.HartState.{new_hart, secured}
use Rattle.thy_hart.specs.Laws.{IsSized, Follows}
use Rattle.thy_hart.specs.Moments.{moment}
use Rattle.thy_hart.specs.OneStep.{current}
use Rattle.thy_hart.proofs.FollowLaws.{next-coming}
use Rattle.thy_isa.specs.declared.state.CpuState.{CpuState}
use Rattle.thy_isa.specs.declared.state.Status.{Status}
use Rattle.thy_isa.specs.declared.state.Status.TheVariants.{Running}
use Rattle.thy_isa.specs.OnBlocks.{setting_for, state_from}
use Rattle.thy_isa.specs.Step.{State, cpu_of, is_running, step}
use Rattle.thy_isa.proofs.BlockLaws.{count-state_from}
use Rattle.thy_computer.specs.declared.boot_step.BootStep.{BootStep}
use Rattle.thy_computer.specs.declared.boot_step.BootStep.TheVariants.{GoesOn, Loaded, Restarted, Refused}
use Rattle.thy_computer.specs.declared.did.Did.{Did}
use Rattle.thy_computer.specs.declared.did.Did.TheVariants.{Boot as DidBoot, Loaded as DidLoad, Restarted as DidRestart, Moved}
use Rattle.thy_computer.specs.declared.view.Phase.{Phase}
use Rattle.thy_computer.specs.declared.view.Phase.TheVariants.{Boot, Run, Halt}
use Rattle.thy_computer.specs.declared.view.View.{View}
use Rattle.thy_computer.specs.Action.{ActsBy}
use Rattle.thy_computer.specs.Booting.{loading_view, boot_did}
use Rattle.thy_computer.specs.CoreStep.{phase_at, CoreStep}
use Rattle.thy_computer.specs.Dram.{LeavesDram}
use Rattle.thy_computer.specs.Pace.{Queues, Boots as Ends, Strides as StridesOn}
use Rattle.thy_computer.specs.Origin.{Origin, StartsFrom, IsOrigin, at, runs_at}
use Rattle.thy_computer.specs.Views.{is_boot}
use Rattle.thy_computer.specs.Work.{Works}
use Rattle.thy_scheme.specs.SchemeStore.{held_by_scheme}
use Rattle.thy_scheme.specs.Boots.{IsBootView, IsBooted, BootsOn}
use Rattle.thy_scheme.specs.CheckpointMarks.{only}
use Rattle.thy_scheme.specs.Scheme.{SchemeOf, IsBooting}
use Rattle.thy_scheme.specs.Calls.{queued_in}
use Rattle.thy_scheme.specs.Laws.{RunHolds}
use Rattle.thy_scheme.specs.Machine.{Machine, run_view, view_in, view_of, gauge_of, has_read_in, boot_left_in}
use Rattle.thy_scheme.specs.Sound.{IsHeld, IsPaced, IsBlank, SoundRun, SoundIn}
use Rattle.thy_scheme.specs.MachineCalls.{running_from, after_boot}
use Rattle.thy_scheme.specs.Rows.{SimulatesCycle, At, BootSimulates}
use Rattle.thy_scheme.proofs.AtLemmas.{at-late, processor-from}
use Rattle.thy_scheme.proofs.EpochLemmas.{few-moves}
use Rattle.thy_scheme.proofs.KeepsLaws.{up_after}
use Rattle.thy_scheme.proofs.LawfulLaws.{boots_phase}
use Rattle.thy_scheme.proofs.SmallLaws.{small_step}
use Rattle.thy_scheme.proofs.WorkLaws.{booting_no_more, uses_none}

-- ---- the view of a boot

boots_spent : (o : Origin) (v : View) → IsBootView o v → v.spent ≡ 0
boots_spent o v shown = elim shown as (λ _. v.spent ≡ 0) [
  | inl s ↦ ap (λ (w : View). w.spent) s.1
  | inr s ↦ elim s.1 as (λ _. v.spent ≡ 0) [
    | inl e ↦ ap (λ (w : View). w.spent) e
    | inr e ↦ ap (λ (w : View). w.spent) e
  ]
]

-- ---- the phase after a boot

runs_where : (runs : Bool) → (if runs then Run else Halt) ≡ Run → runs ≡ true
runs_where true e = refl
runs_where false e = absurd (cc)

module _ {S : Type 0} (K : SchemeOf S) (o : Origin) (m : Machine S) (n : Device) where
  sound_in : (runs : Bool) → SoundRun K o m n → SoundIn K o (if runs then Run else Halt) m n
  sound_in true s = s
  sound_in false s = s

  shown_in : (runs : Bool) → view_in K o (if runs then Run else Halt) m n ≡ run_view m
  shown_in true = refl
  shown_in false = refl

  read_in : (runs : Bool) → has_read_in K (if runs then Run else Halt) m ≡ true
  read_in true = refl
  read_in false = refl

  left_in : (runs : Bool) → boot_left_in K (if runs then Run else Halt) m ≡ 0
  left_in true = refl
  left_in false = refl

-- ---- the state that the checkpoint makes

module _ (p : Parameters) (cpu : CpuState) where
  status-from : (blocks : List Block) → (state_from p cpu blocks).status ≡ cpu.status
  unfolding state_from
  status-from blocks = refl

  console-from : (blocks : List Block) → IsSized (new_hart p cpu 0) blocks → length (state_from p cpu blocks).console ≡ cpu.console_len
  unfolding state_from
  console-from blocks sized = length-console_bytes p blocks cpu.console_len sized.range sized.blocks sized.console

  current-from : (number : ℕ) (blocks : List Block) → current (new_hart p cpu number) blocks ≡ state_from p cpu blocks
  unfolding current
  current-from number blocks = refl

-- ---- after the boot

-- a machine in the boot, of the run's geometry
abbrev in_boot : {S : Type 0} → Origin → Machine S → Machine S
in_boot o m = record m { phase = Boot; hart = record m.hart { geometry = o.geometry } }

module _ {S : Type 0} (K : SchemeOf S) (o : Origin) (m : Machine S) (cpu : CpuState) (epoch : ℕ) (t : S) (new : Device)
    (origin : IsOrigin o) (blank : IsBlank m) (booted : IsBooted K o (mark epoch cpu.count) cpu t new)
    (holds : RunHolds K o (only (mark epoch cpu.count)) t new) where
  abbrev blocks : List Block
  blocks = (K.holding t new).blocks

  abbrev next : Machine S
  next = running_from cpu epoch t (in_boot o m)

  sized : IsSized (new_hart o.geometry cpu (epoch + 1)) blocks
  sized = record { range = origin.geometry; blocks = holds.memory; console = booted.recordable.console }

  pub count_here : (at o cpu.count).count ≡ cpu.count
  count_here = sym (ap (λ (s : State). s.count) booted.state) ∙ count-state_from o.geometry cpu blocks

  pub runs_here : is_running cpu.status ≡ runs_at o cpu.count
  runs_here = ap is_running (sym (status-from o.geometry cpu blocks)) ∙ ap (λ (s : State). is_running s.status) booted.state

  console_here : cpu.console_len ≡ length (at o cpu.count).console
  console_here = sym (console-from o.geometry cpu blocks (record {
    range = origin.geometry;
    blocks = holds.memory;
    console = booted.recordable.console;
  })) ∙ ap (λ (s : State). length s.console) booted.state

  held_here : IsHeld K next new
  held_here = record {
    agree = blank.agree blocks;
    room = let none = blank.clean in omega arith;
    opened = booted.closed;
  }

  follows_blocks : Follows o.input (at o cpu.count) (new_hart o.geometry cpu (epoch + 1)) blocks
  follows_blocks =
      let here : current (new_hart o.geometry cpu (epoch + 1)) blocks ≡ at o cpu.count =
      current-from o.geometry cpu (epoch + 1) blocks ∙ booted.state in
      record {
        sized = sized;
        current = λ none. here;
        coming = λ running. next-coming o.input (new_hart o.geometry cpu (epoch + 1)) blocks sized refl running
            ∙ ap (step (setting_for o.geometry o.input)) here;
      }

  paced_here : IsPaced K o.geometry next new
  paced_here =
      let none = blank.spent in
      let few = few-moves (moment (new_hart o.geometry cpu (epoch + 1)) m.cache (held_by_scheme K t new)) in
      let some = epoch_least o.geometry origin.geometry in
      let engine = holds.bounded.engine in
      let promotions = holds.bounded.promotions in
      let owed = holds.bounded.owed in
      record {
        spent = omega arith;
        fresh = λ none. (blank.clean, booted.storeless);
        sealed_storeless = λ idle. absurd (let lively = blank.idle in cc);
        strides = λ idle over. absurd (over refl);
        promoted = λ over. absurd (over refl);
      }

  pub run_here : SoundRun K o next new
  run_here = record {
    checkpoints = booted.sound;
    held = held_here;
    follows = subst (Follows o.input (at o cpu.count) (new_hart o.geometry cpu (epoch + 1))) (sym (blank.reads blocks)) follows_blocks;
    writes = tt;
    front = record { there = λ h is. absurd (cc); rests = λ none. refl; over = λ over. absurd (over refl) };
    counted = record {
      start = at-late o cpu.count count_here;
      count = count_here;
      processor = processor-from o.geometry cpu blocks (at o cpu.count) booted.state;
      running = runs_here;
    };
    epoch = record { began = λ none. refl; span = refl; retired = epoch_least o.geometry origin.geometry; hand = λ over. refl };
    numbered = record { epoch = refl; sealed = λ s e. absurd (cc); unwritten = λ e. refl };
    shown = record { done = console_here; sealed = λ s e. absurd (cc); ends = λ s e. absurd (cc) };
    ended = record {
      sealed = λ s e. absurd (cc);
      halted = λ halt. (record { count_is = refl; hand = refl; over = refl; begun = refl }, refl);
      live = λ run over live. sym runs_here ∙ runs_where (is_running cpu.status) run;
    };
    paced = paced_here;
  }

-- ---- the steps

module _ {S : Type 0} (K : SchemeOf S) (o : Origin) (cycles : ℕ) (m : Machine S) (n : Device) (t : S) (new : Device)
    (at : At K o cycles (in_boot o m) n) where
  boots : IsBooting K o m.scheme n
  boots = record { boots = at.sound.moment.boots; up = at.sound.up }

  shown : IsBootView o (K.boot_view o m.scheme n)
  shown = (at.lawful.boot_holds o m.scheme n boots).shown

  -- the view of a machine that boots is in the boot
  not_behind : is_boot (K.boot_view o m.scheme n).phase ≡ false → ⊥
  not_behind run = let both : true ≡ false = sym (ap is_boot (boots_phase o (K.boot_view o m.scheme n) shown)) ∙ run in cc

  blank_on : IsBlank m
  blank_on = let b = at.sound.moment.blank in record {
    agree = b.agree;
    reads = b.reads;
    clean = b.clean;
    hand = b.hand;
    spent = b.spent;
    lap = b.lap;
    idle = b.idle;
    begun = b.begun;
    last = b.last;
  }

  goes_on : BootsOn K o GoesOn m.scheme n t new → SimulatesCycle K o cycles DidBoot (in_boot o m) n (after_boot o GoesOn t (in_boot o m)) new
  goes_on b =
      let up = up_after DidBoot n new at.sound.up b.acts in
      let blank = blank_on in
      let step : CoreStep o (K.boot_view o m.scheme n) DidBoot (K.boot_view o t new) =
      (boots_phase o (K.boot_view o m.scheme n) shown, b.answers.1) in
      let none = boots_spent o (K.boot_view o t new) (at.lawful.boot_holds o t new (record { boots = b.answers.0; up = up })).shown in
      let unsecured : secured m.hart.hand ≡ 0 = ap secured blank.hand in
      let clean = blank.clean in
      record {
        at_next = record {
          origin = at.sound.origin;
          geometry = refl;
          sized = at.sound.sized;
          up = up;
          unfailed = at.sound.unfailed;
          small = small_step o cycles (K.boot_view o m.scheme n) (K.boot_view o t new) at.sound.small DidBoot step;
          moment = record {
            boots = b.answers.0;
            blank = record { agree = blank.agree; reads = blank.reads; clean = blank.clean; hand = blank.hand; spent = blank.spent; lap = blank.lap; idle = blank.idle; begun = blank.begun; last = blank.last };
          };
        };
        step = step;
        acts = b.acts;
        dram = b.dram;
        pace = record {
          spent = omega (arith, none);
          queues = b.queue;
          boots = λ boot. b.nearer;
          strides = refl;
          entries = omega (arith, unsecured, clean);
        };
        works = record { done = tt; left = booting_no_more K DidBoot (in_boot o m) (after_boot o GoesOn t (in_boot o m)) n new };
        dirties = inl (uses_none K o (in_boot o m) (after_boot o GoesOn t (in_boot o m)) n new (omega arith) refl (λ run. absurd (not_behind run)));
        exhausts = λ moved. absurd (cc);
        read = λ empty. b.read;
        still = λ found r current. b.still found r.done current;
      }

  -- the last step of a boot, by what the cycle is reported to have done
  boots_up : (did : Did) (cpu : CpuState) (epoch : ℕ) → IsBooted K o (mark epoch cpu.count) cpu t new
      → ActsBy (K.migrates m.scheme) did n new → LeavesDram did n new (K.dram m.scheme) (K.dram t)
      → CoreStep o (K.boot_view o m.scheme n) did (run_view (running_from cpu epoch t (in_boot o m)))
      → Queues did (queued_in K m.scheme n) (queued_in K t new) → Ends did (K.boot_left m.scheme) 0
      → StridesOn did (K.boot_view o m.scheme n).retired m.idle m.idle
      → Works did (gauge_of K (in_boot o m) n) (gauge_of K (running_from cpu epoch t (in_boot o m)) new) n new (K.dram m.scheme) (K.dram t)
      → did ≢ Moved
      → ((found : Mark) → (K.boot_view o m.scheme n).done ≡ Some found → K.migrates m.scheme ≡ false → new ≡ n)
      → SimulatesCycle K o cycles did (in_boot o m) n (running_from cpu epoch t (in_boot o m)) new
  boots_up did cpu epoch booted acts dram step queues ends strides works other still =
      let next : Machine S = running_from cpu epoch t (in_boot o m) in
      let runs : Bool = is_running cpu.status in
      let up = up_after did n new at.sound.up acts in
      let blank = blank_on in
      let holds = at.lawful.run_holds o (only (mark epoch cpu.count)) t new (record { sound = booted.sound; up = up }) in
      let now : view_of K o next new ≡ run_view next = shown_in K o next new runs in
      let stepped : CoreStep o (K.boot_view o m.scheme n) did (view_of K o next new) =
      subst (CoreStep o (K.boot_view o m.scheme n) did) (sym now) step in
      let spent : (view_of K o next new).spent ≡ m.spent = ap (λ (v : View). v.spent) now in
      let none = blank.spent in
      let clean = blank.clean in
      record {
        at_next = record {
          origin = at.sound.origin;
          geometry = refl;
          sized = at.sound.sized;
          up = up;
          unfailed = at.sound.unfailed;
          small = small_step o cycles (K.boot_view o m.scheme n) (view_of K o next new) at.sound.small did stepped;
          moment = sound_in K o next new runs (run_here K o m cpu epoch t new at.sound.origin blank booted holds);
        };
        step = stepped;
        acts = acts;
        dram = dram;
        pace = record {
          spent = omega (arith, spent, none);
          queues = queues;
          boots = λ boot. subst (Ends did (K.boot_left m.scheme)) (sym (left_in K o next new runs)) ends;
          strides = strides;
          entries = omega (arith, clean);
        };
        works = works;
        dirties = inl (uses_none K o (in_boot o m) next n new (omega arith) (sym blank.hand) (λ run. absurd (not_behind run)));
        exhausts = λ moved. absurd (other moved);
        read = λ empty. read_in K o next new runs;
        still = λ found r current. still found r.done current;
      }

  -- the view after the boot
  abbrev begun_view : Phase → ℕ → ℕ → Mark → View
  begun_view phase spent lap done = record {
    phase = phase;
    done = Some done;
    sealed = None;
    epoch = done.epoch + 1;
    count = done.count;
    retired = 0;
    spent = spent;
    lap = lap;
    over = None;
    written = false;
  }

  begins : (cpu : CpuState) (epoch : ℕ) (phase : Phase) → (if is_running cpu.status then Run else Halt) ≡ phase
      → run_view (running_from cpu epoch t (in_boot o m)) ≡ begun_view phase 0 0 (mark epoch cpu.count)
  begins cpu epoch phase is =
      let blank = blank_on in
      ap (λ p. begun_view p m.spent m.lap (mark epoch cpu.count)) is
      ∙ ap (λ s. begun_view phase s m.lap (mark epoch cpu.count)) blank.spent
      ∙ ap (λ l. begun_view phase 0 l (mark epoch cpu.count)) blank.lap

  starts_running : (kept : Option Mark) → StartsFrom kept o.start → kept ≡ None → o.start.status ≡ Running
  starts_running None starts none = starts
  starts_running (Some a) starts none = absurd (cc)

  loads : BootsOn K o Loaded m.scheme n t new → SimulatesCycle K o cycles DidLoad (in_boot o m) n (after_boot o Loaded t (in_boot o m)) new
  loads b =
      let l = b.answers in
      let v : View = K.boot_view o m.scheme n in
      let written : View = record (loading_view o.start.count) { written = true } in
      let runs : (if is_running o.start.status then Run else Halt) ≡ Run =
      ap (λ (s : Status). if is_running s then Run else Halt) (starts_running o.kept at.sound.origin.starts l.fresh) in
      boots_up DidLoad (cpu_of o.start) 0 l.booted b.acts b.dram
      (record {
        phase = ap (λ (w : View). w.phase) l.view;
        none = ap (λ (w : View). w.done) l.view;
        written = ap (λ (w : View). w.written) l.view;
        sealed = ap (λ (w : View). w.sealed) l.view;
        becomes = begins (cpu_of o.start) 0 Run runs
            ∙ ap (λ (w : View). record w { phase = Run; done = w.sealed; sealed = None; epoch = 1; count = o.start.count; written = false })
            (sym l.view);
      })
      b.queue (let left = b.nearer in omega arith) refl (record {
        done = tt;
        left = record { moves = λ e. absurd (cc); owed = λ e. absurd (cc); owed_in_all = λ e. absurd (cc); promotions = λ e. absurd (cc) };
      }) (λ moved. absurd (cc)) b.still

  restarts : (cpu : CpuState) (epoch : ℕ) → BootsOn K o (Restarted cpu epoch) m.scheme n t new
      → SimulatesCycle K o cycles (DidRestart epoch cpu.count) (in_boot o m) n (after_boot o (Restarted cpu epoch) t (in_boot o m)) new
  restarts cpu epoch b =
      let r = b.answers in
      let up = up_after (DidRestart epoch cpu.count) n new at.sound.up b.acts in
      let holds = at.lawful.run_holds o (only (mark epoch cpu.count)) t new (record { sound = r.booted.sound; up = up }) in
      let runs : (if is_running cpu.status then Run else Halt) ≡ phase_at o cpu.count =
      ap (λ (b : Bool). if b then Run else Halt) (runs_here K o m cpu epoch t new at.sound.origin blank_on r.booted holds) in
      boots_up (DidRestart epoch cpu.count) cpu epoch r.booted b.acts b.dram
      (record {
        phase = ap (λ (w : View). w.phase) r.view;
        done = ap (λ (w : View). w.done) r.view;
        unsealed = ap (λ (w : View). w.sealed) r.view;
        unwritten = ap (λ (w : View). w.written) r.view;
        becomes = begins cpu epoch (phase_at o cpu.count) runs
            ∙ ap (λ (w : View). record w { phase = phase_at o cpu.count; epoch = epoch + 1; count = cpu.count; retired = 0; spent = 0; lap = 0 }) (sym r.view);
      })
      b.queue (let left = b.nearer in omega arith) refl (record {
        done = tt;
        left = record { moves = λ e. absurd (cc); owed = λ e. absurd (cc); owed_in_all = λ e. absurd (cc); promotions = λ e. absurd (cc) };
      }) (λ moved. absurd (cc)) b.still

  boots_in : (step : BootStep) → BootsOn K o step m.scheme n t new
      → SimulatesCycle K o cycles (boot_did step) (in_boot o m) n (after_boot o step t (in_boot o m)) new
  boots_in GoesOn b = goes_on b
  boots_in Loaded b = loads b
  boots_in (Restarted cpu epoch) b = restarts cpu epoch b
  boots_in (Refused bad) b = absurd b.answers

pub boot_simulates : {S : Type 0} (K : SchemeOf S) → BootSimulates K
boot_simulates {S} K o cycles m n t new step at phase b =
    let here : record m { phase = Boot; hart = record m.hart { geometry = o.geometry } } ≡ m =
    ap (λ (p : Phase). record m { phase = p; hart = record m.hart { geometry = o.geometry } }) (sym phase)
    ∙ ap (λ (g : Parameters). record m { hart = record m.hart { geometry = g } }) (sym at.sound.geometry) in
    let before : At K o cycles (in_boot o m) n = subst (λ x. At K o cycles x n) (sym here) at in
    subst (λ (x : Machine S). SimulatesCycle K o cycles (boot_did step) x n (after_boot o step t x) new) here
    (boots_in K o cycles m n t new before step b)
