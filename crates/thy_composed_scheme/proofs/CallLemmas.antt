-- What the trait of schemes promises, from what each call makes of the scheme.
use Rattle.std.proofs.Common.{◌≡◌, ℕ, ◌+◌, ◌<◌, ◌≤◌, Bool, true, false, if◌then◌else◌, length, Result, Ok, Err, IfOk, OnOk, OnErr, refl, sym, ◌∙◌, ap, subst, inl, inr, arith}
use Rattle.std.proofs.lemmas.Bool.{both_ways}
use Rattle.thy_block.specs.declared.block.Block.{Block}
use Rattle.thy_block.specs.declared.parameters.Parameters.{Parameters}
use Rattle.thy_block.specs.declared.nvm.NvmError.{NvmError}
use Rattle.thy_block.specs.declared.store.Stored.{Stored}
use Rattle.thy_block.specs.Device.{Device, IsFramed}
use Rattle.thy_block.specs.Places.{dram_blocks}
use Rattle.thy_dram.specs.Contents.{Contents, lost}
use Rattle.thy_isa.specs.declared.state.CpuState.{CpuState}
use Rattle.thy_isa.specs.Step.{State, state_of}
use Rattle.thy_layout.specs.declared.engine_step.EngineStep.{EngineStep}
use Rattle.thy_layout.specs.declared.start.Start.{Start}
use Rattle.thy_computer.specs.declared.boot_step.BootStep.{BootStep}
use Rattle.thy_computer.specs.Action.{Action, Rest, ReadAt, WriteAt, Barrier, Drain, IsAfter, after, FailsTo}
use Rattle.thy_computer.specs.Dram.{ActsOnDram}
use Rattle.thy_computer.specs.Kind.{IsDramOf}
use Rattle.thy_computer.specs.Origin.{Origin, Begins}
use Rattle.thy_computer.proofs.ActionLemmas.{access-is, access-leaves, down_of, queue_of}
use Rattle.thy_checkpoint.specs.declared.boot_stage.ReadStage.{ReadStage}
use Rattle.thy_checkpoint.specs.declared.boot_stage.ReadStage.TheVariants.{Unread, Header, Slot, Fills, Refusing}
use Rattle.thy_checkpoint.specs.declared.boot_stage.Stage.{Stage}
use Rattle.thy_checkpoint.specs.declared.boot_stage.Stage.TheVariants.{Reads, Loads, Migrates, Over}
use Rattle.thy_checkpoint.specs.Boot.{Booting}
use Rattle.thy_checkpoint.specs.Filling.{FillingOf}
use Rattle.thy_checkpoint.specs.Reads.{read_action}
use Rattle.thy_checkpoint.specs.Steps.{StepsAt, action_at}
use Rattle.thy_scheme_parts.proofs.PowerLemmas.{IsDramOf-lost}
use Rattle.thy_scheme.specs.Boots.{BootsOn, BootFails, BootDrains}
use Rattle.thy_scheme.specs.Calls.{Drains, EngineFails, Engines, IsOneAccess, Merges, Promotes, Seals}
use Rattle.thy_scheme.specs.CheckpointMarks.{CheckpointMarks}
use Rattle.thy_scheme.specs.Exact.{Made, Makes}
use Rattle.thy_scheme.specs.Scheme.{IsBooting, Stands}
use Rattle.thy_checkpoint.specs.Progress.{Acts, action_next, is_under_way}
use Rattle.thy_scheme_parts.specs.AreParts.{AreParts}
use Rattle.thy_scheme_parts.specs.Boots.{IsOf}
use Rattle.thy_scheme_parts.specs.Calls.{IsReading, Promotes as MakesPromotion, TakesBootStep, BootsBy, FillsBy, boot_after, changed_to, drained, merged, promoted, sealed, step_of, stored, taken}
use Rattle.thy_scheme_parts.specs.Design.{DesignOf, Composed}
use Rattle.thy_scheme_parts.specs.Scheme.{scheme_of}
use Rattle.thy_scheme_parts.specs.Stays.{Stays}
use Rattle.thy_scheme_parts.specs.Storing.{CanStore, MakesStore}
use Rattle.thy_scheme_parts.proofs.BootLemmas.{boot-drains}
use Rattle.thy_scheme_parts.proofs.BootStepLemmas.{boots-by, boot-fails-by, took-for}
use Rattle.thy_scheme_parts.proofs.DrainLemmas.{drains, merges, promotes}
use Rattle.thy_scheme_parts.proofs.HeldLemmas.{held_block}
use Rattle.thy_scheme_parts.proofs.StepLemmas.{engines, engine-fails, seals}

-- an action that failed leaves the NVM down
pub fails-down : (a : Action) (n m : Device) → FailsTo a n m → m.down ≡ true
fails-down Rest n m failed = absurd failed
fails-down (ReadAt place) n m failed = failed.down
fails-down (WriteAt place block) n m failed = failed.down
fails-down Barrier n m failed = failed.down
fails-down Drain n m failed = failed.down

-- ---- what a call makes exactly

pub made_then : {S A : Type 0} (made : Made S A) (s t : S) (n m : Device) (r : Result A NvmError)
    → IfOk r (λ answer. answer ≡ made.answer) → Acts made.action made.scheme r s n t m → IfOk r (λ answer. Makes made answer n t m)
made_then made s t n m (Ok x) answer acts = record { answer_is = answer; scheme_is = acts.control; nvm_is = acts.device }
made_then made s t n m (Err x) answer acts = tt

pub promoted_then : {S : Type 0} (later s t : S) (n m : Device) (r : Result (Unit {0}) NvmError) → MakesPromotion later r s t
    → IsReading r n m
    → IfOk r (λ done. Makes (changed_to later) done n t m)
promoted_then later s t n m (Ok x) makes reads = record { answer_is = refl; scheme_is = makes.made; nvm_is = reads.same }
promoted_then later s t n m (Err x) makes reads = tt

-- a step of the boot that reads leaves the NVM
read-leaves : {C : Type 0} (F : FillingOf C) (b : Booting) (c : C) (at : ReadStage) (n m : Device) → m ≡ n
    → IsAfter (read_action F b c at) n m
read-leaves F b c Unread n m same = same
read-leaves F b c Header n m same = same
read-leaves F b c (Slot next) n m same = same
read-leaves F b c (Fills k) n m same = same
read-leaves F b c (Refusing bad) n m same = same

boots-at : {C : Type 0} (F : FillingOf C) (start : State) (stage : Stage) (n : Device) (b : Booting) (c : C) (m : Device)
    (d : Booting) (e : C)
    → StepsAt F stage start n b c m d e
    → (d ≡ boot_after F start stage n b) × FillsBy F stage n b c e × IsAfter (action_at F stage start b c) n m
boots-at F start (Reads at) n b c m d e s = (s.boot, s.control, read-leaves F b c at n m s.device)
boots-at F start (Loads r) n b c m d e s = (s.boot, s.control, s.device)
boots-at F start (Migrates r) n b c m d e s = (s.boot, s.control, s.device)
boots-at F start (Over end) n b c m d e s = absurd s

pub booted_then : {C : Type 0} (D : DesignOf C) (start : Start) (s t : Composed C) (n m : Device) (r : Result BootStep NvmError)
    → TakesBootStep D start s n r t m → IfOk r (λ step. BootsBy D (state_of start.state) s n step t m)
booted_then D start s t n m (Ok step) takes =
    let made = boots-at D.filling (state_of start.state) s.boot.stage n s.boot s.control m t.boot t.control takes.steps.steps in
    record { answer = takes.answer; boot = made.0; control = made.1; others = takes.others; nvm = made.2 }
booted_then D start s t n m (Err x) takes = tt

module _ {C : Type 0} (D : DesignOf C) (w : AreParts D) where
  -- ---- power

  pub cut_sized : (s : Composed C) (pick : ℕ) (r : Contents) → r ≡ lost (D.filling.dram s.control) pick → (p : Parameters) → IsOf D p s
      → IsDramOf p r
  cut_sized s pick r is p of =
      IsDramOf-lost p (D.filling.dram s.control) pick r (w.design.dram_length s.control of.sound ∙ ap dram_blocks of.same_p) of.room is

  -- ---- drains, merges, promotions and seals

  pub drains_then : (o : Origin) (k : CheckpointMarks) (s t : Composed C) (n : Device) → t ≡ drained D s
      → 0 < (D.filling.dram s.control).queued
      → Stands (scheme_of D) o k s n → Drains (scheme_of D) o k s n t
  drains_then o k s t n is some stands =
      subst (λ (x : Composed C). Drains (scheme_of D) o k s n x) (sym is) (drains D w.design o k s n stands some)

  pub boot_drains_then : (o : Origin) (s t : Composed C) (n : Device) → t ≡ drained D s → 0 < (D.filling.dram s.control).queued
      → IsBooting (scheme_of D) o s n → BootDrains (scheme_of D) o s n t
  boot_drains_then o s t n is some booting =
      subst (λ (x : Composed C). BootDrains (scheme_of D) o s n x) (sym is) (boot-drains D w o s n booting.boots some)

  pub merges_then : (o : Origin) (k : CheckpointMarks) (s t : Composed C) (n : Device) → t ≡ merged D s → is_under_way s.engine.stage ≡ false
      → D.parts.pages.overlaid s.control ≡ true → Stands (scheme_of D) o k s n → Merges (scheme_of D) o k s n t
  merges_then o k s t n is idle some stands =
      subst (λ (x : Composed C). Merges (scheme_of D) o k s n x)
      (sym (is ∙ ap (λ (b : Bool). record s { control = if b then D.parts.pages.merged s.control else s.control }) some))
      (merges D w.design o k s n stands w.paging idle some)

  pub promotes_then : (o : Origin) (k : CheckpointMarks) (s t : Composed C) (n m : Device) (r : Result (Unit {0}) NvmError)
      → D.parts.pages.promoting s.control ≡ true → MakesPromotion (promoted D s n) r s t → IsReading r n m
      → Stands (scheme_of D) o k s n → OnOk r (Promotes (scheme_of D) o k s n t m)
  promotes_then o k s t n m (Ok x) some makes reads stands =
      subst (λ (d : Device). Promotes (scheme_of D) o k s n t d) (sym reads.same)
      (subst (λ (x : Composed C). Promotes (scheme_of D) o k s n x n)
      (sym (makes.made ∙ ap (λ (b : Bool). record s { control = if b then D.parts.pages.promoted s.control n else s.control }) some))
      (promotes D w.design o k s n stands w.paging some))
  promotes_then o k s t n m (Err x) some makes reads stands = tt

  pub seals_then : (o : Origin) (k : CheckpointMarks) (cpu : CpuState) (epoch : ℕ) (s t : Composed C) (n : Device) → t ≡ sealed D cpu epoch s
      → is_under_way s.engine.stage ≡ false → D.parts.pages.promoting s.control ≡ false → D.parts.pages.overlaid s.control ≡ false
      → Stands (scheme_of D) o k s n → Seals (scheme_of D) o k cpu epoch s n t
  seals_then o k cpu epoch s t n is idle whole bare stands =
      subst (λ (x : Composed C). Seals (scheme_of D) o k cpu epoch s n x) (sym is) (seals D w.design o k cpu epoch s n stands idle whole bare)

  -- ---- stores

  module _ (b : ℕ) (block : Block) (s : Composed C) (n : Device) (can : CanStore D b s.control n) where
    abbrev action : Action
    action = D.parts.store_action b block s.control

    abbrev acted : Device
    acted = after n.writes action n

    made : MakesStore D b block s.control n (D.parts.stored b block s.control n) acted
    made = w.storing.store b block s.control n can

    -- if no block was stored, none was before
    rests_by : (storeless : Bool) → D.parts.storeless_after (D.parts.store_answer b s.control) storeless ≡ true
        → (storeless ≡ true) × (D.parts.storeless_after (D.parts.store_answer b s.control) true ≡ true)
    rests_by true h = (refl, h)
    rests_by false h = absurd (both_ways (D.parts.storeless_after (D.parts.store_answer b s.control) false) (w.storing.stored_once s.control b) h)

    stays_stored : Stays D s n (stored D b block s n) acted
    stays_stored = record {
      control = made.stays;
      engine = refl;
      sealed_storeless = refl;
      boot = refl;
      rests = λ r. let both = rests_by s.storeless r in record { before = both.0; still = made.still both.1 };
    }

    stays_failed : (m : Device) → D.parts.stays s.control n s.control m → Stays D s n s m
    stays_failed m stays = record {
      control = stays;
      engine = refl;
      sealed_storeless = refl;
      boot = refl;
      rests = λ r. record { before = r; still = w.storing.still_same s.control };
    }

    one_more : (d : C) (m : Device) → m ≡ acted → ActsOnDram n m (D.filling.dram s.control) (D.filling.dram d)
        → length m.queue + (D.filling.dram d).queued ≤ length n.queue + (D.filling.dram s.control).queued + 1
    one_more d m is acts = elim acts as (λ _. length m.queue + (D.filling.dram d).queued ≤ length n.queue + (D.filling.dram s.control).queued + 1) [
      | inl same ↦
          let left = ap (λ (x : Device). length x.queue) is in
          let more = queue_of n.writes action n in
          omega (arith, left, more, ap (λ (x : Contents). x.queued) same)
      | inr write ↦ omega (arith, ap (λ (x : Contents). x.queued) write.left, ap (λ (x : Device). length x.queue) write.nvm)
    ]

    up : n.down ≡ false
    up = (held_block D s.control n b can.inside).up

    up_then : acted.down ≡ false
    up_then = down_of n.writes action n ∙ up

    once_stored : IsFramed n acted
        → IsOneAccess (scheme_of D) s n (stored D b block s n) acted
    once_stored framed = record {
      action = action;
      access = w.storing.access b block s.control;
      succeeds = λ alive. record {
        left = access-leaves action n (w.storing.access b block s.control);
        dram = made.dram;
        queue = one_more (D.parts.stored b block s.control n) acted refl made.dram;
        copies = made.copies;
      };
      fails = λ dead. absurd (both_ways acted.down up_then dead);
      frame = framed;
      stays = stays_stored;
    }

    pub store_once : (t : Composed C) (m : Device) (r : Result Stored NvmError)
        → Acts action (stored D b block s n) r s n t m → IsOneAccess (scheme_of D) s n t m
    store_once t m (Ok answer) acts =
        let is : m ≡ acted =
        access-is action n m (w.storing.access b block s.control) acts.device in
        subst (λ (x : Composed C). IsOneAccess (scheme_of D) s n x m) (sym acts.control)
        (subst (λ (d : Device). IsOneAccess (scheme_of D) s n (stored D b block s n) d) (sym is) (once_stored (subst (IsFramed n) is acts.frame)))
    store_once t m (Err x) acts =
        subst (λ (y : Composed C). IsOneAccess (scheme_of D) s n y m) (sym acts.kept) (record {
          action = action;
          access = w.storing.access b block s.control;
          succeeds = λ alive. absurd (both_ways m.down alive (fails-down action n m acts.failed));
          fails = λ dead. acts.failed;
          frame = acts.frame;
          stays = stays_failed m (w.storing.store_fails b block s.control n m can acts.failed acts.frame);
        })

  -- ---- a step of the engine

  module _ (o : Origin) (k : CheckpointMarks) (s t : Composed C) (n m : Device) (way : is_under_way s.engine.stage ≡ true)
      (stands : Stands (scheme_of D) o k s n) where
    pub engines_then : (r : Result EngineStep NvmError) → IfOk r (λ step. step ≡ step_of D s)
        → Acts (action_next D.filling D.items s.engine s.control n) (taken D s) r s n t m
        → IfOk r (λ step. Engines (scheme_of D) o k step s n t m)
    engines_then (Ok step) answer acts =
        subst (λ (x : EngineStep). Engines (scheme_of D) o k x s n t m) (sym answer)
        (subst (λ (x : Composed C). Engines (scheme_of D) o k (step_of D s) s n x m) (sym acts.control)
        (engines D w.design o k s n stands way m acts.device))
    engines_then (Err x) answer acts = tt

    pub engine_fails_then : (r : Result EngineStep NvmError)
        → Acts (action_next D.filling D.items s.engine s.control n) (taken D s) r s n t m → OnErr r (EngineFails (scheme_of D) o k n m)
    engine_fails_then (Ok step) acts = tt
    engine_fails_then (Err x) acts = engine-fails D w.design o k s n stands way m acts.failed acts.frame

  -- ---- a step of the boot

  module _ (o : Origin) (start : Start) (s t : Composed C) (n m : Device) (r : Result BootStep NvmError) (begins : Begins o start)
      (booting : IsBooting (scheme_of D) o s n) (takes : TakesBootStep D start s n r t m) (sound : D.parts.sound t.control) where
    pub boots_then : IfOk r (λ step. BootsOn (scheme_of D) o step s n t m)
    boots_then =
        let took = took-for D w o start begins r n s.boot s.control m t.boot t.control takes.steps in
        subst (λ (x : Composed C). IfOk r (λ step. BootsOn (scheme_of D) o step s n x m)) (sym takes.others)
        (boots-by D w o s n booting m t.boot t.control took.fits sound r takes.answer took)

    pub boot_fails_then : OnErr r (BootFails (scheme_of D) o s n m)
    boot_fails_then =
        let took = took-for D w o start begins r n s.boot s.control m t.boot t.control takes.steps in
        boot-fails-by D w o s n booting m t.boot t.control took.fits sound r took
