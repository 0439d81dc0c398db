-- A step of the boot; and its end: the checkpoint that it found or made is the committed one.
use Rattle.std.proofs.Common.{◌≡◌, ◌≢◌, Bool, true, false, if◌then◌else◌, List, [], length, Some, None, refl, sym, ◌∙◌, ap, subst, ℕ, ◌+◌, ◌≤◌, Option, Result, Ok, Err, IfOk, OnErr}
use Rattle.thy_block.specs.declared.block.Block.{Block}
use Rattle.thy_block.specs.declared.parameters.Parameters.{Parameters}
use Rattle.thy_block.specs.declared.mark.Mark.{Mark}
use Rattle.thy_block.specs.Device.{Device, block_at, newest, IsFramed}
use Rattle.thy_block.proofs.DeviceLemmas.{newest-empty}
use Rattle.thy_block.specs.declared.nvm.NvmError.{NvmError}
use Rattle.thy_block.specs.Marks.{mark}
use Rattle.thy_layout.specs.Saved.{Kept}
use Rattle.thy_isa.specs.declared.state.CpuState.{CpuState}
use Rattle.thy_isa.specs.OnBlocks.{state_from}
use Rattle.thy_isa.specs.Step.{cpu_of, State as Plain, state_of}
use Rattle.thy_isa.proofs.BlockLaws.{count-state_from}
use Rattle.thy_layout.specs.Cpu.{cpu_of_record}
use Rattle.thy_layout.specs.Layout.{header_bad, slot_in, reading}
use Rattle.thy_layout.specs.declared.bad_image.BadImage.{BadImage}
use Rattle.thy_layout.specs.declared.start.Start.{Start}
use Rattle.thy_layout.specs.Commit.{epoch_of, commit_of}
use Rattle.thy_layout.specs.Slots.{cpu_fault}
use Rattle.thy_layout.proofs.SlotLemmas.{fits_cpu}
use Rattle.thy_computer.specs.Origin.{Origin, IsOrigin, at, Begins}
use Rattle.thy_computer.specs.declared.boot_step.BootStep.{BootStep}
use Rattle.thy_computer.specs.declared.view.View.{View}
use Rattle.thy_computer.specs.Action.{Action, ActsBy, doubt_after_fault}
use Rattle.thy_computer.specs.Booting.{boot_did}
use Rattle.thy_computer.specs.CoreStep.{BootsTo, CoreStep}
use Rattle.thy_computer.specs.Dram.{ActsOnDram}
use Rattle.thy_computer.specs.Safe.{ceiling, Safe}
use Rattle.thy_computer.proofs.StorableAt.{IsRecordable-at}
use Rattle.thy_computer.proofs.ActionLemmas.{down-after}
use Rattle.thy_computer.specs.Keeps.{Keeps}
use Rattle.thy_computer.specs.declared.round.Round.{Round}
use Rattle.thy_computer.specs.Moves.{IsKeeping}
use Rattle.thy_scheme.specs.CheckpointMarks.{only}
use Rattle.thy_scheme.specs.Boots.{IsBooted, Loads, Restarts, Answers, BootsOn, BootFails}
use Rattle.thy_scheme.specs.Scheme.{IsBooting, CanBoot}
use Rattle.thy_checkpoint.specs.Boot.{Booting, slot_read, IsBoot, answer_at, answer_of}
use Rattle.thy_checkpoint.specs.Filling.{layout_at, first_slot_of, FillingOf}
use Rattle.thy_checkpoint.specs.Recovers.{IsRestored}
use Rattle.thy_checkpoint.specs.Sound.{BootImages, start_mark, IsLoaded, layout_for, first_of, standing_in_boot, images_after, IsRecovering, IsSoundAt, IsLoaded as IsLoadedBoot}
use Rattle.thy_checkpoint.specs.Start.{CanStart}
use Rattle.thy_checkpoint.proofs.LoadedLemmas.{loaded-state, loaded-header}
use Rattle.thy_checkpoint.proofs.StartLemmas.{CanStart-origin}
use Rattle.thy_checkpoint.specs.declared.boot_stage.Stage.{Stage}
use Rattle.thy_checkpoint.specs.declared.boot_stage.Stage.TheVariants.{Reads, Over}
use Rattle.thy_checkpoint.specs.declared.boot_stage.ReadStage.TheVariants.{Refusing}
use Rattle.thy_checkpoint.specs.declared.boot_stage.End.TheVariants.{Restored, Loaded}
use Rattle.thy_checkpoint.specs.Laws.{IsGoing, IsMoved, failed_answer}
use Rattle.thy_checkpoint.specs.Left.{boot_left}
use Rattle.thy_checkpoint.specs.Shows.{migrates_at, seen_at}
use Rattle.thy_checkpoint.specs.Steps.{CanStep, Steps, action_of, Fails, TakesStep}
use Rattle.thy_checkpoint.proofs.ActLemmas.{steps_act, found_stays, steps_fill, failures_act, steps_come_nearer}
use Rattle.thy_checkpoint.proofs.FoundLemmas.{restored_is_kept, never_refused}
use Rattle.thy_checkpoint.proofs.SafeLemmas.{sound_may_step, failures_move, steps_move}
use Rattle.thy_scheme_parts.specs.Seen.{view_at, has_read_at}
use Rattle.thy_scheme_parts.proofs.SeenLemmas.{not-unread, kept-on, WasLoading, was-loading, was-found, fewer_has_read, found_fails_unwritten, queue-on}
use Rattle.thy_checkpoint.specs.declared.engine_stage.EngineStage.{EngineStage}
use Rattle.thy_checkpoint.specs.declared.engine_stage.EngineStage.TheVariants.{Idle, InRound, Tail}
use Rattle.thy_checkpoint.specs.Items.{Resting, Applying, phase_committed}
use Rattle.thy_checkpoint.specs.Progress.{phase_of, applying, is_under_way}
use Rattle.thy_scheme_parts.specs.Checkpoints.{Checkpoints, is_sealing, is_confirming, saved_at, HasWrittenBefore}
use Rattle.thy_scheme_parts.specs.Design.{DesignOf, Composed}
use Rattle.thy_scheme_parts.specs.IsDesign.{IsDesign}
use Rattle.thy_scheme_parts.specs.Powering.{EndsBoot, IsPowering}
use Rattle.thy_scheme_parts.specs.Sound.{layout_for as layout_by, IsSound}
use Rattle.thy_scheme_parts.proofs.SafeLemmas.{idle_stage}
use Rattle.thy_scheme_parts.proofs.SoundLemmas.{written_stage}
use Rattle.thy_scheme_parts.specs.AreParts.{AreParts}
use Rattle.thy_scheme_parts.specs.Boots.{Boots, IsUnused, booted, engine_at}
use Rattle.thy_scheme_parts.specs.Scheme.{scheme_of}
use Rattle.thy_scheme_parts.proofs.BootLemmas.{view-is}
use Rattle.thy_scheme_parts.proofs.HeldLemmas.{blocks_held}

abbrev images_of : List Block → Mark → Checkpoints
images_of before m = record { before = before; kept = Some m; next = []; sealed = None }

-- a scheme in which nothing was sealed or stored yet, over a device of its size
pub record IsUnsealed {C : Type 0} (D : DesignOf C) (o : Origin) (s : Composed C) (c : C) : Type 0 where
  pub control : D.filling.p c ≡ o.geometry
  pub engine : s.engine.p ≡ o.geometry
  pub regs : length s.engine.cpu.regs ≡ 32
  pub idle : is_under_way s.engine.stage ≡ false
  pub room : (D.filling.dram c).room ≡ o.geometry.dramq
  pub storeless : s.storeless ≡ true
  pub sealed_storeless : s.sealed_storeless ≡ false

module _ {C : Type 0} (D : DesignOf C) (o : Origin) (m : Mark) (before : List Block) (n : Device) (b : Booting) (s : Composed C) (c : C)
    (unsealed : IsUnsealed D o s c) (keeps : Keeps o (layout_by D o) n (Kept before) (Some m) None)
    (stated : block_at before 1 ≡ commit_of m.epoch)
    (header : header_bad (layout_by D o) (newest n 0) true ≡ None) (cpu : CpuState)
    (state : state_from o.geometry cpu (D.filling.loads c n) ≡ at o m.count) where
  abbrev At : EngineStage → Composed C
  At q = record s { control = c; engine = record s.engine { stage = q }; boot = b }

  ends_at : (q : EngineStage) → EndsBoot D (phase_of q) c n before → is_sealing q ≡ false → is_confirming q ≡ false
      → saved_at q (images_of before m) ≡ Kept before → ((r : Round) → q ≢ InRound r) → HasWrittenBefore D q s.engine c n
      → IsSound D o (only m) (At q) n
  ends_at q ends sealing confirming saved no_slot written = record {
    held = record {
      geometry = unsealed.control;
      moment = ends.moment s.engine.epoch;
      fits = record {
        same_p = unsealed.control ∙ sym unsealed.engine;
        inside = λ r is. absurd (no_slot r is);
        stands = (ends.moment s.engine.epoch).stands;
      };
      regs = unsealed.regs;
      room = unsealed.room;
    };
    images = images_of before m;
    checkpoints = record {
      kept = refl;
      stated = stated;
      sealed = refl;
      keeping = subst (λ x. Keeps o (layout_by D o) n x (Some m) None) (sym saved) keeps;
      meant = ends.keeps s.engine.epoch;
      written = written_stage D q q s.engine c n written;
      made = λ way. let no : true ≡ false = sym way ∙ sealing in absurd cc;
    };
    way = sealing;
    doubt = sym confirming;
    header = header;
    committed = record { cpu = cpu; state = ap (state_from o.geometry cpu) ends.committed ∙ state };
    rests = coe 1 0 (i. D.parts.rests (unsealed.storeless i) (unsealed.sealed_storeless i) (phase_of q) c) ends.rests;
  }

  nothing : s.engine.stage ≡ Idle
  nothing = idle_stage s.engine.stage unsealed.idle

  pub ends_idle : EndsBoot D Resting c n before → IsSound D o (only m) (record s { control = c; boot = b }) n
  ends_idle ends =
      subst (λ (q : EngineStage). IsSound D o (only m) (At q) n) (sym nothing) (ends_at Idle ends refl refl refl (λ r is. cc) tt)

  pub ends_tail : EndsBoot D (Applying 0) c n before
      → IsSound D o (only m) (record s { control = c; engine = applying s.engine; boot = b }) n
  ends_tail ends = ends_at (Tail 0) ends refl refl refl (λ r is. cc) tt

-- ---- a checkpoint was restored: what follows its commit is to be written

module _ {C : Type 0} (D : DesignOf C) (v : IsPowering D) (o : Origin) (m : Mark) (before : List Block) (n : Device) (b : Booting)
    (s : Composed C) (c : C)
    (unsealed : IsUnsealed D o s c) (geometry : b.p ≡ o.geometry) (before_is : before ≡ n.image) (settled : n.queue ≡ [])
    (keeps : Keeps o (layout_by D o) n (Kept before) (Some m) None) (stated : block_at before 1 ≡ commit_of m.epoch)
    (found : IsRestored D.filling n b c)
    (state : state_from b.p (cpu_of_record b.p (slot_read D.filling b)) (D.filling.loads c n) ≡ at o m.count) where
  abbrev cpu : CpuState
  cpu = cpu_of_record b.p (slot_read D.filling b)

  header : header_bad (layout_by D o) (newest n 0) true ≡ None
  header =
      ap (λ (x : Block). header_bad (layout_by D o) x true) (newest-empty n 0 settled)
      ∙ ap (λ (p : Parameters). header_bad (layout_at D.filling p) (block_at n.image 0) true) (sym geometry)
      ∙ found.listed.head.header_fits

  made : state_from o.geometry cpu (D.filling.loads c n) ≡ at o m.count
  made = ap (λ (p : Parameters). state_from p cpu (D.filling.loads c n)) (sym geometry) ∙ state

  ends : EndsBoot D (phase_committed D.items) c n before
  ends =
      subst (EndsBoot D (phase_committed D.items) c n) (sym before_is)
      (v.restores c n b (unsealed.control ∙ sym geometry) settled
      (keeps.sized ∙ ap (λ (p : Parameters). (layout_at D.filling p).image_blocks) (sym geometry)) found)

  by_tail : (tail : Bool) → EndsBoot D (if tail then Applying 0 else Resting) c n before
      → IsSound D o (only m) (record s { control = c; engine = if tail then applying s.engine else s.engine; boot = b }) n
  by_tail true e = ends_tail D o m before n b s c unsealed keeps stated header cpu made e
  by_tail false e = ends_idle D o m before n b s c unsealed keeps stated header cpu made e

  pub restored_sound : IsSound D o (only m)
      (record s { control = c; engine = if D.items.has_tail then applying s.engine else s.engine; boot = b }) n
      × EndsBoot D (phase_committed D.items) c n before
  restored_sound = (by_tail D.items.has_tail ends, ends)

-- ---- the program is loaded

module _ {C : Type 0} (D : DesignOf C) (w : IsDesign D) (v : IsPowering D) (o : Origin) (g : BootImages) (n : Device) (b : Booting)
    (s : Composed C) (c : C)
    (origin : IsOrigin o) (unsealed : IsUnsealed D o s c) (keeps : Keeps o (layout_by D o) n (Kept g.next) (Some (start_mark o)) None)
    (loaded : IsLoaded D.filling o g n c) where
  start : CanStart (D.filling.p c) o.start
  start = subst (λ (p : Parameters). CanStart p o.start) (sym unsealed.control) (CanStart-origin o origin)

  first : EndsBoot D Resting c n g.next
  first =
      v.begins c n g.next o.start loaded.fresh loaded.settled
      (keeps.sized ∙ ap (λ (p : Parameters). (layout_at D.filling p).image_blocks) (sym unsealed.control)) start loaded.made.commit
      (subst (λ (p : Parameters). slot_in (layout_at D.filling p) g.next ≡ first_slot_of D.filling p o.start)
      (sym unsealed.control) loaded.made.slot)

  start_state : state_from o.geometry (cpu_of o.start) (D.filling.loads c n) ≡ at o o.start.count
  start_state = loaded-state D.filling w.fills o origin g n c unsealed.control loaded

  pub loaded_sound : IsSound D o (only (start_mark o)) (record s { control = c; boot = b }) n
      × EndsBoot D Resting c n g.next × (state_from o.geometry (cpu_of o.start) (D.filling.loads c n) ≡ at o o.start.count)
  loaded_sound = (
    ends_idle D o (start_mark o) g.next n b s c unsealed keeps loaded.made.commit
        (loaded-header D.filling w.fills o origin g n c unsealed.control loaded) (cpu_of o.start)
        start_state first,
    first,
    start_state,
  )

module _ {C : Type 0} (D : DesignOf C) (w : AreParts D) where
  abbrev F : FillingOf C
  F = D.filling

  -- ---- a step that was taken

  module _ (o : Origin) (s : Composed C) (n : Device) (new : Device) (d : Booting) (e : C) (booting : IsBooting (scheme_of D) o s n)
      (steps : Steps F o.start n s.boot s.control new d e) (boot : IsBoot F d) (state : D.parts.sound e) where
    abbrev boots : Boots D o s n
    boots = booting.boots

    abbrev b : Booting
    b = s.boot

    abbrev g : BootImages
    g = boots.images

    abbrev h : BootImages
    h = images_after (first_of F o) b.stage n g

    abbrev t : Composed C
    t = booted D d e s

    moved : IsMoved F o g n b new d e
    moved = steps_move F w.design.fills o g n b s.control new d e boots.origin boots.sound steps

    filled : ActsOnDram n new (F.dram s.control) (F.dram e) × F.keeps s.control e
    filled = steps_fill F w.design.fills o.start n b s.control new d e steps

    same : d.p ≡ b.p
    same = moved.sound.geometry ∙ sym boots.sound.geometry

    kept : h.kept ≡ g.kept
    kept = kept-on (first_of F o) b.stage n g

    never : (bad : BadImage) → d.stage ≢ Reads (Refusing bad)
    never bad = never_refused F w.design.fills o h new d e bad moved.sound

    nearer : boot_left F d d.stage + 1 ≤ boot_left F b b.stage
    nearer =
        steps_come_nearer F w.design.fills o.start n b s.control new d e
        (sound_may_step F w.design.fills o g n b s.control boots.origin boots.sound boots.going booting.up) steps
        (λ bad. never_refused F w.design.fills o g n b s.control bad boots.sound)

    read : has_read_at d.stage ≡ true
    read = fewer_has_read F w.design.fills b d d.stage same nearer

    acts : ActsBy (migrates_at b.stage) (boot_did (answer_of F d)) n new
    acts = steps_act F w.design.fills o.start n b s.control new d e steps

    up : new.down ≡ false
    up = down-after acts.action n new acts.left ∙ booting.up

    room : (F.dram e).room ≡ o.geometry.dramq
    room = w.powering.keeps_room s.control e filled.1 ∙ boots.unused.room

    abbrev with_engine : Stage → Composed C
    with_engine q = record s { control = e; engine = engine_at D q s.engine; boot = d }

    unused : (q : Stage) → IsGoing q → IsUnused D o (with_engine q)
    unused (Over end) going = absurd going
    unused q going = record {
      sound = state;
      control = moved.sound.same_p;
      engine = boots.unused.engine;
      regs = boots.unused.regs;
      idle = boots.unused.idle;
      room = room;
      sealed_storeless = boots.unused.sealed_storeless;
    }

    abbrev boots-on : IsGoing d.stage → Boots D o t new
    boots-on going = record {
      origin = boots.origin;
      images = h;
      sound = moved.sound;
      going = going;
      boot = boot;
      unused = unused d.stage going;
      unread = λ u. absurd (not-unread d.stage read u);
      storeless = boots.storeless;
    }

    before : view_at (reading F.layouts) o b.stage n ≡ seen_at o g.kept b.stage
    before = view-is D w o s n boots

    abbrev v : View
    v = seen_at o g.kept b.stage

    -- ---- it continues

    goes-on : (q : Stage) → d.stage ≡ q → IsGoing q → BootsTo v (seen_at o g.kept q)
        → Boots D o t new × BootsTo (view_at (reading F.layouts) o b.stage n) (view_at (reading F.layouts) o d.stage new)
    goes-on q is going to =
        let on : Boots D o t new = boots-on (subst (λ (x : Stage). IsGoing x) (sym is) going) in
        let now : view_at (reading F.layouts) o d.stage new ≡ seen_at o g.kept q
        = view-is D w o t new on ∙ ap (λ (k : Option Mark). seen_at o k d.stage) kept ∙ ap (λ (x : Stage). seen_at o g.kept x) is in (
          on,
          coe 1 0 (i. BootsTo (before i) (now i)) to,
        )

    -- ---- it is over

    blocks_are : length new.image ≡ (layout_at F o.geometry).image_blocks → D.parts.agrees e new ≡ true
        → ((scheme_of D).holding t new).blocks ≡ F.loads e new
    blocks_are sized agrees =
        blocks_held D e new agrees (sized ∙ ap (λ (p : Parameters). (layout_at F p).image_blocks) (sym moved.sound.same_p)) up

    unsealed : IsUnsealed D o s e
    unsealed = record {
      control = moved.sound.same_p;
      engine = boots.unused.engine;
      regs = boots.unused.regs;
      idle = boots.unused.idle;
      room = room;
      storeless = boots.storeless;
      sealed_storeless = boots.unused.sealed_storeless;
    }

    loaded : d.stage ≡ Over Loaded → Loads (scheme_of D) o s n t new
    loaded is =
        let shows = subst (λ (x : Stage). CoreStep o v (boot_did (answer_at F x d)) (seen_at o g.kept x)) is moved.shows in
        let was : WasLoading o g b.stage = was-loading o (layout_for F o) g n b.stage boots.going shows.written boots.sound.keeps in
        let keeps : IsKeeping o (layout_for F o) (standing_in_boot o (Over Loaded) h new)
        = subst (λ (x : Stage). IsKeeping o (layout_for F o) (standing_in_boot o x h new)) is moved.sound.keeps in
        let far : IsLoadedBoot F o h new e = subst (λ (x : Stage). IsSoundAt F o x h new d e) is moved.sound.so_far in
        let ended = loaded_sound D w.design w.powering o h new d s e boots.origin unsealed keeps far in
        let agrees = w.design.agreeing Resting 0 e new (ended.1.moment 0) in
        record {
          fresh = was.0;
          view = before ∙ was.1;
          booted = record {
            sound = subst (λ (q : Stage). IsSound D o (only (start_mark o)) (with_engine q) new) (sym is) ended.0;
            state = ap (state_from o.geometry (cpu_of o.start)) (blocks_are keeps.sized agrees) ∙ ended.2;
            count = refl;
            recordable = (CanStart-origin o boots.origin).recordable;
            closed = ended.1.closed;
            whole = ended.1.whole;
            storeless = boots.storeless;
          };
        }

    restarted : d.stage ≡ Over Restored → Restarts (scheme_of D) o (cpu_of_record d.p (slot_read F d)) (epoch_of d.commit) s n t new
    restarted is =
        let epoch : ℕ = epoch_of d.commit in
        let slot : List Block = slot_read F d in
        let cpu : CpuState = cpu_of_record d.p slot in
        let shows = subst (λ (x : Stage). CoreStep o v (boot_did (answer_at F x d)) (seen_at o g.kept x)) is moved.shows in
        let r = restored_is_kept F w.design.fills o h new d e moved.sound is in
        let m : Mark = r.0 in
        let keeps : Keeps o (layout_for F o) new (Kept h.before) (Some m) None = r.3 in
        let found : IsRestored F new d e = r.5 in
        let far : IsRecovering F h new d e = subst (λ (x : Stage). IsSoundAt F o x h new d e) is moved.sound.so_far in
        let stated : block_at h.before 1 ≡ commit_of m.epoch
        = ap (λ (i : List Block). block_at i 1) far.before_is ∙ r.6 ∙ ap commit_of (sym r.2) in
        let made : state_from d.p cpu (F.loads e new) ≡ at o m.count
        = subst (λ (p : Parameters). state_from p (cpu_of_record p slot) (F.loads e new) ≡ at o m.count) (w.design.fills.laid.of d.p) r.4 in
        let made_state : state_from o.geometry cpu (F.loads e new) ≡ at o m.count
        = ap (λ (p : Parameters). state_from p cpu (F.loads e new)) (sym moved.sound.geometry) ∙ made in
        let count : cpu.count ≡ m.count
        = sym (count-state_from d.p cpu (F.loads e new)) ∙ ap (λ (x : Plain). x.count) made ∙ keeps.meant.counted in
        let is_mark : m ≡ mark epoch cpu.count
        = ap (λ (x : ℕ). mark x m.count) r.2 ∙ ap (mark epoch) (sym count) in
        let ended = restored_sound D w.powering o m h.before new d s e unsealed moved.sound.geometry far.before_is far.read.settled keeps
        stated found made in
        let agrees = w.design.agreeing (phase_committed D.items) 0 e new (ended.1.moment 0) in
        let fits = fits_cpu o.geometry d.p ceiling slot
        (subst (λ (p : Parameters). cpu_fault p ceiling slot ≡ None) (w.design.fills.laid.of o.geometry)
        (w.design.fills.laid.cpu o.geometry ceiling d.commit slot
        (subst (λ (p : Parameters). (layout_at F p).slot_bad ceiling d.commit slot ≡ None) moved.sound.geometry found.listed.slot_fits))) in
        let over : IsBooted (scheme_of D) o m cpu t new = record {
          sound = subst (λ (q : Stage). IsSound D o (only m) (with_engine q) new) (sym is) ended.0;
          state = ap (state_from o.geometry cpu) (blocks_are keeps.sized agrees) ∙ made_state;
          count = count;
          recordable = IsRecordable-at o m.count cpu (F.loads e new) boots.origin made_state fits.1 fits.0;
          closed = ended.1.closed;
          whole = ended.1.whole;
          storeless = boots.storeless;
        } in
        record {
          view = before ∙ was-found o g b.stage (mark epoch cpu.count) boots.going shows.done;
          booted = subst (λ (x : Mark). IsBooted (scheme_of D) o x cpu t new) is_mark over;
        }

    -- ---- by the result

    answers-at : (q : Stage) → d.stage ≡ q → CoreStep o v (boot_did (answer_at F q d)) (seen_at o g.kept q)
        → Answers (scheme_of D) o (answer_at F q d) s n t new
    answers-at (Reads (Refusing bad)) is shows = absurd (never bad is)
    answers-at (Over Restored) is shows = restarted is
    answers-at (Over Loaded) is shows = loaded is
    answers-at q is shows = goes-on q is tt shows.1

    pub boots_on : BootsOn (scheme_of D) o (answer_of F d) s n t new
    boots_on = record {
      answers = answers-at d.stage refl moved.shows;
      acts = acts;
      dram = filled.0;
      queue = queue-on F o.start n b s.control new d e b.stage steps filled.0;
      nearer = nearer;
      read = read;
      still = λ m found current.
          found_stays F w.design.fills o g.kept m n b s.control new d e (sym (ap (λ (x : View). x.done) before) ∙ found) current steps;
    }

  -- ---- one that failed

  module _ (o : Origin) (s : Composed C) (n : Device) (booting : IsBooting (scheme_of D) o s n) (new : Device) where
    boot_fails : Fails F o.start s.boot s.control n new → IsFramed n new → BootFails (scheme_of D) o s n new
    boot_fails fails framed =
        let boots : Boots D o s n = booting.boots in
        let seen : View = seen_at o boots.images.kept s.boot.stage in
        let action : Action = action_of F o.start s.boot s.control in
        let safe : Safe (reading F.layouts) o seen.done (doubt_after_fault action seen) new
        = (failures_move F w.design.fills o boots.images n s.boot s.control new boots.origin boots.sound boots.going fails framed).safe in
        let answer : BootStep = failed_answer s.boot.stage in
        record {
          step = answer;
          acted = record {
            action = action;
            asked = failures_act F w.design.fills o.start s.boot s.control n new fails;
            failed = fails;
          };
          safe = subst (λ (x : View). Safe (reading F.layouts) o x.done (doubt_after_fault action x) new) (sym (view-is D w o s n boots)) safe;
          still = λ m found current.
              found_fails_unwritten F w.design.fills o boots.images.kept m s.boot s.control n new s.boot.stage
              (sym (ap (λ (x : View). x.done) (view-is D w o s n boots)) ∙ found) current fails;
        }

  -- ---- by the boot's result

  module _ (o : Origin) (s : Composed C) (n : Device) (booting : IsBooting (scheme_of D) o s n) (new : Device) (d : Booting) (e : C)
      (boot : IsBoot F d) (state : D.parts.sound e) where
    abbrev Took : Result BootStep NvmError → Type 0
    Took r = TakesStep F r o.start n s.boot s.control new d e

    pub boots-by : (r : Result BootStep NvmError) → IfOk r (λ a. a ≡ answer_of F d) → Took r
        → IfOk r (λ step. BootsOn (scheme_of D) o step s n (booted D d e s) new)
    boots-by (Ok a) is took =
        subst (λ (x : BootStep). BootsOn (scheme_of D) o x s n (booted D d e s) new) (sym is)
        (boots_on o s n new d e booting took.steps boot state)
    boots-by (Err x) is took = tt

    pub boot-fails-by : (r : Result BootStep NvmError) → Took r → OnErr r (BootFails (scheme_of D) o s n new)
    boot-fails-by (Ok a) took = tt
    boot-fails-by (Err x) took = boot_fails o s n booting new took.err took.frame

  -- a step of the boot, with the start of a run
  pub took-for : (o : Origin) (start : Start) → Begins o start
      → (r : Result BootStep NvmError) (n : Device) (b : Booting) (c : C) (new : Device) (d : Booting) (e : C)
      → TakesStep F r (state_of start.state) n b c new d e → TakesStep F r o.start n b c new d e
  took-for o start begins r n b c new d e took = subst (λ (x : Plain). TakesStep F r x n b c new d e) (sym begins.state) took

  pub may-step : (start : Start) (s : Composed C) (n : Device) → CanBoot (scheme_of D) start s n
      → CanStep F (state_of start.state) n s.boot s.control
  may-step start s n can =
      let boots : Boots D can.o s n = can.booting.boots in
      subst (λ (x : Plain). CanStep F x n s.boot s.control) can.begins.state
      (sound_may_step F w.design.fills can.o boots.images n s.boot s.control boots.origin boots.sound boots.going can.booting.up)
