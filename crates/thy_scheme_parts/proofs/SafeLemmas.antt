-- Whatever a cut leaves is safe, also of an item that failed; a seal makes the mark that the machine is at the sealed one.
use Rattle.std.proofs.Common.{◌≡◌, ℕ, ◌+◌, false, Option, Some, None, refl, sym, ◌∙◌, ap, subst, ◌⊎◌, nat_lt, Bool, true, if◌then◌else◌, List, ◌∷◌, length, inl, inr, arith}
use Rattle.thy_block.specs.declared.mark.Mark.{Mark}
use Rattle.thy_block.specs.Device.{Device, block_at, newest, IsFramed, HoldsNoMore}
use Rattle.thy_block.specs.declared.block.Block.{Block}
use Rattle.thy_block.specs.Places.{record_blocks}
use Rattle.thy_layout.specs.Saved.{Kept, Saved, guarded}
use Rattle.thy_layout.proofs.SparesLemmas.{Spares-no_more}
use Rattle.thy_isa.specs.declared.state.CpuState.{CpuState}
use Rattle.thy_isa.specs.OnBlocks.{state_from}
use Rattle.thy_layout.specs.Commit.{epoch_of, commit_of}
use Rattle.thy_layout.specs.Layout.{IsWhole, Layout, header_bad, looked_by, reading}
use Rattle.thy_layout.proofs.LayoutLemmas.{decode_by-whole_back}
use Rattle.thy_layout.specs.declared.engine_step.EngineStep.{EngineStep}
use Rattle.thy_layout.specs.declared.engine_step.EngineStep.TheVariants.{Copied, PageBlock, StateBlock, TableBlock}
use Rattle.thy_computer.specs.Origin.{Origin, at}
use Rattle.thy_computer.specs.Safe.{ceiling, Safe}
use Rattle.thy_computer.specs.Action.{FailsTo}
use Rattle.thy_computer.specs.Keeps.{HasKept, doubt_in as doubt_of_saved}
use Rattle.thy_computer.specs.Moves.{standing, IsKeeping, Seals, Goes, LeavesAlone}
use Rattle.thy_computer.proofs.KeepsLemmas.{IsKeeping-move, Safe-kept, Spares-failed_action}
use Rattle.thy_computer.specs.Issuing.{AreIssued}
use Rattle.thy_computer.specs.declared.round.Round.TheVariants.{Write, Settle, Commit, Confirm}
use Rattle.thy_computer.proofs.RoundLemmas.{issued_over}
use Rattle.thy_scheme.specs.CheckpointMarks.{CheckpointMarks, doubt_in, marks_after_fault}
use Rattle.thy_checkpoint.specs.Filling.{FillingOf}
use Rattle.thy_checkpoint.specs.declared.engine_stage.EngineStage.{EngineStage}
use Rattle.thy_checkpoint.specs.declared.engine_stage.EngineStage.TheVariants.{Idle, Body, InRound, Tail}
use Rattle.thy_checkpoint.specs.Items.{Resting, ItemsOf, Made}
use Rattle.thy_checkpoint.specs.Progress.{phase_of, is_under_way, Progress, layout_of, Fits, Item, BodyItem, body_or_slot, tail_or_release, item, action_of, report}
use Rattle.thy_scheme_parts.specs.Checkpoints.{Checkpoints, is_sealing, is_settled, is_confirming, saved_at, saved_failed, standing_at, HasWrittenSlot, HasWrittenBefore}
use Rattle.thy_scheme_parts.specs.Design.{DesignOf, Composed}
use Rattle.thy_scheme_parts.specs.IsDesign.{IsDesign}
use Rattle.thy_scheme_parts.specs.Calls.{sealed}
use Rattle.thy_scheme_parts.specs.Laws.{IsNext, SameReadsKeep, FailedItemsAreSafe, SoundIsSafe}
use Rattle.thy_scheme_parts.specs.Moments.{IsMoment, SealsTo, MakesAt, Carries, ReadsSame, parts_at}
use Rattle.thy_scheme_parts.specs.Sound.{layout_for, IsSound, IsHeld, HasState, HasCheckpoints}
use Rattle.thy_scheme_parts.proofs.SoundLemmas.{made_with, moment_at, stall_at, keeping_at, can, not_looked, some_image, at_round, at_first, keeping_failed}
use Rattle.thy_scheme_parts.proofs.SameLemmas.{issued_same}
use Rattle.thy_scheme_parts.proofs.SlotLemmas.{placed, slot_as}

pub idle_stage : (q : EngineStage) → is_under_way q ≡ false → q ≡ Idle
idle_stage Idle h = refl
idle_stage q h = cc

module _ {C : Type 0} (D : DesignOf C) (w : IsDesign D) (o : Origin) (k : CheckpointMarks) (cpu : CpuState) (epoch : ℕ) (m : Mark)
    (s : Composed C) (n : Device)
    (h : IsSound D o k s n) (idle : is_under_way s.engine.stage ≡ false)
    (whole : D.parts.pages.promoting s.control ≡ false) (bare : D.parts.pages.overlaid s.control ≡ false)
    (t : IsNext D o k cpu epoch m s n) where
  abbrev sc : C
  sc = s.control

  abbrev sg : Checkpoints
  sg = h.images

  nothing : s.engine.stage ≡ Idle
  nothing = idle_stage s.engine.stage idle

  moment : IsMoment D Resting s.engine.epoch sc n
  moment = moment_at D w o k s n h Idle nothing

  to : SealsTo D s.engine.epoch epoch sc (D.parts.seal sc) n
  to = w.seals s.engine.epoch epoch sc n moment whole bare

  -- one image is kept, and no mark is sealed
  keeping_idle : IsKeeping o (layout_for D o) (standing n (Kept sg.before) sg.kept None)
  keeping_idle =
      subst (λ (x : Option Mark). IsKeeping o (layout_for D o) (standing n (Kept sg.before) sg.kept x)) (h.checkpoints.sealed ∙ t.unsealed)
      (keeping_at D w o k s n h Idle nothing)

  -- the image that is kept is of the committed epoch
  kept_epoch : epoch_of (block_at sg.before 1) ≡ k.done.epoch
  kept_epoch =
      let meant : HasKept o (layout_for D o) sg.before (Some k.done)
      = subst (λ (x : Option Mark). HasKept o (layout_for D o) sg.before x) h.checkpoints.kept keeping_idle.meant in
      let whole : IsWhole (layout_for D o) ceiling sg.before k.done.epoch (at o k.done.count)
      = decode_by-whole_back (layout_for D o) ceiling sg.before k.done.epoch (at o k.done.count) meant.decodes in
      whole.of_epoch

  pub seal_keeps_sound : IsSound D o (record k { sealed = Some m }) (sealed D cpu epoch s) n
  seal_keeps_sound = record {
    held = record {
      geometry = to.same_p ∙ h.held.geometry;
      moment = to.moment;
      fits = record { same_p = to.same_p ∙ h.held.fits.same_p; inside = λ j is. cc; stands = to.moment.stands };
      regs = t.recordable.regs_length;
      room = ap (λ d. d.room) to.dram ∙ h.held.room;
    };
    images = record sg { sealed = Some m };
    checkpoints = record {
      kept = h.checkpoints.kept;
      stated = h.checkpoints.stated;
      sealed = refl;
      keeping = IsKeeping-move o (layout_for D o) _ _ (Seals n sg.before sg.kept m) keeping_idle;
      meant = to.keeps sg.before (t.next ∙ ap (λ x. x + 1) (sym kept_epoch)) (stall_at D w o k s n h Idle nothing);
      written = tt;
      made = λ way. record {
        mark = m;
        sealed = refl;
        of_epoch = t.of_epoch;
        small = t.small;
        recordable = t.recordable;
        state_is = ap (state_from o.geometry cpu) to.sealed ∙ t.state;
        counted = t.counted;
        commit = λ settled. cc;
        makes = λ settled. cc;
      };
    };
    way = refl;
    doubt = t.unwritten;
    header = h.header;
    committed = record {
      cpu = h.committed.cpu;
      state =
          ap (state_from o.geometry h.committed.cpu) (to.committed ∙ sym (ap (λ q. D.parts.committed (phase_of q) sc n) nothing))
          ∙ h.committed.state;
    };
    rests = to.rests s.storeless s.sealed_storeless (subst (λ q. D.parts.rests s.storeless s.sealed_storeless (phase_of q) sc) nothing h.rests);
  }

-- ---- what a cut leaves

module _ (k : CheckpointMarks) (g : Checkpoints) (sealed : g.sealed ≡ k.sealed) where
  none_by : k.written ≡ false → None ≡ doubt_in k
  none_by written = sym (ap (λ (b : Bool). if b then k.sealed else None) written)

  -- the mark in doubt, by the images that a cut may leave and by the marks
  pub doubt_is : (q : EngineStage) → k.written ≡ is_confirming q → doubt_of_saved (saved_at q g) g.sealed ≡ doubt_in k
  doubt_is (InRound Confirm) written = sealed ∙ sym (ap (λ (b : Bool). if b then k.sealed else None) written)
  doubt_is q written = none_by written

module _ {C : Type 0} (D : DesignOf C) (o : Origin) where
  pub safe_by : (done : Mark) (saved : Saved) (g : Checkpoints) (n : Device) (doubt : Option Mark) → g.kept ≡ Some done
      → IsKeeping o (layout_for D o) (standing n saved g.kept g.sealed) → doubt_of_saved saved g.sealed ≡ doubt
      → Safe (reading D.filling.layouts) o (Some done) doubt n
  safe_by done saved g n doubt kept keeping is =
      subst (λ (d : Option Mark). Safe (reading D.filling.layouts) o (Some done) d n) is
      (subst (λ (m : Option Mark). Safe (reading D.filling.layouts) o m (doubt_of_saved saved g.sealed) n) kept
      (Safe-kept D.filling.layouts o n saved g.kept g.sealed keeping))

pub sound_is_safe : {C : Type 0} (D : DesignOf C) → SoundIsSafe D
sound_is_safe D o k s n h =
    safe_by D o k.done (saved_at s.engine.stage h.images) h.images n (doubt_in k) h.checkpoints.kept h.checkpoints.keeping
    (doubt_is k h.images h.checkpoints.sealed s.engine.stage h.doubt)

-- ---- between the engine's calls

-- what an image has that was made stays, by the stage
pub makes_over : {C : Type 0} (D : DesignOf C) (epoch : ℕ) (c d : C) (g : List Block) (q : EngineStage) → is_settled q ≡ true
    → (MakesAt D (phase_of q) epoch c g → MakesAt D (phase_of q) epoch d g) → D.parts.makes epoch c g → D.parts.makes epoch d g
makes_over D epoch c d g (InRound r) settled over made = over made
makes_over D epoch c d g q settled over made = cc

module _ {C : Type 0} (D : DesignOf C) (w : IsDesign D) (o : Origin) (k : CheckpointMarks) (s : Composed C) (n : Device)
    (h : IsSound D o k s n) where
  -- a call that leaves the engine alone, and all that holds
  pub stays : (t : Composed C) (m : Device) → t.engine ≡ s.engine
      → Carries D s.engine.epoch (phase_of s.engine.stage) s.control n (phase_of s.engine.stage) t.control m
      → Fits D.filling D.items s.engine t.control → IsKeeping o (layout_for D o) (standing_at s.engine.stage m h.images)
      → newest m 0 ≡ newest n 0 → HasWrittenBefore D s.engine.stage s.engine t.control m
      → D.parts.rests t.storeless t.sealed_storeless (phase_of s.engine.stage) t.control → IsSound D o k t m
  stays t m engine on fits keeping header written rests = record {
    held = subst (λ x. IsHeld D o x t.control m) (sym engine) (record {
      geometry = on.same_p ∙ h.held.geometry;
      moment = on.moment;
      fits = fits;
      regs = h.held.regs;
      room = on.room ∙ h.held.room;
    });
    images = h.images;
    checkpoints = subst (λ x. HasCheckpoints D o k x t.control m h.images) (sym engine) (record {
      kept = h.checkpoints.kept;
      stated = h.checkpoints.stated;
      sealed = h.checkpoints.sealed;
      keeping = keeping;
      meant = on.keeps h.images.before h.checkpoints.meant;
      written = written;
      made = λ way.
          let old = h.checkpoints.made way in
          made_with D o s.engine s.engine.stage s.control t.control n m h.images h.images.next old on.sealed
          (λ is. (old.commit is, makes_over D s.engine.epoch s.control t.control h.images.next s.engine.stage is (on.makes h.images.next) (old.makes is)));
    });
    way = ap (λ (x : Progress). is_sealing x.stage) engine ∙ h.way;
    doubt = h.doubt ∙ sym (ap (λ (x : Progress). is_confirming x.stage) engine);
    header = ap (λ b. header_bad (layout_for D o) b true) header ∙ h.header;
    committed = subst (λ x. HasState D o k.done x t.control m) (sym engine) (record {
      cpu = h.committed.cpu;
      state = ap (state_from o.geometry h.committed.cpu) on.committed ∙ h.committed.state;
    });
    rests = subst (λ (x : Progress). D.parts.rests t.storeless t.sealed_storeless (phase_of x.stage) t.control) (sym engine) rests;
  }

  -- a device that may hold no more after a cut keeps the checkpoints
  pub keeping_over : (m : Device) → length m.image ≡ length n.image → HoldsNoMore n m
      → IsKeeping o (layout_for D o) (standing_at s.engine.stage m h.images)
  keeping_over m as_long no_more =
      IsKeeping-move o (layout_for D o) _ _
      (Goes (saved_at s.engine.stage h.images) h.images.kept h.images.sealed n m
      (Spares-no_more (guarded (looked_by (layout_for D o)) (saved_at s.engine.stage h.images)) n m no_more as_long))
      h.checkpoints.keeping

  -- ---- over a device that gives the same to every read

  module _ (m : Device) (r : ReadsSame n m) where
    slot_over : (q : EngineStage) → s.engine.stage ≡ q → is_sealing q ≡ true → phase_of q ≡ Made → (j : ℕ)
        → HasWrittenSlot D s.engine s.control n j → HasWrittenSlot D s.engine s.control m j
    slot_over q is way made j written =
        let moment = subst (λ ph. IsMoment D ph s.engine.epoch s.control n) made (moment_at D w o k s n h q is) in
        subst (λ memory. AreIssued (layout_of D.filling s.engine).image_blocks (parts_at D s.engine s.control) m memory j)
        (sym (w.same_reads Made s.engine.epoch s.control n m moment r).sealed)
        (issued_same (layout_of D.filling s.engine).image_blocks (parts_at D s.engine s.control) n m (D.parts.sealed s.control n) j
        (placed D w s.engine s.control n moment (can D w o k s n h (ap is_sealing is ∙ way))).placed r written)

    written_over : (q : EngineStage) → s.engine.stage ≡ q → HasWrittenBefore D q s.engine s.control n
        → HasWrittenBefore D q s.engine s.control m
    written_over (InRound q) is b =
        issued_over (layout_of D.filling s.engine).image_blocks (parts_at D s.engine s.control) (parts_at D s.engine s.control)
        (commit_of s.engine.epoch) q n m
        (D.parts.sealed s.control n) (D.parts.sealed s.control m) refl (h.held.fits.inside q is)
        (λ j few written. slot_over (InRound q) is refl refl j written)
        (λ read. record { inside = omega (arith, read.inside, r.as_long); newest_is = r.reads 1 read.inside ∙ read.newest_is }) b
    written_over q is b = tt

    reads_stay : IsSound D o k s m
    reads_stay =
        let on = w.same_reads (phase_of s.engine.stage) s.engine.epoch s.control n m h.held.moment r in
        stays s m refl on h.held.fits (keeping_over m r.as_long r.no_more)
        (r.reads 0 (let some = some_image D w o k s n h in omega (arith, some)))
        (written_over s.engine.stage refl h.checkpoints.written) h.rests

  -- ---- with another controller, whose slot says the same, and that was sealed as this one

  module _ (d : C) (rest : (i : ℕ) → D.items.rest d i ≡ D.items.rest s.control i)
      (same : D.parts.sealed d n ≡ D.parts.sealed s.control n) where
    pub written_as : (q : EngineStage) → s.engine.stage ≡ q → HasWrittenBefore D q s.engine s.control n → HasWrittenBefore D q s.engine d n
    written_as (InRound q) is b =
        issued_over (layout_of D.filling s.engine).image_blocks (parts_at D s.engine s.control) (parts_at D s.engine d)
        (commit_of s.engine.epoch) q n n
        (D.parts.sealed s.control n) (D.parts.sealed d n) refl (h.held.fits.inside q is)
        (λ j few written. slot_as D s.engine s.control d n j rest same written)
        (λ read. read) b
    written_as q is b = tt

  -- another controller whose slot says the same keeps the checkpoints
  pub stays_as : (d : C) → Carries D s.engine.epoch (phase_of s.engine.stage) s.control n (phase_of s.engine.stage) d n
      → ((i : ℕ) → D.items.rest d i ≡ D.items.rest s.control i) → IsSound D o k (record s { control = d }) n
  stays_as d on rest =
      stays (record s { control = d }) n refl on
      (record { same_p = on.same_p ∙ h.held.fits.same_p; inside = h.held.fits.inside; stands = on.moment.stands })
      h.checkpoints.keeping refl (written_as d rest on.sealed s.engine.stage refl h.checkpoints.written)
      (on.rests s.storeless s.sealed_storeless h.rests)

  -- once a write of the DRAM landed
  pub dram_drain_keeps : IsSound D o k (record s { control = D.filling.drained s.control }) n
  dram_drain_keeps =
      stays_as (D.filling.drained s.control) (w.dram_drained (phase_of s.engine.stage) s.engine.epoch s.control n h.held.moment)
      (w.drained_rest s.control)

pub same_reads_keep : {C : Type 0} (D : DesignOf C) → IsDesign D → SameReadsKeep D
same_reads_keep D w o k s n m h r = reads_stay D w o k s n h m r

-- ---- items that fail

fault_of_block : (k : CheckpointMarks) (b : Bool) → marks_after_fault (if b then StateBlock else TableBlock) k ≡ k
fault_of_block k true = refl
fault_of_block k false = refl

fault_of_step : (k : CheckpointMarks) (step : EngineStep) → (step ≡ Copied) ⊎ (step ≡ PageBlock) → marks_after_fault step k ≡ k
fault_of_step k step (inl is) = ap (λ x. marks_after_fault x k) is
fault_of_step k step (inr is) = ap (λ x. marks_after_fault x k) is

module _ {C : Type 0} (D : DesignOf C) (w : IsDesign D) (o : Origin) (k : CheckpointMarks) (s : Composed C) (n m : Device)
    (h : IsSound D o k s n)
    (framed : IsFramed n m) where
  abbrev F : FillingOf C
  F = D.filling

  abbrev I : ItemsOf C
  I = D.items

  abbrev e : Progress
  e = s.engine

  abbrev c : C
  c = s.control

  abbrev g : Checkpoints
  g = h.images

  abbrev l : Layout
  l = layout_for D o

  -- the marks after a position, or a block of the slot, that failed
  marks_body : (x : Option ℕ) → marks_after_fault (report I e (body_or_slot x)) k ≡ k
  marks_body None = fault_of_block k (nat_lt 0 (record_blocks e.p))
  marks_body (Some j) = fault_of_step k (I.step_of e.p j) (w.items.steps e.p j)

  marks_tail : (x : Option ℕ) → marks_after_fault (report I e (tail_or_release x)) k ≡ k
  marks_tail None = refl
  marks_tail (Some j) = fault_of_step k (I.step_of e.p j) (w.items.steps e.p j)

  doubt_failed : (q : EngineStage) → k.written ≡ is_confirming q
      → doubt_of_saved (saved_failed q g) g.sealed ≡ doubt_in (marks_after_fault (report I e (item I q c)) k)
  doubt_failed Idle written = none_by k g h.checkpoints.sealed written
  doubt_failed (Body from) written = none_by k g h.checkpoints.sealed written ∙ ap doubt_in (sym (marks_body (I.body_next c from)))
  doubt_failed (InRound (Write j)) written =
      none_by k g h.checkpoints.sealed written ∙ ap doubt_in (sym (fault_of_block k (nat_lt j (record_blocks e.p))))
  doubt_failed (InRound Settle) written = none_by k g h.checkpoints.sealed written
  doubt_failed (InRound Commit) written = h.checkpoints.sealed
  doubt_failed (InRound Confirm) written = h.checkpoints.sealed ∙ sym (ap (λ (b : Bool). if b then k.sealed else None) written)
  doubt_failed (Tail from) written = none_by k g h.checkpoints.sealed written ∙ ap doubt_in (sym (marks_tail (I.tail_next c from)))

  -- with one image kept, an action that leaves its places alone
  fails_kept : (q : EngineStage) (i : Item) → s.engine.stage ≡ q → saved_at q g ≡ Kept g.before
      → LeavesAlone (1 ∷ looked_by l g.before) (action_of F I e i c n)
      → FailsTo (action_of F I e i c n) n m → IsKeeping o l (standing m (Kept g.before) g.kept g.sealed)
  fails_kept q i is old alone failed =
      IsKeeping-move o l _ _
      (Goes (Kept g.before) g.kept g.sealed n m (Spares-failed_action (1 ∷ looked_by l g.before) (action_of F I e i c n) n m alone failed framed))
      (subst (λ x. IsKeeping o l (standing n x g.kept g.sealed)) (ap (λ r. saved_at r g) is ∙ old) h.checkpoints.keeping)

  -- a step of the body, or the first one of the slot after it, that failed keeps the images
  fails_body : (from : ℕ) (x : Option ℕ) → s.engine.stage ≡ Body from → I.body_next c from ≡ x
      → FailsTo (action_of F I e (body_or_slot x) c n) n m
      → IsKeeping o l (standing m (Kept g.before) g.kept g.sealed)
  fails_body from None is next failed = keeping_failed D w o k s n h (Write 0) (at_first D w o k s n h from is next) m failed framed
  fails_body from (Some j) is next failed =
      let first = moment_at D w o k s n h (Body from) is in
      let passed = w.body_passes e.epoch c n from j first next in
      let on = w.items.body_onwards c from j first.stands next in
      fails_kept (Body from) (BodyItem j) is refl
      (not_looked D w o k s n h (I.body_place e.epoch c j)
      (w.body_spared e.epoch c n j g.before passed.moment on.0 (passed.keeps g.before (stall_at D w o k s n h (Body from) is)))) failed

  tail_alone : (from : ℕ) (x : Option ℕ) → s.engine.stage ≡ Tail from → I.tail_next c from ≡ x
      → LeavesAlone (1 ∷ looked_by l g.before) (action_of F I e (tail_or_release x) c n)
  tail_alone from None is next = tt
  tail_alone from (Some j) is next =
      let first = moment_at D w o k s n h (Tail from) is in
      let passed = w.tail_passes e.epoch c n from j first next in
      let on = w.items.tail_onwards c from j first.stands next in
      not_looked D w o k s n h (I.tail_place c j)
      (w.tail_spared e.epoch c n j g.before passed.moment on.1 (passed.keeps g.before (stall_at D w o k s n h (Tail from) is)))

  fails : (q : EngineStage) → s.engine.stage ≡ q → is_under_way q ≡ true → FailsTo (action_of F I e (item I q c) c n) n m
      → IsKeeping o l (standing m (saved_failed q g) g.kept g.sealed)
  fails Idle is way failed = cc
  fails (Body from) is way failed = fails_body from (I.body_next c from) is refl failed
  fails (InRound r) is way failed = keeping_failed D w o k s n h r (at_round D w o k s n h r is) m failed framed
  fails (Tail from) is way failed =
      fails_kept (Tail from) (tail_or_release (I.tail_next c from)) is refl (tail_alone from (I.tail_next c from) is refl) failed

pub failed_items_are_safe : {C : Type 0} (D : DesignOf C) → IsDesign D → FailedItemsAreSafe D
failed_items_are_safe D w o k s n m h way failed framed =
    safe_by D o k.done (saved_failed s.engine.stage h.images) h.images m
    (doubt_in (marks_after_fault (report D.items s.engine (item D.items s.engine.stage s.control)) k)) h.checkpoints.kept
    (fails D w o k s n m h framed s.engine.stage refl way failed) (doubt_failed D w o k s n m h framed s.engine.stage h.doubt)
