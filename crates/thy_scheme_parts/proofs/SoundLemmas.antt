-- Every item reaches the checkpoints of the marks after it.
use Rattle.std.proofs.Common.{◌≡◌, ◌≢◌, ◌⊎◌, ℕ, ◌+◌, ◌<◌, ◌≤◌, nat_lt, Bool, true, false, if◌then◌else◌, List, [], ◌∷◌, length, Contains, Option, Some, None, unwrap_or, refl, sym, ◌∙◌, ap, subst, inl, inr, arith}
use Rattle.std.proofs.lemmas.Bool.{both_ways}
use Rattle.std.proofs.lemmas.List.Elements.{Contains-push, Contains-append_left, Contains-append_right}
use Rattle.thy_block.specs.declared.block.Block.{Block}
use Rattle.thy_block.specs.declared.parameters.Parameters.{Parameters}
use Rattle.thy_block.specs.declared.mark.Mark.{Mark}
use Rattle.thy_block.specs.Device.{Device, IsOneWordApart, block_at, newest, at_rest, written_to, IsFramed}
use Rattle.thy_block.specs.Geometry.{IsInRange}
use Rattle.thy_block.specs.Places.{record_blocks}
use Rattle.thy_block.proofs.DeviceLemmas.{newest-settled, newest-written_to_other}
use Rattle.thy_checkpoint.specs.Filling.{FillingOf, layout_at}
use Rattle.thy_layout.specs.Saved.{Kept, IsIssued, next_image}
use Rattle.thy_layout.specs.Spares.{Spares}
use Rattle.thy_layout.proofs.SavedLemmas.{next_image-commit}
use Rattle.thy_layout.proofs.SparesLemmas.{Spares-settled, Spares-written}
use Rattle.thy_isa.specs.OnBlocks.{state_from}
use Rattle.thy_layout.specs.declared.engine_step.EngineStep.{EngineStep}
use Rattle.thy_layout.specs.declared.engine_step.EngineStep.TheVariants.{Copied, PageBlock, StateBlock, TableBlock}
use Rattle.thy_layout.specs.Commit.{commit_of, commit_magic}
use Rattle.thy_layout.specs.declared.layout_version.LayoutVersion.TheVariants.{VersionTwo}
use Rattle.thy_layout.proofs.CommitLemmas.{one_word-epoch}
use Rattle.thy_layout.specs.Cpu.{IsRecordable}
use Rattle.thy_layout.specs.Decoded.{At}
use Rattle.thy_layout.specs.Layout.{Layout, header_bad, looked_by, decode_by}
use Rattle.thy_computer.specs.Action.{after, FailsTo}
use Rattle.thy_computer.proofs.ActionLemmas.{left-as_was}
use Rattle.thy_computer.specs.Origin.{Origin, at}
use Rattle.thy_computer.specs.Safe.{ceiling}
use Rattle.thy_computer.specs.Keeps.{IsOf}
use Rattle.thy_computer.specs.Moves.{standing, IsKeeping, Goes}
use Rattle.thy_computer.specs.declared.round.Round.{Round}
use Rattle.thy_computer.specs.declared.round.Round.TheVariants.{Write, Settle, Commit, Confirm}
use Rattle.thy_computer.specs.Round.{IsInRound, round_action, next_round, is_written}
use Rattle.thy_computer.specs.Rounds.{saved_in, saved_after_fault, made_after, standing_then, MayTake, AreIssuedBefore, AreIssuedThen}
use Rattle.thy_computer.proofs.KeepsLemmas.{IsKeeping-move}
use Rattle.thy_computer.proofs.RoundLemmas.{next_by, rounds_move, failed_rounds_move, rounds_issue}
use Rattle.thy_scheme_parts.proofs.SlotLemmas.{is_long-own, placed, slot_begins, next_decodes, next_issued, next_slot}
use Rattle.thy_scheme.specs.CheckpointMarks.{CheckpointMarks, only, marks_after}
use Rattle.thy_checkpoint.specs.declared.engine_stage.EngineStage.{EngineStage}
use Rattle.thy_checkpoint.specs.declared.engine_stage.EngineStage.TheVariants.{Idle, Body, InRound, Tail}
use Rattle.thy_checkpoint.specs.Items.{ItemsOf, Phase, Resting, Making, Made, Applying}
use Rattle.thy_checkpoint.specs.Progress.{Progress, phase_of, slot_blocks, slot_block, slot_place, slot_round, layout_of, Fits, Item, BodyItem, RoundItem, TailItem, ReleaseItem, body_or_slot, tail_or_release, item, next_after, action_of, control_after, report, is_under_way}
use Rattle.thy_checkpoint.proofs.ItemLemmas.{items_fit}
use Rattle.thy_scheme_parts.specs.Checkpoints.{Checkpoints, is_sealing, is_settled, is_confirming, saved_at, standing_at, IsMadeFor, HasWrittenSlot, HasWrittenBefore}
use Rattle.thy_scheme_parts.specs.Design.{DesignOf, Composed}
use Rattle.thy_scheme_parts.specs.IsDesign.{IsDesign, CanRecord, IsSpared}
use Rattle.thy_scheme_parts.specs.Laws.{ItemsKeepSound}
use Rattle.thy_scheme_parts.specs.Moments.{IsMoment, Carries, Commits, parts_at}
use Rattle.thy_scheme_parts.specs.Sound.{layout_for, IsSound}
use Rattle.thy_scheme_parts.proofs.SameLemmas.{Carries-both, Carries-same, settled_same}

-- the marks stay with a step that writes a block
marks_of_block : (k : CheckpointMarks) (b : Bool) → marks_after (if b then StateBlock else TableBlock) k ≡ k
marks_of_block k true = refl
marks_of_block k false = refl

marks_of_step : (k : CheckpointMarks) (step : EngineStep) → (step ≡ Copied) ⊎ (step ≡ PageBlock) → marks_after step k ≡ k
marks_of_step k step (inl is) = ap (λ x. marks_after x k) is
marks_of_step k step (inr is) = ap (λ x. marks_after x k) is

-- what was written before an item does not depend on the stage that the engine's record has
pub written_stage : {C : Type 0} (D : DesignOf C) (q r : EngineStage) (e : Progress) (c : C) (n : Device) → HasWrittenBefore D q e c n
    → HasWrittenBefore D q (record e { stage = r }) c n
written_stage D Idle r e c n b = tt
written_stage D q r e c n b = b

-- the checkpoint that is made stays so over a call that leaves memory as it was sealed
pub made_with : {C : Type 0} (D : DesignOf C) (o : Origin) (e : Progress) (q : EngineStage) (c d : C) (n m : Device)
    (g : Checkpoints) (next : List Block)
    → IsMadeFor D o e c n g → D.parts.sealed d m ≡ D.parts.sealed c n
    → (is_settled q ≡ true → (block_at next 1 ≡ commit_of e.epoch) × D.parts.makes e.epoch d next)
    → IsMadeFor D o (record e { stage = q }) d m (record g { next = next })
made_with D o e q c d n m g next old same makes = record {
  mark = old.mark;
  sealed = old.sealed;
  of_epoch = old.of_epoch;
  small = old.small;
  recordable = old.recordable;
  state_is = ap (state_from o.geometry e.cpu) same ∙ old.state_is;
  counted = old.counted;
  commit = λ is. (makes is).0;
  makes = λ is. (makes is).1;
}

-- an action of the round is next, after another one or after the body
pub record IsAt {C : Type 0} (D : DesignOf C) (o : Origin) (k : CheckpointMarks) (s : Composed C) (n : Device) (g : Checkpoints)
    (r : Round) : Type 0 where
  pub inside : IsInRound (slot_blocks D.filling s.engine) r
  pub way : is_sealing s.engine.stage ≡ true
  pub into : Carries D s.engine.epoch (phase_of s.engine.stage) s.control n Made s.control n
  pub keeping : IsKeeping o (layout_for D o) (standing n (saved_in r g.before g.next) g.kept g.sealed)
  pub issued : HasWrittenBefore D (InRound r) s.engine s.control n
  pub settled : is_settled (InRound r) ≡ true → is_settled s.engine.stage ≡ true
  pub doubt : k.written ≡ is_written r
  pub fits : Fits D.filling D.items (record s.engine { stage = next_after D.filling D.items s.engine (RoundItem r) })
      (control_after D.items (RoundItem r) s.control)

module _ {C : Type 0} (D : DesignOf C) (w : IsDesign D) (o : Origin) (k : CheckpointMarks) (s : Composed C) (n : Device)
    (h : IsSound D o k s n) where
  abbrev F : FillingOf C
  F = D.filling

  abbrev I : ItemsOf C
  I = D.items

  abbrev e : Progress
  e = s.engine

  abbrev c : C
  c = s.control

  abbrev g : Checkpoints
  g = h.images

  abbrev l : Layout
  l = layout_for D o

  same_p : F.p c ≡ e.p
  same_p = h.held.fits.same_p

  p_is : e.p ≡ o.geometry
  p_is = sym same_p ∙ h.held.geometry

  -- the value with another controller, and the engine at another stage
  abbrev now : EngineStage → C → Composed C
  now q d = record s { control = d; engine = record e { stage = q } }

  -- ---- by the stage of the engine

  pub moment_at : (q : EngineStage) → e.stage ≡ q → IsMoment D (phase_of q) e.epoch c n
  moment_at q is = subst (λ r. IsMoment D (phase_of r) e.epoch c n) is h.held.moment

  pub stall_at : (q : EngineStage) → e.stage ≡ q → D.parts.keeps (phase_of q) e.epoch c g.before
  stall_at q is = subst (λ r. D.parts.keeps (phase_of r) e.epoch c g.before) is h.checkpoints.meant

  written_at : (q : EngineStage) → e.stage ≡ q → HasWrittenBefore D q e c n
  written_at q is = subst (λ r. HasWrittenBefore D r e c n) is h.checkpoints.written

  pub keeping_at : (q : EngineStage) → e.stage ≡ q → IsKeeping o l (standing_at q n g)
  keeping_at q is = subst (λ r. IsKeeping o l (standing_at r n g)) is h.checkpoints.keeping

  fits_at : (q : EngineStage) (i : Item) → e.stage ≡ q → item I q c ≡ i
      → Fits F I (record e { stage = next_after F I e i }) (control_after I i c)
  fits_at q i is due =
      subst (λ j. Fits F I (record e { stage = next_after F I e j }) (control_after I j c)) (ap (λ r. item I r c) is ∙ due)
      (items_fit F I w.items e c h.held.fits)

  pub some_image : 2 ≤ length n.image
  some_image =
      let inside = (w.fills.laid.slot (F.p c) (commit_of 0)).inside (layout_at F (F.p c)).image_blocks in
      let low = (w.fills.laid.slot (F.p c) (commit_of 0)).behind in
      let long = inside (is_long-own (layout_at F (F.p c)) (commit_of 0)) in
      omega (arith, long, low, h.held.moment.sized)

  -- the header stays over a write elsewhere, and once the device has settled
  header_written : (x : ℕ) (block : Block) → x ≢ 0 → newest (written_to n x block) 0 ≡ newest n 0
  header_written x block other = newest-written_to_other n x block 0 (λ q. other (sym q)) (let some = some_image in omega (arith, some))

  header_settled : newest (at_rest n) 0 ≡ newest n 0
  header_settled = newest-settled n.writes n 0 (let some = some_image in omega (arith, some))

  header_at : (m : Device) → newest m 0 ≡ newest n 0 → header_bad l (newest m 0) true ≡ None
  header_at m same = ap (λ b. header_bad l b true) same ∙ h.header

  -- ---- places that the image which is kept is not found by

  pub not_looked : (x : ℕ) → IsSpared D c g.before x → ¬ Contains (1 ∷ looked_by l g.before) x
  not_looked x free inside =
      free (Contains-append_right (0 ∷ []) (1 ∷ looked_by (layout_at F (F.p c)) g.before) x
      (subst (λ (p : Parameters). Contains (1 ∷ looked_by (layout_at F p) g.before) x) (sym h.held.geometry) inside))

  not_header : (x : ℕ) → IsSpared D c g.before x → x ≢ 0
  not_header x free is =
      free (subst (Contains (0 ∷ 1 ∷ looked_by (layout_at F (F.p c)) g.before)) (sym is)
      (Contains-append_left (0 ∷ []) (1 ∷ looked_by (layout_at F (F.p c)) g.before) 0 (Contains-push [] 0)))

  -- with one image kept, a call that spares its places is a move
  keeping_kept : (q r : EngineStage) (m : Device) → e.stage ≡ q → saved_at q g ≡ Kept g.before → saved_at r g ≡ Kept g.before
      → Spares (1 ∷ looked_by l g.before) n m → IsKeeping o l (standing_at r m g)
  keeping_kept q r m is old new spares =
      subst (λ x. IsKeeping o l (standing m x g.kept g.sealed)) (sym new)
      (IsKeeping-move o l _ _ (Goes (Kept g.before) g.kept g.sealed n m spares)
      (subst (λ x. IsKeeping o l (standing n x g.kept g.sealed)) old (keeping_at q is)))

  -- ---- the engine goes to another stage, and the marks that are kept and sealed stay

  -- once the first barrier is done, an image is the checkpoint that is made
  abbrev Makes : EngineStage → C → List Block → Type 0
  Makes q d next = is_settled q ≡ true → (block_at next 1 ≡ commit_of e.epoch) × D.parts.makes e.epoch d next

  goes_to : (q : EngineStage) (d : C) (m : Device) (next : List Block) (now_written : Bool)
      → Carries D e.epoch (phase_of e.stage) c n (phase_of q) d m → Fits F I (record e { stage = q }) d
      → IsKeeping o l (standing_at q m (record g { next = next })) → newest m 0 ≡ newest n 0 → HasWrittenBefore D q e d m
      → is_sealing q ≡ is_sealing e.stage → now_written ≡ is_confirming q → Makes q d next
      → IsSound D o (record k { written = now_written }) (now q d) m
  goes_to q d m next now_written on fits keeping header written sealing confirming makes = record {
    held = record {
      geometry = on.same_p ∙ h.held.geometry;
      moment = on.moment;
      fits = fits;
      regs = h.held.regs;
      room = on.room ∙ h.held.room;
    };
    images = record g { next = next };
    checkpoints = record {
      kept = h.checkpoints.kept;
      stated = h.checkpoints.stated;
      sealed = h.checkpoints.sealed;
      keeping = keeping;
      meant = on.keeps g.before h.checkpoints.meant;
      written = written_stage D q q e d m written;
      made = λ way. made_with D o e q c d n m g next (h.checkpoints.made (sym sealing ∙ way)) on.sealed makes;
    };
    way = sealing ∙ h.way;
    doubt = confirming;
    header = header_at m header;
    committed = record { cpu = h.committed.cpu; state = ap (state_from o.geometry h.committed.cpu) on.committed ∙ h.committed.state };
    rests = on.rests s.storeless s.sealed_storeless h.rests;
  }

  -- the checkpoints are kept by a step to a stage outside the round
  goes : (q : EngineStage) (d : C) (m : Device) → Carries D e.epoch (phase_of e.stage) c n (phase_of q) d m
      → Fits F I (record e { stage = q }) d
      → IsKeeping o l (standing_at q m g) → newest m 0 ≡ newest n 0 → HasWrittenBefore D q e d m
      → is_sealing q ≡ is_sealing e.stage → is_confirming q ≡ is_confirming e.stage → is_settled q ≡ false
      → IsSound D o k (now q d) m
  goes q d m on fits keeping header written sealing confirming unsettled =
      goes_to q d m g.next k.written on fits keeping header written sealing (h.doubt ∙ sym confirming)
      (λ is. absurd (both_ways (is_settled q) unsettled is))

  -- what carries the phase of a stage carries the engine's own
  from_stage : (q : EngineStage) (to : Phase) (d : C) (m : Device) → e.stage ≡ q → Carries D e.epoch (phase_of q) c n to d m
      → Carries D e.epoch (phase_of e.stage) c n to d m
  from_stage q to d m is on = subst (λ r. Carries D e.epoch (phase_of r) c n to d m) (sym is) on

  -- ---- a position of the body

  sound_body : (from j : ℕ) → e.stage ≡ Body from → I.body_next c from ≡ Some j
      → IsSound D o k (now (Body (j + 1)) (I.body_after c j)) (written_to n (I.body_place e.epoch c j) (I.body_block c n j))
  sound_body from j is next =
      let x : ℕ = I.body_place e.epoch c j in
      let m : Device = written_to n (I.body_place e.epoch c j) (I.body_block c n j) in
      let first = moment_at (Body from) is in
      let passed = w.body_passes e.epoch c n from j first next in
      let on = w.items.body_onwards c from j first.stands next in
      let wrote = w.body_carries e.epoch c n j passed.moment on.0 in
      let free = w.body_spared e.epoch c n j g.before passed.moment on.0 (passed.keeps g.before (stall_at (Body from) is)) in
      goes (Body (j + 1)) (I.body_after c j) m
      (from_stage (Body from) (Making (j + 1)) (I.body_after c j) m is
      (Carries-both D e.epoch (Making from) (Making j) (Making (j + 1)) c c (I.body_after c j) n n m passed wrote))
      (fits_at (Body from) (BodyItem j) is (ap body_or_slot next))
      (keeping_kept (Body from) (Body (j + 1)) m is refl refl
      (Spares-written (1 ∷ looked_by l g.before) x (I.body_block c n j) n m (not_looked x free) refl))
      (header_written x (I.body_block c n j) (not_header x free)) tt (sym (ap is_sealing is)) (sym (ap is_confirming is)) refl

  -- what an item has to reach
  abbrev After : Item → Type 0
  After i = IsSound D o (marks_after (report I e i) k) (now (next_after F I e i) (control_after I i c)) (after n.writes (action_of F I e i c n) n)

  -- ---- the round

  -- the processor that was sealed can be recorded
  pub can : is_sealing e.stage ≡ true → CanRecord D e c
  can way =
      let made = h.checkpoints.made way in
      record {
        range = subst IsInRange same_p (w.in_range c h.held.moment.sound);
        same_p = same_p;
        recordable = subst (λ (p : Parameters). IsRecordable p ceiling e.cpu) (sym p_is) made.recordable;
        small = made.small;
      }

  pub some_slot : 0 < slot_blocks F e
  some_slot = let whole = (w.fills.laid.slot e.p (commit_of e.epoch)).record_inside in omega (arith, whole)

  -- what is issued before an action
  abbrev Issued : Round → Device → List Block → Type 0
  Issued r m memory = AreIssuedBefore (layout_of F e).image_blocks (parts_at D e c) (commit_of e.epoch) r m memory

  abbrev Here : Round → Type 0
  Here r = IsAt D o k s n h.images r

  pub at_round : (r : Round) → e.stage ≡ InRound r → Here r
  at_round r is = record {
    inside = h.held.fits.inside r is;
    way = ap is_sealing is;
    into = subst (λ (q : EngineStage). Carries D e.epoch (phase_of q) c n Made c n) (sym is)
        (Carries-same D e.epoch Made c n (moment_at (InRound r) is));
    keeping = keeping_at (InRound r) is;
    issued = written_at (InRound r) is;
    settled = λ settled. ap is_settled is ∙ settled;
    doubt = h.doubt ∙ ap is_confirming is;
    fits = fits_at (InRound r) (RoundItem r) is refl;
  }

  pub at_first : (from : ℕ) → e.stage ≡ Body from → I.body_next c from ≡ None → Here (Write 0)
  at_first from is next =
      let into = w.body_ends e.epoch c n from (moment_at (Body from) is) next in
      record {
        inside = some_slot;
        way = ap is_sealing is;
        into = from_stage (Body from) Made c n is into;
        keeping = keeping_at (Body from) is;
        issued = slot_begins D w e c n into.moment (can (ap is_sealing is));
        settled = λ settled. absurd (both_ways false refl settled);
        doubt = h.doubt ∙ ap is_confirming is;
        fits = fits_at (Body from) (RoundItem (Write 0)) is (ap body_or_slot next);
      }

  module _ (r : Round) (here : Here r) where
    abbrev moment_r : IsMoment D Made e.epoch c n
    moment_r = here.into.moment

    abbrev old : IsMadeFor D o e c n g
    old = h.checkpoints.made here.way

    abbrev m_r : Device
    m_r = after n.writes (round_action (slot_round F I e c) r) n

    header_e : header_bad (layout_of F e) (newest n 0) true ≡ None
    header_e = subst (λ (p : Parameters). header_bad (layout_at F p) (newest n 0) true ≡ None) (sym p_is) h.header

    pub free : (j : ℕ) → j < slot_blocks F e → IsSpared D c g.before (slot_place F e j)
    free j below = w.slot_spared e c n g.before j moment_r (can here.way) (here.into.keeps g.before h.checkpoints.meant) below

    -- with the whole slot issued the next image is the checkpoint that is made
    module _ (whole : HasWrittenSlot D e c n (slot_blocks F e)) where
      abbrev image : List Block
      image = next_image n (commit_of e.epoch)

      decodes : decode_by (layout_of F e) ceiling image ≡ At e.epoch (state_from e.p e.cpu (D.parts.sealed c n))
      decodes = next_decodes D w e c n moment_r (can here.way) whole header_e

      made_of : IsOf o l image old.mark
      made_of = record {
        decodes =
            subst (λ (p : Parameters). decode_by (layout_at F p) ceiling image ≡ At e.epoch (state_from p e.cpu (D.parts.sealed c n))) p_is decodes
            ∙ ap (At e.epoch) old.state_is ∙ ap (λ (x : ℕ). At x (at o old.mark.count)) (sym old.of_epoch);
        counted = old.counted;
      }

      issued : IsIssued (looked_by l) n image
      issued = subst (λ (p : Parameters). IsIssued (looked_by (layout_at F p)) n image) p_is
          (next_issued D w e c n moment_r (can here.way) whole header_e)

      commit_is : block_at image 1 ≡ commit_of e.epoch
      commit_is = next_image-commit (commit_of e.epoch) n (let some = some_image in omega (arith, some))

      makes : D.parts.makes e.epoch c image
      makes =
          w.slot_makes e c n image (state_from e.p e.cpu (D.parts.sealed c n)) moment_r (can here.way) decodes commit_is
          (next_slot D w e c n moment_r (can here.way) whole header_e)

    may_take : MayTake o l old.mark (slot_round F I e c) r g.before g.next n
    may_take = by_round r here.inside here.issued here.settled where
      by_round : (r : Round) → IsInRound (slot_blocks F e) r → Issued r n (D.parts.sealed c n)
          → (is_settled (InRound r) ≡ true → is_settled e.stage ≡ true)
          → MayTake o l old.mark (slot_round F I e c) r g.before g.next n
      by_round (Write j) inside written settled = not_looked (slot_place F e j) (free j inside)
      by_round Settle inside written settled = (made_of written, issued written)
      by_round Commit inside written settled = (
        old.commit (settled refl),
        subst (λ (b : Block). IsOneWordApart b (commit_of e.epoch)) (sym h.checkpoints.stated)
            (one_word-epoch (commit_magic VersionTwo) k.done.epoch e.epoch),
      )
      by_round Confirm inside written settled = (old.commit (settled refl), written.1)

    -- the checkpoints after it, and if it fails
    keeping_then : IsKeeping o l
        (standing_then (next_round (slot_blocks F e) r) m_r g.before (made_after (commit_of e.epoch) r n g.next) g.kept old.mark)
    keeping_then =
        IsKeeping-move o l _ _ (rounds_move o l old.mark (slot_round F I e c) r g.before g.next g.kept n m_r may_take
        (left-as_was (round_action (slot_round F I e c) r) n))
        (subst (λ (x : Option Mark). IsKeeping o l (standing n (saved_in r g.before g.next) g.kept x)) old.sealed here.keeping)

    pub keeping_failed : (m : Device) → FailsTo (round_action (slot_round F I e c) r) n m → IsFramed n m
        → IsKeeping o l (standing m (saved_after_fault r g.before g.next) g.kept g.sealed)
    keeping_failed m failed framed =
        subst (λ (x : Option Mark). IsKeeping o l (standing m (saved_after_fault r g.before g.next) g.kept x)) (sym old.sealed)
        (IsKeeping-move o l _ _ (failed_rounds_move o l old.mark (slot_round F I e c) r g.before g.next g.kept n m may_take failed framed)
        (subst (λ (x : Option Mark). IsKeeping o l (standing n (saved_in r g.before g.next) g.kept x)) old.sealed here.keeping))

    -- the moment after it, before the controller commits
    pub over : Carries D e.epoch Made c n Made c m_r
    over = by_round r here.inside where
      by_round : (r : Round) → IsInRound (slot_blocks F e) r
          → Carries D e.epoch Made c n Made c (after n.writes (round_action (slot_round F I e c) r) n)
      by_round (Write j) inside = w.own_carries e c n (slot_place F e j) (slot_block I e c j) moment_r same_p (inr (j, inside, refl))
      by_round Commit inside = w.own_carries e c n 1 (commit_of e.epoch) moment_r same_p (inl refl)
      by_round r inside = w.same_reads Made e.epoch c n (at_rest n) moment_r (settled_same n)

    pub on_round : Carries D e.epoch (phase_of e.stage) c n Made c m_r
    on_round = Carries-both D e.epoch (phase_of e.stage) Made Made c c c n n m_r here.into over

    header_r : newest m_r 0 ≡ newest n 0
    header_r = by_round r here.inside where
      by_round : (r : Round) → IsInRound (slot_blocks F e) r → newest (after n.writes (round_action (slot_round F I e c) r) n) 0 ≡ newest n 0
      by_round (Write j) inside = header_written (slot_place F e j) (slot_block I e c j) (not_header (slot_place F e j) (free j inside))
      by_round Commit inside = header_written 1 (commit_of e.epoch) (λ q. omega (arith, q))
      by_round r inside = header_settled

    -- what is issued after an action of the round
    issued_then : AreIssuedThen (layout_of F e).image_blocks (parts_at D e c) (commit_of e.epoch) (next_round (slot_blocks F e) r) m_r
        (D.parts.sealed c n)
    issued_then =
        rounds_issue (layout_of F e).image_blocks (parts_at D e c) (commit_of e.epoch)
        (placed D w e c n moment_r (can here.way)).placed r n m_r (D.parts.sealed c n)
        here.inside here.issued (left-as_was (round_action (slot_round F I e c) r) n)

    -- the checkpoints are kept by a step to the next action of the round
    goes_in : (q : Round) (next : List Block) (now_written : Bool) → now_written ≡ is_written q → Makes (InRound q) c next
        → IsInRound (slot_blocks F e) q × Issued q m_r (D.parts.sealed c n)
        → IsKeeping o l (standing m_r (saved_in q g.before next) g.kept (Some old.mark))
        → IsSound D o (record k { written = now_written }) (now (InRound q) c) m_r
    goes_in q next now_written doubt makes written keeping =
        goes_to (InRound q) c m_r next now_written on_round
        (record {
          same_p = same_p;
          inside = λ j is. let same : q ≡ j = cc in subst (λ (x : Round). IsInRound (slot_blocks F e) x) same written.0;
          stands = on_round.moment.stands;
        })
        (subst (λ (x : Option Mark). IsKeeping o l (standing m_r (saved_in q g.before next) g.kept x)) (sym old.sealed) keeping) header_r
        (subst (λ (memory : List Block). Issued q m_r memory) (sym on_round.sealed) written.1) (sym here.way) doubt makes

  -- the checkpoints are kept by a write of the round
  sound_write : (j : ℕ) → Here (Write j)
      → IsSound D o (marks_after (report I e (RoundItem (Write j))) k) (now (next_after F I e (RoundItem (Write j))) c)
      (written_to n (slot_place F e j) (slot_block I e c j))
  sound_write j here =
      let m : Device = written_to n (slot_place F e j) (slot_block I e c j) in
      subst (λ y. IsSound D o y (now (next_after F I e (RoundItem (Write j))) c) m) (sym (marks_of_block k (nat_lt j (record_blocks e.p))))
      (next_by (λ (q : Round). IsInRound (slot_blocks F e) q × Issued q m (D.parts.sealed c n)
      → IsKeeping o l (standing m (saved_in q g.before g.next) g.kept (Some (h.checkpoints.made here.way).mark))
      → IsSound D o k (now (InRound q) c) m) j (slot_blocks F e)
      (λ more written keeping. goes_in (Write j) here (Write (j + 1)) g.next k.written here.doubt (λ is. cc) written keeping)
      (λ last written keeping. goes_in (Write j) here Settle g.next k.written here.doubt (λ is. cc) written keeping)
      (issued_then (Write j) here) (keeping_then (Write j) here))

  sound_settle : Here Settle → IsSound D o k (now (InRound Commit) c) (at_rest n)
  sound_settle here =
      goes_in Settle here Commit (next_image n (commit_of e.epoch)) k.written here.doubt
      (λ is. (commit_is Settle here here.issued, makes Settle here here.issued))
      (issued_then Settle here) (keeping_then Settle here)

  sound_commit : Here Commit → IsSound D o (record k { written = true }) (now (InRound Confirm) c) (written_to n 1 (commit_of e.epoch))
  sound_commit here =
      let made = h.checkpoints.made here.way in
      goes_in Commit here Confirm g.next true refl (λ is. (made.commit (here.settled refl), made.makes (here.settled refl)))
      (issued_then Commit here) (keeping_then Commit here)

  module _ (here : Here Confirm) where
    abbrev old_d : IsMadeFor D o e c n g
    old_d = h.checkpoints.made here.way

    mark_is : k.sealed ≡ Some old_d.mark
    mark_is = sym h.checkpoints.sealed ∙ old_d.sealed

    done_is : unwrap_or k.sealed k.done ≡ old_d.mark
    done_is = ap (λ (x : Option Mark). unwrap_or x k.done) mark_is

    abbrev on_d : Carries D e.epoch (phase_of e.stage) c n Made c (at_rest n)
    on_d = on_round Confirm here

    keeping_d : IsKeeping o l (standing (at_rest n) (Kept g.next) g.sealed None)
    keeping_d = subst (λ (x : Option Mark). IsKeeping o l (standing (at_rest n) (Kept g.next) x None)) (sym old_d.sealed) (keeping_then Confirm here)

    -- the checkpoints are kept by the barrier that commits, at the stage after it
    ends : (q : EngineStage) → is_sealing q ≡ false → is_confirming q ≡ false
        → saved_at q (record g { before = g.next; kept = g.sealed; sealed = None }) ≡ Kept g.next
        → HasWrittenBefore D q e (I.committed c) (at_rest n) → Commits D e.epoch c (at_rest n) (phase_of q) (I.committed c) (at_rest n)
        → Fits F I (record e { stage = q }) (I.committed c)
        → IsSound D o (only (unwrap_or k.sealed k.done)) (now q (I.committed c)) (at_rest n)
    ends q unsealed unconfirmed saved written on fits = record {
      held = record {
        geometry = on.same_p ∙ h.held.geometry;
        moment = on.moment;
        fits = fits;
        regs = h.held.regs;
        room = on.room ∙ h.held.room;
      };
      images = record g { before = g.next; kept = g.sealed; sealed = None };
      checkpoints = record {
        kept = old_d.sealed ∙ ap Some (sym done_is);
        stated = old_d.commit (here.settled refl) ∙ ap commit_of (sym old_d.of_epoch ∙ ap (λ (m : Mark). m.epoch) (sym done_is));
        sealed = refl;
        keeping = subst (λ x. IsKeeping o l (standing (at_rest n) x g.sealed None)) (sym saved) keeping_d;
        meant = on.keeps g.next ((over Confirm here).makes g.next (old_d.makes (here.settled refl)));
        written = written_stage D q q e (I.committed c) (at_rest n) written;
        made = λ way. let no : true ≡ false = sym way ∙ unsealed in absurd cc;
      };
      way = unsealed;
      doubt = sym unconfirmed;
      header = header_at (at_rest n) header_settled;
      committed = record {
        cpu = e.cpu;
        state =
            ap (state_from o.geometry e.cpu) (on.committed ∙ on_d.sealed) ∙ old_d.state_is ∙ ap (λ (m : Mark). at o m.count) (sym done_is);
      };
      rests = on.rests s.storeless s.sealed_storeless (on_d.rests s.storeless s.sealed_storeless h.rests);
    }

    by_tail : (tail : Bool) → Commits D e.epoch c (at_rest n) (if tail then Applying 0 else Resting) (I.committed c) (at_rest n)
        → Fits F I (record e { stage = if tail then Tail 0 else Idle }) (I.committed c)
        → IsSound D o (only (unwrap_or k.sealed k.done)) (now (if tail then Tail 0 else Idle) (I.committed c)) (at_rest n)
    by_tail true on fits = ends (Tail 0) refl refl refl tt on fits
    by_tail false on fits = ends Idle refl refl refl tt on fits

    sound_confirm : IsSound D o (only (unwrap_or k.sealed k.done)) (now (if I.has_tail then Tail 0 else Idle) (I.committed c)) (at_rest n)
    sound_confirm = by_tail I.has_tail (w.commits e.epoch c (at_rest n) on_d.moment) here.fits

  sound_round : (r : Round) → Here r → After (RoundItem r)
  sound_round (Write j) here = sound_write j here
  sound_round Settle here = sound_settle here
  sound_round Commit here = sound_commit here
  sound_round Confirm here = sound_confirm here

  -- ---- the tail

  sound_tail : (from j : ℕ) → e.stage ≡ Tail from → I.tail_next c from ≡ Some j
      → IsSound D o k (now (Tail (j + 1)) (I.tail_after c j)) (written_to n (I.tail_place c j) (I.tail_block c n j))
  sound_tail from j is next =
      let x : ℕ = I.tail_place c j in
      let m : Device = written_to n (I.tail_place c j) (I.tail_block c n j) in
      let first = moment_at (Tail from) is in
      let passed = w.tail_passes e.epoch c n from j first next in
      let on = w.items.tail_onwards c from j first.stands next in
      let wrote = w.tail_carries e.epoch c n j passed.moment on.1 in
      let free = w.tail_spared e.epoch c n j g.before passed.moment on.1 (passed.keeps g.before (stall_at (Tail from) is)) in
      goes (Tail (j + 1)) (I.tail_after c j) m
      (from_stage (Tail from) (Applying (j + 1)) (I.tail_after c j) m is
      (Carries-both D e.epoch (Applying from) (Applying j) (Applying (j + 1)) c c (I.tail_after c j) n n m passed wrote))
      (fits_at (Tail from) (TailItem j) is (ap tail_or_release next))
      (keeping_kept (Tail from) (Tail (j + 1)) m is refl refl
      (Spares-written (1 ∷ looked_by l g.before) x (I.tail_block c n j) n m (not_looked x free) refl))
      (header_written x (I.tail_block c n j) (not_header x free)) tt (sym (ap is_sealing is)) (sym (ap is_confirming is)) refl

  sound_release : (from : ℕ) → e.stage ≡ Tail from → I.tail_next c from ≡ None → IsSound D o k (now Idle (I.released c)) (at_rest n)
  sound_release from is next =
      let on = w.same_reads (Applying from) e.epoch c n (at_rest n) (moment_at (Tail from) is) (settled_same n) in
      let freed = w.releases e.epoch c (at_rest n) from on.moment next in
      goes Idle (I.released c) (at_rest n)
      (from_stage (Tail from) Resting (I.released c) (at_rest n) is
      (Carries-both D e.epoch (Applying from) (Applying from) Resting c c (I.released c) n (at_rest n) (at_rest n) on freed))
      (fits_at (Tail from) ReleaseItem is (ap tail_or_release next))
      (keeping_kept (Tail from) Idle (at_rest n) is refl refl (Spares-settled (1 ∷ looked_by l g.before) n (at_rest n) refl))
      header_settled tt (sym (ap is_sealing is)) (sym (ap is_confirming is)) refl

  -- ---- all of them

  marks_of_position : (j : ℕ) → marks_after (I.step_of e.p j) k ≡ k
  marks_of_position j = marks_of_step k (I.step_of e.p j) (w.items.steps e.p j)

  by_body : (from : ℕ) (x : Option ℕ) → e.stage ≡ Body from → I.body_next c from ≡ x → After (body_or_slot x)
  by_body from None is next = sound_round (Write 0) (at_first from is next)
  by_body from (Some j) is next =
      subst (λ y. IsSound D o y (now (Body (j + 1)) (I.body_after c j)) (written_to n (I.body_place e.epoch c j) (I.body_block c n j)))
      (sym (marks_of_position j))
      (sound_body from j is next)

  by_tail_of : (from : ℕ) (x : Option ℕ) → e.stage ≡ Tail from → I.tail_next c from ≡ x → After (tail_or_release x)
  by_tail_of from None is next = sound_release from is next
  by_tail_of from (Some j) is next =
      subst (λ y. IsSound D o y (now (Tail (j + 1)) (I.tail_after c j)) (written_to n (I.tail_place c j) (I.tail_block c n j)))
      (sym (marks_of_position j))
      (sound_tail from j is next)

  by_stage : (q : EngineStage) → e.stage ≡ q → is_under_way q ≡ true → After (item I q c)
  by_stage Idle is way = cc
  by_stage (Body from) is way = by_body from (I.body_next c from) is refl
  by_stage (InRound r) is way = sound_round r (at_round r is)
  by_stage (Tail from) is way = by_tail_of from (I.tail_next c from) is refl

pub items_keep_sound : {C : Type 0} (D : DesignOf C) → IsDesign D → ItemsKeepSound D
items_keep_sound D w o k s n h way = by_stage D w o k s n h s.engine.stage refl way
