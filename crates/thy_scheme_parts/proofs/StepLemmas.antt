-- What a step of the engine makes of the scheme, seal and drain, merge and promotion: each call's promise.
use Rattle.std.proofs.Common.{◌≡◌, ◌≢◌, ◌⊎◌, ℕ, ◌+◌, ◌≤◌, nat_lt, Bool, true, false, if◌then◌else◌, List, [], ◌∷◌, Contains, Option, Some, None, refl, sym, ◌∙◌, ap, subst, inl, inr, arith}
use Rattle.std.proofs.lemmas.Bool.{both_ways}
use Rattle.std.proofs.lemmas.List.Elements.{Contains-push, Contains-append_left, Contains-append_right}
use Rattle.thy_block.specs.declared.block.Block.{Block}
use Rattle.thy_block.specs.Device.{Device, at_rest, IsFramed}
use Rattle.thy_block.specs.Places.{record_blocks}
use Rattle.thy_checkpoint.specs.Filling.{FillingOf, layout_at}
use Rattle.thy_isa.specs.declared.state.CpuState.{CpuState}
use Rattle.thy_isa.specs.OnBlocks.{state_from}
use Rattle.thy_layout.specs.declared.engine_step.EngineStep.{EngineStep}
use Rattle.thy_layout.specs.declared.engine_step.EngineStep.TheVariants.{Copied, PageBlock, StateBlock, TableBlock, Committed}
use Rattle.thy_layout.specs.Commit.{commit_of}
use Rattle.thy_layout.specs.Layout.{looked_by}
use Rattle.thy_computer.specs.Action.{WriteAt, IsAfter, IsLeftBy, after, FailsTo, Asks}
use Rattle.thy_computer.specs.Dram.{WritesNvm}
use Rattle.thy_computer.specs.Origin.{Origin}
use Rattle.thy_computer.proofs.ActionLemmas.{after-is, down-after, queue-after}
use Rattle.thy_scheme.specs.CheckpointMarks.{CheckpointMarks, marks_after}
use Rattle.thy_scheme.specs.Scheme.{Stands}
use Rattle.thy_scheme.specs.Calls.{IsDue, writes_block, engine_did, Keeps, Seals, Engines, EngineFails, OwesAfter}
use Rattle.thy_scheme.proofs.RecordLemmas.{due-slot}
use Rattle.thy_checkpoint.specs.declared.engine_stage.EngineStage.{EngineStage}
use Rattle.thy_checkpoint.specs.declared.engine_stage.EngineStage.TheVariants.{Idle, Body, InRound, Tail}
use Rattle.thy_computer.specs.declared.round.Round.{Round}
use Rattle.thy_computer.specs.declared.round.Round.TheVariants.{Write, Settle, Commit, Confirm}
use Rattle.thy_computer.specs.Round.{is_written}
use Rattle.thy_checkpoint.specs.Cycles.{cycles_left}
use Rattle.thy_checkpoint.specs.Items.{ItemsOf, Phase, Resting, Making, Made, Applying, phase_committed}
use Rattle.thy_checkpoint.specs.Progress.{Progress, phase_of, slot_block, slot_place, Item, RoundItem, body_or_slot, tail_or_release, item, next_after, action_of, control_after, report, is_under_way, engine_next, control_next, action_next}
use Rattle.thy_checkpoint.proofs.ItemLemmas.{items_count}
use Rattle.thy_scheme_parts.specs.Checkpoints.{Checkpoints, is_confirming, IsMadeFor}
use Rattle.thy_scheme_parts.specs.Design.{DesignOf, Composed}
use Rattle.thy_scheme_parts.specs.IsDesign.{IsDesign, IsSpared}
use Rattle.thy_scheme_parts.specs.Calls.{taken, step_of, sealed}
use Rattle.thy_scheme_parts.specs.Laws.{device_taken}
use Rattle.thy_scheme_parts.specs.Moments.{IsMoment, Carries, ReadsSame}
use Rattle.thy_scheme_parts.specs.Scheme.{scheme_of}
use Rattle.thy_scheme_parts.specs.Sound.{IsSound}
use Rattle.thy_scheme_parts.proofs.SameLemmas.{Carries-both, opens_both, after_same, settled_same}
use Rattle.thy_scheme_parts.proofs.HeldLemmas.{moment_held, Keeping, keeping_carried, keeping_same, keeps_by}
use Rattle.thy_scheme_parts.proofs.SafeLemmas.{failed_items_are_safe, same_reads_keep, seal_keeps_sound, idle_stage}
use Rattle.thy_scheme_parts.proofs.SoundLemmas.{IsAt, moment_at, stall_at, at_round, at_first, free, on_round, items_keep_sound}

-- ---- what an item is

asks_slot : (lap : ℕ) (first : Bool) (x : ℕ) (block : Block) → x ≢ 1
    → Asks (engine_did lap (if first then StateBlock else TableBlock)) (WriteAt x block)
asks_slot lap true x block other = other
asks_slot lap false x block other = other

asks_position : (lap : ℕ) (step : EngineStep) (x : ℕ) (block : Block) → (step ≡ Copied) ⊎ (step ≡ PageBlock) → x ≢ 1
    → Asks (engine_did lap step) (WriteAt x block)
asks_position lap step x block (inl is) other = subst (λ (s : EngineStep). Asks (engine_did lap s) (WriteAt x block)) (sym is) other
asks_position lap step x block (inr is) other = subst (λ (s : EngineStep). Asks (engine_did lap s) (WriteAt x block)) (sym is) other

due_position : (step : EngineStep) (k : CheckpointMarks) → (step ≡ Copied) ⊎ (step ≡ PageBlock) → IsDue step k
due_position step k (inl is) = subst (λ (s : EngineStep). IsDue s k) (sym is) tt
due_position step k (inr is) = subst (λ (s : EngineStep). IsDue s k) (sym is) tt

-- a place that an image is not found by is not the commit block's
not_commit : {C : Type 0} (D : DesignOf C) (c : C) (g : List Block) (x : ℕ) → IsSpared D c g x → x ≢ 1
not_commit D c g x free is =
    free (subst (Contains (0 ∷ 1 ∷ looked_by (layout_at D.filling (D.filling.p c)) g)) (sym is)
    (Contains-append_right (0 ∷ []) (1 ∷ looked_by (layout_at D.filling (D.filling.p c)) g) 1
    (Contains-append_left (1 ∷ []) (looked_by (layout_at D.filling (D.filling.p c)) g) 1 (Contains-push [] 1))))

phase_confirmed : {C : Type 0} (I : ItemsOf C) → phase_of (if I.has_tail then Tail 0 else Idle) ≡ phase_committed I
phase_confirmed I = by_tail I.has_tail where
  by_tail : (tail : Bool) → phase_of (if tail then Tail 0 else Idle) ≡ (if tail then Applying 0 else Resting)
  by_tail true = refl
  by_tail false = refl

-- only a commit may raise what is owed
owes_if : {C : Type 0} (D : DesignOf C) (step : EngineStep) (s t : Composed C) (n m : Device)
    → D.parts.owed t.control ≤ D.parts.owed s.control
    → OwesAfter step (scheme_of D) s n t m
owes_if D (Committed epoch) s t n m less = tt
owes_if D step s t n m less = less

-- ---- a step of the engine

module _ {C : Type 0} (D : DesignOf C) (w : IsDesign D) (o : Origin) (k : CheckpointMarks) (s : Composed C) (n : Device)
    (stands : Stands (scheme_of D) o k s n)
    (on : is_under_way s.engine.stage ≡ true) where
  abbrev F : FillingOf C
  F = D.filling

  abbrev I : ItemsOf C
  I = D.items

  abbrev e : Progress
  e = s.engine

  abbrev c : C
  c = s.control

  abbrev sound : IsSound D o k s n
  sound = stands.sound

  abbrev g : Checkpoints
  g = stands.sound.images

  abbrev Step : EngineStage → EngineStep
  Step q = report I e (item I q c)

  -- ---- places

  module _ (from j : ℕ) (is : e.stage ≡ Body from) (next : I.body_next c from ≡ Some j) where
    passed : Carries D e.epoch (Making from) c n (Making j) c n
    passed = w.body_passes e.epoch c n from j (moment_at D w o k s n sound (Body from) is) next

    again : I.body_next c j ≡ Some j
    again = (w.items.body_onwards c from j (moment_at D w o k s n sound (Body from) is).stands next).0

    body_free : IsSpared D c g.before (I.body_place e.epoch c j)
    body_free =
        let pass = passed in
        w.body_spared e.epoch c n j g.before pass.moment again (pass.keeps g.before (stall_at D w o k s n sound (Body from) is))

  abbrev Here : Round → Type 0
  Here r = IsAt D o k s n g r

  module _ (from j : ℕ) (is : e.stage ≡ Tail from) (next : I.tail_next c from ≡ Some j) where
    passed_tail : Carries D e.epoch (Applying from) c n (Applying j) c n
    passed_tail = w.tail_passes e.epoch c n from j (moment_at D w o k s n sound (Tail from) is) next

    again_tail : I.tail_next c j ≡ Some j
    again_tail = (w.items.tail_onwards c from j (moment_at D w o k s n sound (Tail from) is).stands next).1

    tail_free : IsSpared D c g.before (I.tail_place c j)
    tail_free =
        let pass = passed_tail in
        w.tail_spared e.epoch c n j g.before pass.moment again_tail (pass.keeps g.before (stall_at D w o k s n sound (Tail from) is))

  -- ---- an item asks for the action that its result names, and writes if it is reported so

  asks_round : (lap : ℕ) (r : Round) → Here r → Asks (engine_did lap (report I e (RoundItem r))) (action_of F I e (RoundItem r) c n)
  asks_round lap (Write j) here =
      asks_slot lap (nat_lt j (record_blocks e.p)) (slot_place F e j) (slot_block I e c j)
      (not_commit D c g.before (slot_place F e j) (free D w o k s n sound (Write j) here j here.inside))
  asks_round lap Commit here = (commit_of e.epoch, refl)
  asks_round lap r here = refl

  asks_body : (lap from : ℕ) (x : Option ℕ) → e.stage ≡ Body from → I.body_next c from ≡ x
      → Asks (engine_did lap (report I e (body_or_slot x))) (action_of F I e (body_or_slot x) c n)
  asks_body lap from None is next = asks_round lap (Write 0) (at_first D w o k s n sound from is next)
  asks_body lap from (Some j) is next =
      asks_position lap (I.step_of e.p j) (I.body_place e.epoch c j) (I.body_block c n j) (w.items.steps e.p j)
      (not_commit D c g.before (I.body_place e.epoch c j) (body_free from j is next))

  asks_tail : (lap from : ℕ) (x : Option ℕ) → e.stage ≡ Tail from → I.tail_next c from ≡ x
      → Asks (engine_did lap (report I e (tail_or_release x))) (action_of F I e (tail_or_release x) c n)
  asks_tail lap from None is next = refl
  asks_tail lap from (Some j) is next =
      asks_position lap (I.step_of e.p j) (I.tail_place c j) (I.tail_block c n j) (w.items.steps e.p j)
      (not_commit D c g.before (I.tail_place c j) (tail_free from j is next))

  asks : (lap : ℕ) (q : EngineStage) → e.stage ≡ q → is_under_way q ≡ true
      → Asks (engine_did lap (Step q)) (action_of F I e (item I q c) c n)
  asks lap Idle is way = cc
  asks lap (Body from) is way = asks_body lap from (I.body_next c from) is refl
  asks lap (InRound r) is way = asks_round lap r (at_round D w o k s n sound r is)
  asks lap (Tail from) is way = asks_tail lap from (I.tail_next c from) is refl

  abbrev Writes : Item → Type 0
  Writes i = (new : Device) → IsLeftBy (action_of F I e i c n) n new → writes_block (report I e i) ≡ true → WritesNvm n new

  writes_round : (r : Round) → Writes (RoundItem r)
  writes_round (Write j) new left h = record { at = slot_place F e j; block = slot_block I e c j; left = left }
  writes_round r new left h = absurd (both_ways false refl h)

  writes_body : (x : Option ℕ) → Writes (body_or_slot x)
  writes_body None new left h = writes_round (Write 0) new left h
  writes_body (Some j) new left h = record { at = I.body_place e.epoch c j; block = I.body_block c n j; left = left }

  writes_tail : (x : Option ℕ) → Writes (tail_or_release x)
  writes_tail None new left h = absurd (both_ways false refl h)
  writes_tail (Some j) new left h = record { at = I.tail_place c j; block = I.tail_block c n j; left = left }

  writes : (q : EngineStage) → Writes (item I q c)
  writes Idle new left h = absurd (both_ways false refl h)
  writes (Body from) new left h = writes_body (I.body_next c from) new left h
  writes (InRound r) new left h = writes_round r new left h
  writes (Tail from) new left h = writes_tail (I.tail_next c from) new left h

  -- ---- it is due

  due_body : (x : Option ℕ) → IsDue (report I e (body_or_slot x)) k
  due_body None = due-slot k (nat_lt 0 (record_blocks e.p))
  due_body (Some j) = due_position (I.step_of e.p j) k (w.items.steps e.p j)

  due_round : (r : Round) → Here r → IsDue (report I e (RoundItem r)) k
  due_round (Write j) here = due-slot k (nat_lt j (record_blocks e.p))
  due_round Settle here = tt
  due_round Commit here =
      let made : IsMadeFor D o e c n g = sound.checkpoints.made here.way in
      (here.doubt, (made.mark, sym sound.checkpoints.sealed ∙ made.sealed))
  due_round Confirm here =
      let made : IsMadeFor D o e c n g = sound.checkpoints.made here.way in
      (here.doubt, (made.mark, sym sound.checkpoints.sealed ∙ made.sealed, made.of_epoch))

  due_tail : (x : Option ℕ) → IsDue (report I e (tail_or_release x)) k
  due_tail None = tt
  due_tail (Some j) = due_position (I.step_of e.p j) k (w.items.steps e.p j)

  due : (q : EngineStage) → e.stage ≡ q → is_under_way q ≡ true → IsDue (Step q) k
  due Idle is way = cc
  due (Body from) is way = due_body (I.body_next c from)
  due (InRound r) is way = due_round r (at_round D w o k s n sound r is)
  due (Tail from) is way = due_tail (I.tail_next c from)

  -- ---- the DRAM is left alone

  dram_body : (from : ℕ) (x : Option ℕ) → e.stage ≡ Body from → I.body_next c from ≡ x
      → F.dram (control_after I (body_or_slot x) c) ≡ F.dram c
  dram_body from None is next = refl
  dram_body from (Some j) is next = (w.items.body c j (passed from j is next).moment.stands (again from j is next)).dram

  dram_round : (r : Round) → I.stands Made c → F.dram (control_after I (RoundItem r) c) ≡ F.dram c
  dram_round Confirm stands = (w.items.commits c stands).dram
  dram_round r stands = refl

  dram_tail : (from : ℕ) (x : Option ℕ) → e.stage ≡ Tail from → I.tail_next c from ≡ x
      → F.dram (control_after I (tail_or_release x) c) ≡ F.dram c
  dram_tail from None is next = (w.items.releases c from (moment_at D w o k s n sound (Tail from) is).stands next).dram
  dram_tail from (Some j) is next = (w.items.tail c j (passed_tail from j is next).moment.stands (again_tail from j is next)).dram

  dram : (q : EngineStage) → e.stage ≡ q → F.dram (control_after I (item I q c) c) ≡ F.dram c
  dram Idle is = refl
  dram (Body from) is = dram_body from (I.body_next c from) is refl
  dram (InRound r) is = dram_round r (moment_at D w o k s n sound (InRound r) is).stands
  dram (Tail from) is = dram_tail from (I.tail_next c from) is refl

  -- ---- what it leaves of the moment

  abbrev To : EngineStage → Item → Type 0
  To q i = Carries D e.epoch (phase_of q) c n (phase_of (next_after F I e i)) (control_after I i c) (after n.writes (action_of F I e i c n) n)

  carries_round : (q : EngineStage) (r : Round) → e.stage ≡ q → Here r → is_written r ≡ false → To q (RoundItem r)
  carries_round q r is here unwritten = subst (λ (x : EngineStage). To x (RoundItem r)) is (by_round r here unwritten) where
    by_round : (r : Round) → Here r → is_written r ≡ false → To e.stage (RoundItem r)
    by_round Confirm here unwritten = cc
    by_round r here unwritten = on_round D w o k s n sound r here

  carries_body : (from : ℕ) (x : Option ℕ) → e.stage ≡ Body from → I.body_next c from ≡ x → To (Body from) (body_or_slot x)
  carries_body from None is next = carries_round (Body from) (Write 0) is (at_first D w o k s n sound from is next) refl
  carries_body from (Some j) is next =
      let pass = passed from j is next in
      Carries-both D e.epoch (Making from) (Making j) (Making (j + 1)) c c (I.body_after c j) n n
      (after n.writes (action_of F I e (body_or_slot (Some j)) c n) n)
      pass (w.body_carries e.epoch c n j pass.moment (again from j is next))

  carries_tail : (from : ℕ) (x : Option ℕ) → e.stage ≡ Tail from → I.tail_next c from ≡ x → To (Tail from) (tail_or_release x)
  carries_tail from None is next =
      let over = w.same_reads (Applying from) e.epoch c n (at_rest n) (moment_at D w o k s n sound (Tail from) is) (settled_same n) in
      Carries-both D e.epoch (Applying from) (Applying from) Resting c c (I.released c) n (at_rest n) (at_rest n) over
      (w.releases e.epoch c (at_rest n) from over.moment next)
  carries_tail from (Some j) is next =
      let pass = passed_tail from j is next in
      Carries-both D e.epoch (Applying from) (Applying j) (Applying (j + 1)) c c (I.tail_after c j) n n
      (after n.writes (action_of F I e (tail_or_release (Some j)) c n) n)
      pass (w.tail_carries e.epoch c n j pass.moment (again_tail from j is next))

  carries : (q : EngineStage) → e.stage ≡ q → is_under_way q ≡ true → is_confirming q ≡ false → To q (item I q c)
  carries Idle is way unconfirmed = cc
  carries (Body from) is way unconfirmed = carries_body from (I.body_next c from) is refl
  carries (InRound r) is way unconfirmed = carries_round (InRound r) r is (at_round D w o k s n sound r is) unconfirmed
  carries (Tail from) is way unconfirmed = carries_tail from (I.tail_next c from) is refl

  abbrev Kept : EngineStage → Item → Type 0
  Kept q i = Keeping D e.epoch (phase_of q) c n (phase_of (next_after F I e i)) (control_after I i c) (after n.writes (action_of F I e i c n) n)

  carried : (q : EngineStage) → e.stage ≡ q → is_under_way q ≡ true → is_confirming q ≡ false → Kept q (item I q c)
  carried q is way unconfirmed =
      keeping_carried D e.epoch (phase_of q) (phase_of (next_after F I e (item I q c))) c (control_after I (item I q c) c) n
      (after n.writes (action_of F I e (item I q c) c n) n) (moment_at D w o k s n sound q is) (carries q is way unconfirmed)

  kept_confirmed : e.stage ≡ InRound Confirm → Kept (InRound Confirm) (RoundItem Confirm)
  kept_confirmed is =
      let first = moment_at D w o k s n sound (InRound Confirm) is in
      let over = w.same_reads Made e.epoch c n (at_rest n) first (settled_same n) in
      let to = w.commits e.epoch c (at_rest n) over.moment in
      subst (λ (x : Phase). Keeping D e.epoch Made c n x (I.committed c) (at_rest n)) (sym (phase_confirmed I)) (record {
        old = first;
        moment = to.moment;
        loads = to.loads ∙ over.loads;
        free = let a = to.free in let b = over.free in omega (arith, a, b);
        opened = opens_both (D.parts.open_page c) (D.parts.open_page c) (D.parts.open_page (I.committed c)) over.opened to.opened;
        owed = let a = to.owed_later in let b = over.owed_later in omega (arith, a, b);
        pages = record {
          whole = λ h. to.pages.whole (over.pages.whole h);
          merges = let a = to.pages.merges in let b = over.pages.merges in omega (arith, a, b);
          promotions = let a = to.pages.promotions in let b = over.pages.promotions in omega (arith, a, b);
        };
      })

  kept : (q : EngineStage) → e.stage ≡ q → is_under_way q ≡ true → Kept q (item I q c)
  kept Idle is way = cc
  kept (InRound Confirm) is way = kept_confirmed is
  kept q is way = carried q is refl refl

  count : cycles_left F I (engine_next F I e c) (control_next I e c) + 1 ≤ cycles_left F I e c
  count = items_count F I w.fills.laid w.items e c sound.held.fits on

  -- the device that is there reads as that one, whatever it counts
  module _ (new : Device) (left : IsAfter (action_next F I e c n) n new) where
    same_then : ReadsSame (device_taken D s n) new
    same_then =
        subst (ReadsSame (device_taken D s n)) (sym (after-is (action_next F I e c n) n new left))
        (after_same (action_next F I e c n) n n.writes new.writes)

    -- a step that is no commit owes no more
    owed_by : (q : EngineStage) → e.stage ≡ q → is_under_way q ≡ true → is_confirming q ≡ false
        → OwesAfter (Step q) (scheme_of D) s n (taken D s) new
    owed_by q is way unconfirmed =
        owes_if D (Step q) s (taken D s) n new
        (subst (λ (r : EngineStage). D.parts.owed (control_after I (item I r c) c) ≤ D.parts.owed c) (sym is)
        (carries q is way unconfirmed).owed)

    owes : (q : EngineStage) → e.stage ≡ q → is_under_way q ≡ true → OwesAfter (Step q) (scheme_of D) s n (taken D s) new
    owes Idle is way = cc
    owes (InRound Confirm) is way = tt
    owes q is way = owed_by q is refl refl

    keeps : Keeps (scheme_of D) s n (taken D s) new
    keeps =
        keeps_by D w e.epoch s (taken D s) n new
        (keeping_same D w e.epoch (phase_of e.stage) (phase_of (taken D s).engine.stage) c (taken D s).control n (device_taken D s n) new same_then
        (kept e.stage refl on))
        stands.up (down-after (action_next F I e c n) n new left ∙ stands.up) (let less = count in omega (arith, less)) refl refl

    pub engines : Engines (scheme_of D) o k (step_of D s) s n (taken D s) new
    engines = record {
      due = due e.stage refl on;
      sound = same_reads_keep D w o (marks_after (step_of D s) k) (taken D s) (device_taken D s n) new
          (items_keep_sound D w o k s n sound on) same_then;
      keeps = keeps;
      owes = owes e.stage refl on;
      acts = λ lap. record { action = action_next F I e c n; asked = asks lap e.stage refl on; left = left };
      dram = inl (dram e.stage refl);
      writes = λ h. inl (writes e.stage new (after-is (action_next F I e c n) n new left) h);
      queue =
          let same : (F.dram (control_next I e c)).queued ≡ (F.dram c).queued = ap (λ d. d.queued) (dram e.stage refl) in
          omega (arith, queue-after (action_next F I e c n) n new left, same);
      nearer = count;
    }

  pub engine-fails : (new : Device) → FailsTo (action_next F I e c n) n new → IsFramed n new → EngineFails (scheme_of D) o k n new
  engine-fails new failed framed = record {
    step = step_of D s;
    acted = λ lap. record { action = action_next F I e c n; asked = asks lap e.stage refl on; failed = failed };
    safe = failed_items_are_safe D w o k s n new sound on failed framed;
  }

-- ---- a seal

pub seals : {C : Type 0} (D : DesignOf C) → IsDesign D
    → (o : Origin) (k : CheckpointMarks) (cpu : CpuState) (epoch : ℕ) (s : Composed C) (n : Device)
    → Stands (scheme_of D) o k s n → is_under_way s.engine.stage ≡ false
    → D.parts.pages.promoting s.control ≡ false → D.parts.pages.overlaid s.control ≡ false
    → Seals (scheme_of D) o k cpu epoch s n (sealed D cpu epoch s)
seals D w o k cpu epoch s n stands idle whole bare =
    let nothing = idle_stage s.engine.stage idle in
    let first : IsMoment D Resting s.engine.epoch s.control n = moment_at D w o k s n stands.sound Idle nothing in
    let to = w.seals s.engine.epoch epoch s.control n first whole bare in
    let held = moment_held D s.control n w Resting s.engine.epoch first stands.up in
    record {
      sound = λ m t. seal_keeps_sound D w o k cpu epoch m s n stands.sound idle whole bare (record {
        unsealed = t.unsealed;
        unwritten = t.unwritten;
        next = t.next;
        of_epoch = t.of_epoch;
        small = t.small;
        recordable = t.recordable;
        state = ap (state_from o.geometry cpu) (sym held) ∙ t.state;
        counted = t.counted;
      });
      held = record {
        blocks = moment_held D (D.parts.seal s.control) n w (Making 0) epoch to.moment stands.up ∙ to.loads ∙ sym held;
        free = to.free;
        opened = to.opened;
      };
      dram = to.dram;
      queue = ap (λ d. d.queued) to.dram;
      storeless = refl;
      sealed_storeless = refl;
    }
