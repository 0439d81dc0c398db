-- What holds after the boot, and what loads and stores keep of it.
use Rattle.std.proofs.Common.{◌≡◌, ◌⊎◌, ℕ, ◌+◌, ◌<◌, ◌≤◌, ◌||◌, ◌&&◌, not, Bool, true, false, List, [], ◌∷◌, ◌++◌, length, Some, refl, sym, ◌∙◌, ap, subst, inl, inr, arith}
use Rattle.std.proofs.lemmas.List.Elements.{Contains-append_cases, Contains-append_right}
use Rattle.thy_block.specs.declared.parameters.Parameters.{Parameters}
use Rattle.thy_block.specs.Device.{Device, CrashAt, newest, drained, counting}
use Rattle.thy_block.specs.Geometry.{memory_blocks}
use Rattle.thy_block.proofs.BasicLemmas.{not_some}
use Rattle.thy_layout.specs.Saved.{guarded}
use Rattle.thy_layout.specs.Spares.{Spares}
use Rattle.thy_isa.specs.OnBlocks.{state_from}
use Rattle.thy_layout.specs.Commit.{commit_of}
use Rattle.thy_layout.specs.Layout.{Layout, header_bad, looked_by, reading}
use Rattle.thy_computer.specs.Origin.{Origin}
use Rattle.thy_computer.specs.Safe.{Safe}
use Rattle.thy_computer.specs.Moves.{IsKeeping, Goes}
use Rattle.thy_computer.specs.declared.round.Round.{Round}
use Rattle.thy_computer.specs.declared.round.Round.TheVariants.{Commit, Confirm}
use Rattle.thy_computer.specs.Round.{IsInRound}
use Rattle.thy_computer.proofs.KeepsLemmas.{IsKeeping-move}
use Rattle.thy_computer.proofs.RoundLemmas.{issued_over}
use Rattle.thy_checkpoint.specs.Filling.{layout_at}
use Rattle.thy_scheme.specs.CheckpointMarks.{CheckpointMarks, doubt_in}
use Rattle.thy_scheme.specs.Scheme.{Stands}
use Rattle.thy_scheme.specs.Laws.{IsBounded, RunHolds}
use Rattle.thy_scheme_parts.specs.Schemes.{HeldIsUp, ReadyIsUp, StaysKeep}
use Rattle.thy_checkpoint.specs.declared.engine_stage.EngineStage.{EngineStage}
use Rattle.thy_checkpoint.specs.declared.engine_stage.EngineStage.TheVariants.{Idle, InRound, Tail}
use Rattle.thy_checkpoint.specs.Cycles.{cycles_left, most_cycles}
use Rattle.thy_checkpoint.specs.Items.{Resting, Made}
use Rattle.thy_checkpoint.specs.Progress.{Progress, phase_of, layout_of, slot_blocks, Fits, is_under_way, is_applying}
use Rattle.thy_checkpoint.proofs.ItemLemmas.{cycles_are_few}
use Rattle.thy_scheme_parts.specs.AreParts.{AreParts}
use Rattle.thy_scheme_parts.specs.Boots.{IsOf}
use Rattle.thy_scheme_parts.specs.Checkpoints.{Checkpoints, is_sealing, is_settled, is_confirming, saved_at, standing_at, HasWrittenSlot, HasWrittenBefore}
use Rattle.thy_scheme_parts.specs.Design.{DesignOf, Composed}
use Rattle.thy_scheme_parts.specs.Moments.{IsMoment, MakesAt, parts_at}
use Rattle.thy_scheme_parts.specs.Scheme.{scheme_of}
use Rattle.thy_scheme_parts.specs.Sound.{layout_for, IsHeld, HasState, HasCheckpoints, IsSound}
use Rattle.thy_scheme_parts.specs.Stays.{RestsOn, Stays}
use Rattle.thy_scheme_parts.specs.Storing.{SealedStays, SlotStays, SlotStaysAt, StaysAt, StaysOver}
use Rattle.thy_scheme_parts.proofs.SameLemmas.{drained_same, counting_same}
use Rattle.thy_scheme_parts.proofs.DrainLemmas.{left_less, counted_keeps, drained_keeps}
use Rattle.thy_scheme_parts.proofs.HeldLemmas.{held_block, moment_held}
use Rattle.thy_scheme_parts.proofs.SafeLemmas.{makes_over, safe_by, doubt_is, same_reads_keep, sound_is_safe, idle_stage}
use Rattle.thy_scheme_parts.proofs.SlotLemmas.{slot_reads}
use Rattle.thy_scheme_parts.proofs.SoundLemmas.{can, made_with}
use Rattle.thy_scheme_parts.proofs.WaitLemmas.{rests_idle}

-- ---- what is under way

-- a checkpoint is made, or what follows its commit is written, and never both
way_of : (q : EngineStage) → is_under_way q ≡ (is_sealing q || is_applying q)
way_of Idle = refl
way_of q = refl

not_sealing : (q : EngineStage) → is_applying q ≡ true → is_sealing q ≡ false
not_sealing (Tail from) h = refl
not_sealing q h = cc

-- the hart runs while nothing is under way, or meanwhile
free_of : (overlaps way : Bool) → (overlaps || not way) ≡ true → (overlaps ≡ true) ⊎ (way ≡ false)
free_of true way h = inl refl
free_of false true h = cc
free_of false false h = inr refl

ready_of : (promoting down : Bool) → promoting ≡ false → down ≡ false → (not promoting && not down) ≡ true
ready_of false false h k = refl
ready_of promoting down h k = cc

ready_parts : (promoting down : Bool) → (not promoting && not down) ≡ true → (promoting ≡ false) × (down ≡ false)
ready_parts false false h = (refl, refl)
ready_parts promoting down h = cc

-- while a checkpoint is made, memory as it was sealed stays
sealed_at : {C : Type 0} (D : DesignOf C) (c : C) (n : Device) (d : C) (m : Device) (q : EngineStage) → is_sealing q ≡ true
    → SealedStays D (phase_of q) c n d m → D.parts.sealed d m ≡ D.parts.sealed c n
sealed_at D c n d m Idle way stays = cc
sealed_at D c n d m (Tail from) way stays = cc
sealed_at D c n d m q way stays = stays

-- places that are spared of two lists are spared of both
spares_both : (a b : List ℕ) (n m : Device) → Spares (1 ∷ a) n m → Spares (1 ∷ b) n m → Spares (1 ∷ (a ++ b)) n m
spares_both a b n m x y = record {
  as_long = x.as_long;
  no_more = λ p inside block h. elim (Contains-append_cases (1 ∷ a) b p inside) as (λ _. CrashAt n p block) [
    | inl left ↦ x.no_more p left block h
    | inr right ↦ y.no_more p (Contains-append_right (1 ∷ []) b p right) block h
  ];
}

module _ {C : Type 0} (D : DesignOf C) (w : AreParts D) where
  -- ---- as a store of blocks

  pub held_is_up : HeldIsUp (scheme_of D)
  held_is_up s n b l = (held_block D s.control n b l).up

  pub ready_is_up : ReadyIsUp (scheme_of D)
  ready_is_up s n ready = (ready_parts (D.parts.pages.promoting s.control) n.down ready).1

  pub ready_is_whole : (s : Composed C) (n : Device) → ((scheme_of D).holding s n).ready ≡ true → D.parts.pages.promoting s.control ≡ false
  ready_is_whole s n ready = (ready_parts (D.parts.pages.promoting s.control) n.down ready).0

  -- ---- over any number of calls

  pub same-stays : (s : Composed C) (n : Device) → Stays D s n s n
  same-stays s n = record {
    control = w.storing.stays_same s.control n;
    engine = refl;
    sealed_storeless = refl;
    boot = refl;
    rests = λ r. record { before = r; still = w.storing.still_same s.control };
  }

  pub on-stays : (a : Composed C) (l : Device) (b : Composed C) (m : Device) (c : Composed C) (n : Device) → Stays D a l b m
      → Stays D b m c n → Stays D a l c n
  on-stays a l b m c n first second = record {
    control = w.storing.stays_on a.control l b.control m c.control n first.control second.control;
    engine = second.engine ∙ first.engine;
    sealed_storeless = second.sealed_storeless ∙ first.sealed_storeless;
    boot = second.boot ∙ first.boot;
    rests = λ r.
        let now : RestsOn D b c = second.rests r in
        let earlier : RestsOn D a b = first.rests now.before in
        record { before = earlier.before; still = w.storing.still_on a.control b.control c.control earlier.still now.still };
  }

  pub of-stays : (s : Composed C) (n : Device) (t : Composed C) (m : Device) → Stays D s n t m → (p : Parameters) → IsOf D p s → IsOf D p t
  of-stays s n t m stays p is_of = record {
    same_p = w.storing.stays_p s.control n t.control m stays.control ∙ is_of.same_p;
    sound = w.storing.stays_sound s.control n t.control m stays.control is_of.sound;
    room = w.storing.stays_room s.control n t.control m stays.control ∙ is_of.room;
  }

  -- ---- after the boot

  module _ (o : Origin) (k : CheckpointMarks) (s : Composed C) (n : Device) (stands : Stands (scheme_of D) o k s n) where
    abbrev sound : IsSound D o k s n
    sound = stands.sound

    bounded : IsBounded (scheme_of D) o.geometry s n
    bounded =
        let p : D.filling.p s.control ≡ o.geometry = sound.held.geometry in
        let few = w.design.few (phase_of s.engine.stage) s.engine.epoch s.control n sound.held.moment in
        record {
          engine =
              subst (λ (q : Parameters). cycles_left D.filling D.items s.engine s.control ≤ most_cycles D.filling D.items q)
              (sym sound.held.fits.same_p ∙ p)
              (cycles_are_few D.filling D.items w.design.fills.laid w.design.items s.engine s.control sound.held.fits);
          merges = subst (λ (q : Parameters). D.parts.pages.merges_left s.control ≤ D.parts.pages.most_merges q) p few.merges;
          promotions = subst (λ (q : Parameters). D.parts.pages.promotions_left s.control ≤ D.parts.pages.most_promotions q) p few.promotions;
          owed =
              subst (λ (q : Parameters). D.parts.owed s.control + D.parts.owed_later (phase_of s.engine.stage) s.control
              ≤ D.parts.most_owed q) p few.owed;
          free = subst (λ (q : Parameters). D.parts.free s.control ≤ D.parts.most_free q) p few.free;
        }

    pub run_is_sound : RunHolds (scheme_of D) o k s n
    run_is_sound =
        let p : D.filling.p s.control ≡ o.geometry = sound.held.geometry in
        record {
          of_geometry = record { same_p = p; sound = sound.held.moment.sound; room = sound.held.room };
          sized = sound.held.moment.sized ∙ ap (λ (q : Parameters). (layout_at D.filling q).image_blocks) p;
          safe = sound_is_safe D o k s n sound;
          way = way_of s.engine.stage ∙ ap (λ (b : Bool). b || is_applying s.engine.stage) sound.way;
          apart = λ applies. not_some k.sealed (sym sound.way ∙ not_sealing s.engine.stage applies);
          memory =
              ap length (moment_held D s.control n w.design (phase_of s.engine.stage) s.engine.epoch sound.held.moment stands.up)
              ∙ w.design.loads_length s.control n ∙ ap memory_blocks p;
          ready = λ whole. ready_of (D.parts.pages.promoting s.control) n.down whole stands.up;
          overlays = w.design.merged_all s.control;
          promotions = w.design.promoted_all s.control;
          bounded = bounded;
          room = λ sealed storeless idle.
              w.design.rests_room s.control sound.held.moment.sound
              (subst (λ (x : Bool). D.parts.rests true x Resting s.control) sealed
              (rests_idle D o k s n sound storeless idle));
          committed = record {
            blocks = w.design.committed_length (phase_of s.engine.stage) s.control n ∙ ap memory_blocks p;
            cpu = sound.committed.cpu;
            state = sound.committed.state;
          };
          drained_sound = λ some. same_reads_keep D w.design o k s n (drained n) sound (drained_same n);
          drained_keeps = λ some. drained_keeps D w.design o k s n stands;
          drained_owes = λ some. (w.design.same_reads (phase_of s.engine.stage) s.engine.epoch s.control n (drained n) sound.held.moment
              (drained_same n)).owed;
          counted_sound = λ writes wear. same_reads_keep D w.design o k s n (counting writes wear n) sound (counting_same writes wear n);
          counted_keeps = λ writes wear. counted_keeps D w.design o k s n stands writes wear;
          counted_owes = λ writes wear.
              (w.design.same_reads (phase_of s.engine.stage) s.engine.epoch s.control n (counting writes wear n) sound.held.moment
              (counting_same writes wear n)).owed;
        }

  -- ---- what loads and stores keep

  module _ (o : Origin) (k : CheckpointMarks) (s : Composed C) (n : Device) (t : Composed C) (m : Device) (h : IsSound D o k s n)
      (over : StaysOver D (phase_of s.engine.stage) s.engine.epoch s.control n t.control m) (stays : Stays D s n t m) where
    abbrev l : Layout
    l = layout_for D o

    abbrev g : Checkpoints
    g = h.images

    -- the places by which the kept image, and the one that was made, are found
    spares_kept : Spares (1 ∷ looked_by l g.before) n m
    spares_kept =
        subst (λ (p : Parameters). Spares (1 ∷ looked_by (layout_at D.filling p) g.before) n m) h.held.geometry
        (over.kept g.before h.checkpoints.meant)

    makes_at : (q : EngineStage) → is_settled q ≡ true → D.parts.makes s.engine.epoch s.control g.next
        → MakesAt D (phase_of q) s.engine.epoch s.control g.next
    makes_at (InRound r) settled made = made
    makes_at q settled made = cc

    spares_made : is_sealing s.engine.stage ≡ true → is_settled s.engine.stage ≡ true → Spares (1 ∷ looked_by l g.next) n m
    spares_made way settled =
        subst (λ (p : Parameters). Spares (1 ∷ looked_by (layout_at D.filling p) g.next) n m) h.held.geometry
        (over.made g.next (makes_at s.engine.stage settled ((h.checkpoints.made way).makes settled)))

    spares_by : (q : EngineStage) → s.engine.stage ≡ q → Spares (guarded (looked_by l) (saved_at q g)) n m
    spares_by (InRound Commit) is =
        spares_both (looked_by l g.before) (looked_by l g.next) n m spares_kept (spares_made (ap is_sealing is) (ap is_settled is))
    spares_by (InRound Confirm) is =
        spares_both (looked_by l g.before) (looked_by l g.next) n m spares_kept (spares_made (ap is_sealing is) (ap is_settled is))
    spares_by q is = spares_kept

    keeping_then : IsKeeping o l (standing_at s.engine.stage m g)
    keeping_then =
        IsKeeping-move o l _ _ (Goes (saved_at s.engine.stage g) g.kept g.sealed n m (spares_by s.engine.stage refl)) h.checkpoints.keeping

    pub safe_then : Safe (reading D.filling.layouts) o (Some k.done) (doubt_in k) m
    safe_then =
        safe_by D o k.done (saved_at s.engine.stage g) g m (doubt_in k) h.checkpoints.kept keeping_then
        (doubt_is k g h.checkpoints.sealed s.engine.stage h.doubt)

    -- while the NVM is up
    module _ (up : StaysAt D (phase_of s.engine.stage) s.engine.epoch s.control n t.control m) where
      same_p : D.filling.p t.control ≡ D.filling.p s.control
      same_p = w.storing.stays_p s.control n t.control m stays.control

      as_long : length m.image ≡ length n.image
      as_long = (spares_by s.engine.stage refl).as_long

      -- the slot is written as far as before
      slot_then : (q : EngineStage) → s.engine.stage ≡ q → is_sealing q ≡ true → phase_of q ≡ Made → (j : ℕ)
          → j ≤ slot_blocks D.filling s.engine
          → HasWrittenSlot D s.engine s.control n j → HasWrittenSlot D s.engine t.control m j
      slot_then q is way made j few written =
          let now : IsMoment D Made s.engine.epoch t.control m =
          subst (λ ph. IsMoment D ph s.engine.epoch t.control m) (ap phase_of is ∙ made) up.moment in
          let old = can D w.design o k s n h (ap is_sealing is ∙ way) in
          let slot : SlotStays D s.engine.epoch s.control n t.control m =
          subst (λ ph. SlotStaysAt D ph s.engine.epoch s.control n t.control m) (ap phase_of is ∙ made) up.slot in
          slot_reads D w.design s.engine s.control t.control n m j now
          (record { range = old.range; same_p = same_p ∙ old.same_p; recordable = old.recordable; small = old.small }) as_long slot.rest
          (λ i l. subst (λ (p : Parameters). newest m ((layout_at D.filling p).slot_place (commit_of s.engine.epoch) + i)
          ≡ newest n ((layout_at D.filling p).slot_place (commit_of s.engine.epoch) + i)) old.same_p
          (slot.reads i (subst (λ (p : Parameters). i < (layout_at D.filling p).slot_blocks (commit_of s.engine.epoch)) (sym old.same_p) l)))
          few written

      written_then : (q : EngineStage) → s.engine.stage ≡ q → ((r : Round) → q ≡ InRound r → IsInRound (slot_blocks D.filling s.engine) r)
          → HasWrittenBefore D q s.engine s.control n → HasWrittenBefore D q s.engine t.control m
      written_then (InRound r) is inside b =
          issued_over (layout_of D.filling s.engine).image_blocks (parts_at D s.engine s.control) (parts_at D s.engine t.control)
          (commit_of s.engine.epoch) r n m
          (D.parts.sealed s.control n) (D.parts.sealed t.control m) refl (inside r refl) (λ j few h. slot_then (InRound r) is refl refl j few h)
          (λ read. record { inside = let low = read.inside in omega (arith, low, as_long); newest_is = up.commit ∙ read.newest_is }) b
      written_then q is inside b = tt

      fits_then : Fits D.filling D.items s.engine t.control
      fits_then = record { same_p = same_p ∙ h.held.fits.same_p; inside = h.held.fits.inside; stands = up.moment.stands }

      rests_then : (storeless : Bool) → t.storeless ≡ storeless
          → D.parts.rests t.storeless t.sealed_storeless (phase_of s.engine.stage) t.control
      rests_then true is =
          let on : RestsOn D s t = stays.rests is in
          coe 1 0 (i. D.parts.rests (is i) (stays.sealed_storeless i) (phase_of s.engine.stage) t.control)
          (w.storing.still_rests s.sealed_storeless (phase_of s.engine.stage) s.control t.control on.still
          (subst (λ (x : Bool). D.parts.rests x s.sealed_storeless (phase_of s.engine.stage) s.control) on.before h.rests))
      rests_then false is =
          coe 1 0 (i. D.parts.rests (is i) (stays.sealed_storeless i) (phase_of s.engine.stage) t.control)
          (up.rests s.sealed_storeless (rests_false s.storeless h.rests))
        where
          rests_false : (x : Bool) → D.parts.rests x s.sealed_storeless (phase_of s.engine.stage) s.control
              → D.parts.rests false s.sealed_storeless (phase_of s.engine.stage) s.control
          rests_false true r = w.storing.rests_less s.sealed_storeless (phase_of s.engine.stage) s.control r
          rests_false false r = r

      pub sound_then : IsSound D o k t m
      sound_then = record {
        held = subst (λ (x : Progress). IsHeld D o x t.control m) (sym stays.engine) (record {
          geometry = same_p ∙ h.held.geometry;
          moment = up.moment;
          fits = fits_then;
          regs = h.held.regs;
          room = w.storing.stays_room s.control n t.control m stays.control ∙ h.held.room;
        });
        images = h.images;
        checkpoints = subst (λ (x : Progress). HasCheckpoints D o k x t.control m h.images) (sym stays.engine) (record {
          kept = h.checkpoints.kept;
          stated = h.checkpoints.stated;
          sealed = h.checkpoints.sealed;
          keeping = keeping_then;
          meant = up.keeps h.images.before h.checkpoints.meant;
          written = written_then s.engine.stage refl h.held.fits.inside h.checkpoints.written;
          made = λ way.
              let old = h.checkpoints.made way in
              made_with D o s.engine s.engine.stage s.control t.control n m h.images h.images.next old
              (sealed_at D s.control n t.control m s.engine.stage way up.sealed)
              (λ is. (old.commit is, makes_over D s.engine.epoch s.control t.control h.images.next s.engine.stage is (up.makes h.images.next) (old.makes is)));
        });
        way = ap (λ (x : Progress). is_sealing x.stage) stays.engine ∙ h.way;
        doubt = h.doubt ∙ sym (ap (λ (x : Progress). is_confirming x.stage) stays.engine);
        header = ap (λ b. header_bad l b true) up.header ∙ h.header;
        committed = subst (λ (x : Progress). HasState D o k.done x t.control m) (sym stays.engine) (record {
          cpu = h.committed.cpu;
          state = ap (state_from o.geometry h.committed.cpu) up.committed ∙ h.committed.state;
        });
        rests =
            subst (λ (x : Progress). D.parts.rests t.storeless t.sealed_storeless (phase_of x.stage) t.control) (sym stays.engine)
            (rests_then t.storeless refl);
      }

  pub stays_keep : StaysKeep (scheme_of D)
  stays_keep o k s n t m stands free stays =
      let sound : IsSound D o k s n = stands.sound in
      let runs : (D.parts.overlaps ≡ true) ⊎ (phase_of s.engine.stage ≡ Resting) =
      elim (free_of D.parts.overlaps (is_under_way s.engine.stage) free) as (λ _. (D.parts.overlaps ≡ true) ⊎ (phase_of s.engine.stage ≡ Resting)) [
        | inl overlaps ↦ inl overlaps
        | inr idle ↦ inr (ap phase_of (idle_stage s.engine.stage idle))
      ] in
      let over = w.storing.stays (phase_of s.engine.stage) s.engine.epoch s.control n t.control m sound.held.moment runs stays.control in
      let less = left_less D.filling D.items s.engine s.engine.stage s.control t.control over.left in
      record {
        sound = λ up. sound_then o k s n t m sound over stays (over.up up);
        safe = safe_then o k s n t m sound over stays;
        way = ap (λ (e : Progress). is_under_way e.stage) stays.engine;
        engine =
            subst (λ (e : Progress). cycles_left D.filling D.items e t.control ≤ cycles_left D.filling D.items s.engine s.control)
            (sym stays.engine) less;
        owed_later =
            subst (λ (e : Progress). D.parts.owed_later (phase_of e.stage) t.control
            ≤ D.parts.owed_later (phase_of s.engine.stage) s.control) (sym stays.engine)
            over.owed_later;
        sealed_storeless = stays.sealed_storeless;
      }
