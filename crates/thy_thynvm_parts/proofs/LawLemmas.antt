-- What holds of the scheme thynvm beside what holds of every scheme of parts, and what a recovery writes.
use Rattle.std.proofs.Common.{◌≡◌, ◌⊎◌, ℕ, ◌+◌, ◌<◌, ◌^◌, Bool, true, false, Option, Some, refl, sym, ◌∙◌, ap, subst, inl, inr, arith, ◌*◌, ◌≤◌, ◌&&◌, max, not, if◌then◌else◌}
use Rattle.thy_block.specs.declared.parameters.Parameters.{Parameters}
use Rattle.thy_block.specs.declared.mark.Mark.{Mark}
use Rattle.thy_block.specs.Device.{Device, block_at}
use Rattle.thy_block.proofs.CrashLemmas.{Crash-image}
use Rattle.thy_block.proofs.BasicLemmas.{some_same}
use Rattle.thy_block.specs.Geometry.{memory_blocks}
use Rattle.thy_block.proofs.RangeLemmas.{harts_most}
use Rattle.thy_layout.specs.Fixed.{IsFixed}
use Rattle.thy_layout.proofs.FixedLemmas.{block_at-fixed}
use Rattle.thy_table.specs.Places.{slot_blocks, slot_place}
use Rattle.thy_layout.specs.declared.layout_version.LayoutVersion.{LayoutVersion}
use Rattle.thy_layout.specs.declared.layout_version.LayoutVersion.TheVariants.{VersionOne, VersionTwo}
use Rattle.thy_layout.specs.Commit.{epoch_of, version_of, slot_of_epoch}
use Rattle.thy_layout.proofs.ReadBackLemmas.{epoch_of-commit_of, version_of-commit_of}
use Rattle.thy_layout.specs.Header.{knows_version_one}
use Rattle.thy_computer.specs.declared.view.View.{View}
use Rattle.thy_computer.specs.Action.{ActsBy, ActionFailedBy}
use Rattle.thy_computer.specs.Origin.{Origin}
use Rattle.thy_computer.specs.Keeps.{finding_view}
use Rattle.thy_computer.specs.Moves.{IsKeeping}
use Rattle.thy_computer.specs.declared.round.Round.{Round}
use Rattle.thy_computer.specs.declared.round.Round.TheVariants.{Write, Commit, Confirm}
use Rattle.thy_computer.specs.Round.{IsInRound, round_action, round_left}
use Rattle.thy_record.specs.ThynvmLayouts.{thynvm_layouts, layout_of}
use Rattle.thy_record.specs.Number.{scheme_number}
use Rattle.thy_record.specs.VersionSlots.{blocks_of_slot, place_of_slot}
use Rattle.thy_control.specs.State.{State}
use Rattle.thy_control.proofs.StateLemmas.{ptt_least}
use Rattle.thy_scheme.specs.CheckpointMarks.{CheckpointMarks}
use Rattle.thy_scheme.specs.Laws.{IsLawful}
use Rattle.thy_scheme.specs.Scheme.{Stands}
use Rattle.thy_checkpoint.specs.declared.boot_stage.Stage.{Stage}
use Rattle.thy_checkpoint.specs.declared.boot_stage.Stage.TheVariants.{Migrates}
use Rattle.thy_checkpoint.specs.Boot.{Booting}
use Rattle.thy_checkpoint.specs.Filling.{anew}
use Rattle.thy_checkpoint.specs.Migrating.{renewing}
use Rattle.thy_checkpoint.specs.Shows.{migrates_at, seen_at}
use Rattle.thy_checkpoint.specs.Sound.{BootImages, standing_in_boot, IsMigrating, IsSoundAt}
use Rattle.thy_checkpoint.proofs.LoadLemmas.{epoch-below}
use Rattle.thy_checkpoint.specs.Left.{most_migration}
use Rattle.thy_checkpoint.specs.declared.engine_stage.EngineStage.{EngineStage}
use Rattle.thy_checkpoint.specs.declared.engine_stage.EngineStage.TheVariants.{Tail}
use Rattle.thy_checkpoint.specs.Progress.{phase_of, is_applying, is_under_way}
use Rattle.thy_scheme_parts.proofs.BootLemmas.{view-is}
use Rattle.thy_scheme_parts.specs.Design.{Composed}
use Rattle.thy_scheme_parts.proofs.LawfulLemmas.{lawful as lawful_of_parts}
use Rattle.thy_thynvm_parts.specs.Filling.{filling_thynvm}
use Rattle.thy_thynvm_parts.specs.Design.{thynvm_design, items_thynvm}
use Rattle.thy_thynvm_parts.specs.Recovery.{StepsLeaveNvm, FailuresWriteNothing, IsOfMigration, MigratesFound, MigrationWrites, VersionTwoStays}
use Rattle.thy_thynvm_parts.proofs.PartsLemmas.{are_parts}
use Rattle.thy_thynvm_parts.specs.Bounds.{EpochsAreShort, BootsAreShort}
use Rattle.thy_thynvm_parts.specs.Laws.{NothingIsBarred, ReadyIsWhole, StaysKeep}
use Rattle.thy_thynvm_parts.specs.Scheme.{thynvm_scheme}

pub steps_leave_nvm : StepsLeaveNvm
steps_leave_nvm o k pick m next n new r none step = record {
  acts = subst (λ (t : Bool). ActsBy t r.did n new) none step.acts;
  still = λ found boots done. step.still found (record { phase = boots; done = done }) none;
}

pub failures_write_nothing : FailuresWriteNothing
failures_write_nothing o pick m n new none c = record {
  failed = subst (λ (t : Bool). ActionFailedBy t c.did n new) none c.failed;
  still = λ found boots done. c.still found (record { phase = boots; done = done }) none;
}

-- ---- what a migration writes

own-action : (b : Booting) (epoch : ℕ) (r : Round) → epoch_of b.commit ≡ epoch → epoch < 2 ^ 64
    → IsInRound (renewing filling_thynvm b).blocks r
    → IsOfMigration b.p epoch (round_action (renewing filling_thynvm b) r)
own-action b epoch (Write k) is small inside =
    let version : version_of scheme_number b.p (anew b.commit) ≡ VersionTwo = version_of-commit_of scheme_number b.p (epoch_of b.commit) in
    let of : epoch_of (anew b.commit) ≡ epoch = epoch_of-commit_of (epoch_of b.commit) (omega (arith, is, small)) ∙ is in
    let blocks : (thynvm_layouts b.p).slot_blocks (anew b.commit) ≡ slot_blocks b.p = ap (λ (v : LayoutVersion). blocks_of_slot v b.p) version in
    let place : (thynvm_layouts b.p).slot_place (anew b.commit) ≡ slot_place b.p (slot_of_epoch epoch) =
    ap (λ (v : LayoutVersion). place_of_slot v b.p (slot_of_epoch (epoch_of (anew b.commit)))) version
    ∙ ap (λ (e : ℕ). slot_place b.p (slot_of_epoch e)) of in
    let below : k < slot_blocks b.p = omega (arith, inside, blocks) in
    inr (k, below, ap (λ (x : ℕ). x + k) place)
own-action b epoch Commit is small inside = inl refl
own-action b epoch r is small inside = tt

-- what migrates has an action to come
none_migrates : false ≡ true → ⊥
none_migrates e = cc

module _ (o : Origin) (g : BootImages) (n : Device) (b : Booting) (c : State) (same : b.p ≡ o.geometry) where
  migrates-found : (m : Mark) (r : Round) → (far : IsMigrating filling_thynvm o r g n b c) → far.m ≡ m → MigratesFound o.geometry m.epoch b r
  migrates-found m r far is =
      let epoch : epoch_of b.commit ≡ m.epoch = far.epoch ∙ ap (λ (x : Mark). x.epoch) is in
      let few = epoch-below (block_at g.before 0) b.commit far.listed.head.commit_fits in
      record {
        old = far.version;
        own = subst (λ (p : Parameters). IsOfMigration p m.epoch (round_action (renewing filling_thynvm b) r)) same
            (own-action b m.epoch r epoch (omega (arith, few, epoch)) far.there);
      }

  -- the mark that is seen is the one that is kept
  seen-kept : (kept : Option Mark) (m found : Mark) → kept ≡ Some m → (finding_view o.start.count kept).done ≡ Some found → m ≡ found
  seen-kept kept m found is done =
      some_same m found (sym (ap (λ (k : Option Mark). (finding_view o.start.count k).done) is) ∙ done)

  writes-at : (found : Mark) (q : Stage) → migrates_at q ≡ true → IsSoundAt filling_thynvm o q g n b c
      → (seen_at o g.kept q).done ≡ Some found
      → (r : Round) × (q ≡ Migrates r) × MigratesFound o.geometry found.epoch b r
  writes-at found (Migrates r) migrates far done = (r, refl, migrates-found found r far (seen-kept g.kept far.m found far.kept done))
  writes-at found q migrates far done = absurd (none_migrates migrates)

pub migration_writes : MigrationWrites
migration_writes o s n found boots migrates done =
    let seen : (seen_at o boots.images.kept s.boot.stage).done ≡ Some found
    = sym (ap (λ (v : View). v.done) (view-is thynvm_design are_parts o s n boots)) ∙ done in
    writes-at o boots.images n s.boot s.control boots.sound.geometry found s.boot.stage migrates boots.sound.so_far seen

-- ---- an image of version 2

one_is_not_two : VersionOne ≡ VersionTwo → ⊥
one_is_not_two e = cc

module _ (o : Origin) (g : BootImages) (n : Device) (b : Booting) (c : State) (same : b.p ≡ o.geometry)
    (two : version_of scheme_number o.geometry (block_at n.image 1) ≡ VersionTwo) where
  -- the image that is kept until the commit block is written is of version 1
  not-kept : (r : Round) → IsMigrating filling_thynvm o r g n b c → IsFixed n 1 (block_at g.before 1) → ⊥
  not-kept r far fixed =
      let there : block_at n.image 1 ≡ block_at g.before 1 = block_at-fixed n n.image 1 (block_at g.before 1) fixed (Crash-image n) in
      let old : version_of scheme_number o.geometry (block_at n.image 1) ≡ VersionOne =
      ap (version_of scheme_number o.geometry) (there ∙ far.listed.head.commit_is.is)
      ∙ ap (λ (p : Parameters). version_of scheme_number p b.commit) (sym same)
      ∙ far.version in
      one_is_not_two (sym old ∙ two)

  stays-at : (r : Round) → IsKeeping o (layout_of o) (standing_in_boot o (Migrates r) g n) → IsMigrating filling_thynvm o r g n b c
      → r ≡ Confirm
  stays-at Commit keeps far = absurd (not-kept Commit far keeps.saved.kept.commit)
  stays-at Confirm keeps far = refl
  stays-at r keeps far = absurd (not-kept r far keeps.saved.commit)

  stays-by : (q : Stage) → IsKeeping o (layout_of o) (standing_in_boot o q g n) → IsSoundAt filling_thynvm o q g n b c
      → (migrates_at q ≡ false) ⊎ (q ≡ Migrates Confirm)
  stays-by (Migrates r) keeps far = inr (ap (λ (x : Round). Migrates x) (stays-at r keeps far))
  stays-by q keeps far = inl refl

pub version_two_stays : VersionTwoStays
version_two_stays o s n boots two =
    stays-by o boots.images n s.boot s.control boots.sound.geometry two s.boot.stage boots.sound.keeps boots.sound.so_far

pub lawful : IsLawful thynvm_scheme
lawful = lawful_of_parts thynvm_design are_parts

-- ---- loads and stores, and the hart

never : (way : Bool) → (way && not true) ≡ false
never true = refl
never false = refl

pub nothing_is_barred : NothingIsBarred
nothing_is_barred m = never (is_under_way m.scheme.engine.stage)

pub ready_is_whole : ReadyIsWhole
ready_is_whole s n ready = (lawful.ready_up s n ready, lawful.ready_whole s n ready)

-- no checkpoint has a tail, so after the boot nothing is applied
no_tail : (q : EngineStage) (c : State) → items_thynvm.stands (phase_of q) c → is_applying q ≡ false
no_tail (Tail from) c stands = absurd stands
no_tail q c stands = refl

pub applies_nothing : (o : Origin) (k : CheckpointMarks) (s : Composed State) (n : Device) → Stands thynvm_scheme o k s n
    → thynvm_scheme.applies s ≡ false
applies_nothing o k s n stands = no_tail s.engine.stage s.control stands.sound.held.fits.stands

-- the hart is always free to run
pub stays_keep : StaysKeep
stays_keep o k s n t new stands stays = lawful.stays_sound o k s n t new stands refl stays

-- ---- how long epochs and boots can be

pub epochs_are_short : EpochsAreShort
epochs_are_short p r =
    let pages : p.pages ≤ 65536 = r.1.0.1 in
    let ptt : 8 ≤ p.ptt = ptt_least p r in
    let harts : p.harts ≤ 2 = harts_most p r in
    omega (arith, pages, ptt, harts)

max-least : (a b c : ℕ) → a ≤ c → b ≤ c → max a b ≤ c
max-least a b c l m = omega (arith, l, m)

-- a migration writes a slot, and has three actions more, if there may be one
migrates-few : (knows : Bool) (slot : ℕ) → (if knows then round_left slot (Write 0) else 0) ≤ slot + 3
migrates-few true slot = omega arith
migrates-few false slot = omega arith

pub boots_are_short : BootsAreShort
boots_are_short p =
    let m : ℕ = memory_blocks p in
    let z : ℕ = slot_blocks p in
    let w : ℕ = most_migration (thynvm_layouts p) p in
    let few : w ≤ z + 3 = migrates-few (knows_version_one scheme_number p) z in
    let most = max-least (round_left (m + z + 1) (Write 0)) (1 + z + 64 * p.ptt + w) (m + 2 * z + 64 * p.ptt + 4) (omega arith)
    (omega (arith, few)) in
    omega (arith, most)
