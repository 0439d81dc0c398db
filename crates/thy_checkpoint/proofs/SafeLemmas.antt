-- Whatever a cut leaves of a boot is safe; a boot begins, and every step of one is a move of the run's checkpoints.
use Rattle.std.proofs.Common.{◌≡◌, false, List, length, Option, Some, None, refl, sym, ◌∙◌, ap, subst, arith, ◌≢◌, ℕ, ◌==◌, ◌||◌, Bool, true, if◌then◌else◌, inl, inr}
use Rattle.std.proofs.lemmas.Bool.{ne_eqb}
use Rattle.thy_block.specs.declared.block.Block.{Block}
use Rattle.thy_block.specs.declared.parameters.Parameters.{Parameters}
use Rattle.thy_block.specs.Device.{Device, IsFramed, HasFailed}
use Rattle.thy_block.specs.declared.mark.Mark.{Mark}
use Rattle.thy_layout.specs.Saved.{Kept, guarded, Saved}
use Rattle.thy_layout.proofs.SparesLemmas.{Spares-failed}
use Rattle.thy_isa.specs.Step.{State}
use Rattle.thy_layout.specs.Layout.{looked_by, reading}
use Rattle.thy_computer.specs.Action.{Action, FailsTo, is_commit_write, doubt_after_fault, IsAfter, IsLeftBy}
use Rattle.thy_computer.proofs.ActionLemmas.{down-after, length-after, after-is}
use Rattle.thy_computer.specs.Booting.{loading_view, boot_did}
use Rattle.thy_computer.specs.Origin.{Origin}
use Rattle.thy_computer.specs.Safe.{Safe}
use Rattle.thy_computer.specs.Views.{doubt_of}
use Rattle.thy_computer.proofs.SafeLemmas.{Safe-same}
use Rattle.thy_computer.specs.CoreStep.{CoreStep}
use Rattle.thy_computer.specs.Keeps.{Keeps, doubt_in, finding_view}
use Rattle.thy_computer.specs.Moves.{IsKeeping, standing, Move, Goes, Standing}
use Rattle.thy_computer.proofs.KeepsLemmas.{Keeps-empty, IsKeeping-move, Safe-kept, Safe-sealed}
use Rattle.thy_computer.specs.declared.round.Round.{Round}
use Rattle.thy_computer.specs.declared.round.Round.TheVariants.{Write, Confirm, Commit}
use Rattle.thy_computer.specs.Round.{RoundWrites, IsInRound, round_action, next_round, is_written}
use Rattle.thy_computer.proofs.RoundLemmas.{next_by, next_inside, rounds_write}
use Rattle.thy_computer.specs.Rounds.{saved_in, saved_after_fault}
use Rattle.thy_checkpoint.specs.declared.boot_stage.Stage.{Stage}
use Rattle.thy_checkpoint.specs.declared.boot_stage.Stage.TheVariants.{Reads, Loads, Migrates, Over}
use Rattle.thy_checkpoint.specs.Boot.{Booting, layout_in, at_stage, answer_at, answer_of}
use Rattle.thy_checkpoint.specs.Filling.{FillingOf, IsFilling, layout_at, first_by, anew, First}
use Rattle.thy_checkpoint.specs.Migrating.{renewing, migrated_by, MigratesOn}
use Rattle.thy_checkpoint.specs.Loads.{first_writes, loads_on}
use Rattle.thy_checkpoint.specs.Recovers.{HasReadAt, HasRead}
use Rattle.thy_checkpoint.specs.Sound.{layout_for, sealed_by, standing_in_boot, IsSoundAt, BootImages, first_of, start_mark, IsLoading, IsMigrating, images_after, IsRecovering, IsSoundBoot}
use Rattle.thy_checkpoint.specs.Start.{CanStart}
use Rattle.thy_checkpoint.specs.Steps.{CanStepAt, StepsAt, action_at, ReadsOn, LoadsOn}
use Rattle.thy_checkpoint.specs.Laws.{NewIsSound, SoundMayStep, MayGoOn, IsGoing, SoundIsSafe, standing_after_fault, FailuresMove, StepsMove}
use Rattle.thy_checkpoint.proofs.LoadLemmas.{slot_some}
use Rattle.thy_checkpoint.proofs.ReadLemmas.{HasRead-new}
use Rattle.thy_checkpoint.proofs.StartLemmas.{CanStart-origin}
use Rattle.thy_checkpoint.specs.declared.boot_stage.ReadStage.{ReadStage}
use Rattle.thy_checkpoint.specs.declared.boot_stage.ReadStage.TheVariants.{Unread, Refusing}
use Rattle.thy_checkpoint.specs.declared.boot_stage.End.TheVariants.{Restored, Loaded}
use Rattle.thy_checkpoint.specs.Reads.{read_action}
use Rattle.thy_checkpoint.specs.Shows.{restored_view, seen_at}
use Rattle.thy_checkpoint.proofs.FoundLemmas.{reading_of, boots, read-moves, found-sound, shows}
use Rattle.thy_checkpoint.proofs.MigrationLemmas.{migration_fails, apart, load_fails, load_moves, made_on, sound_then, migration_moves, migrates_on}

module _ {C : Type 0} (F : FillingOf C) (laws : IsFilling F) where
  pub new_is_sound : NewIsSound F
  new_is_sound o g n c fresh same before_is sized settled meant = record {
    geometry = refl;
    same_p = same;
    keeps = subst (λ (h : List Block). Keeps o (layout_for F o) n (Kept h) g.kept (sealed_by o g.kept)) (sym before_is)
        (Keeps-empty o (layout_for F o) n g.kept (sealed_by o g.kept) sized settled meant);
    so_far = record { before_is = before_is; read = HasRead-new F o.geometry n c fresh same sized settled };
  }

  pub sound_may_step : SoundMayStep F
  sound_may_step o g n b c origin sound going up = by_stage b.stage sound.so_far sound.keeps going where
    by_stage : (q : Stage) → IsSoundAt F o q g n b c → IsKeeping o (layout_for F o) (standing_in_boot o q g n) → IsGoing q
        → CanStepAt F q o.start n b c
    by_stage (Reads stage) at k going = at.read
    by_stage (Loads r) at k going = record {
      start = subst (λ (p : Parameters). CanStart p o.start) (sym sound.geometry) (CanStart-origin o origin);
      there = subst (λ (p : Parameters). IsInRound (first_writes (first_by F p o.start)).blocks r) (sym sound.geometry) at.there;
      sized = k.sized ∙ ap (λ (p : Parameters). (layout_at F p).image_blocks) (sym sound.geometry);
      up = up;
    }
    by_stage (Migrates r) at k going = record {
      there = at.there;
      sized = k.sized ∙ ap (λ (p : Parameters). (layout_at F p).image_blocks) (sym sound.geometry);
      up = up;
    }
    by_stage (Over end) at k going = absurd going

  -- after an action of loading or of a migration the next one may be taken
  load_on : (s : State) (b : Booting) (c : C) (x : Device) (q : Option Round) → CanStart b.p s
      → ((r : Round) → q ≡ Some r → IsInRound (first_writes (first_by F b.p s)).blocks r)
      → length x.image ≡ (layout_in F b).image_blocks → x.down ≡ false → IsGoing (loads_on q)
      → CanStepAt F (loads_on q) s x (at_stage (loads_on q) b) c
  load_on s b c x (Some r) start there sized up going = record { start = start; there = there r refl; sized = sized; up = up }
  load_on s b c x None start there sized up going = absurd going

  migration_on : (s : State) (b : Booting) (c : C) (r : Round) (x : Device) → IsInRound (renewing F b).blocks r
      → length x.image ≡ (layout_in F b).image_blocks
      → x.down ≡ false → IsGoing (migrated_by F r b).stage → CanStepAt F (migrated_by F r b).stage s x (migrated_by F r b) c
  migration_on s b c (Write k) x there sized up going =
      record {
        there = next_by (λ (q : Round). IsInRound (renewing F b).blocks q) k (renewing F b).blocks (λ more. more) (λ last. tt);
        sized = sized;
        up = up;
      }
  migration_on s b c Confirm x there sized up going = absurd going
  migration_on s b c r x there sized up going = record { there = tt; sized = sized; up = up }

  pub same_geometry : (b : Booting) (r : Round) → (migrated_by F r b).p ≡ b.p
  same_geometry b Confirm = refl
  same_geometry b r = refl

  -- a step after a step
  pub may_go_on : MayGoOn F
  may_go_on s n b c m d e start up can steps going = by_stage b.stage can steps where
    -- what may be read or loaded next, by the stage
    next_read : (q : Stage) → HasReadAt F q m d e → IsGoing q → CanStart d.p s → HasRead F m d e → m.down ≡ false → CanStepAt F q s m d e
    next_read (Reads stage) f going start read up = read
    next_read (Loads r) f going start read up = record {
      start = start;
      there = subst (λ (q : Round). IsInRound (first_writes (first_by F d.p s)).blocks q) (sym f.2) (omega arith);
      sized = read.sized;
      up = up;
    }
    next_read (Migrates r) f going start read up = record {
      there = subst (λ (q : Round). IsInRound (renewing F d).blocks q) (sym f.first) (slot_some F laws d.p (anew d.commit));
      sized = read.sized;
      up = up;
    }
    next_read (Over end) f going start read up = absurd going

    by_stage : (q : Stage) → CanStepAt F q s n b c → StepsAt F q s n b c m d e → (d.p ≡ b.p) × (m.down ≡ false) × CanStepAt F d.stage s m d e
    by_stage (Reads stage) can on =
        let still : m.down ≡ false = ap (λ (x : Device). x.down) on.device ∙ up in
        let fits : CanStart d.p s = subst (λ (p : Parameters). CanStart p s) (sym on.same_p) start in
        (on.same_p, still, next_read d.stage on.read.so_far going fits on.read still)
    by_stage (Loads r) can l =
        let w : RoundWrites = first_writes (first_by F b.p s) in
        let q : Stage = loads_on (next_round w.blocks r) in
        let still : m.down ≡ false = down-after (round_action w r) n m l.device ∙ up in
        let going_q : IsGoing q = subst (λ (y : Booting). IsGoing y.stage) l.boot going in
        let next : CanStepAt F q s m (at_stage q b) c
        = load_on s b c m (next_round w.blocks r) start (λ y e. next_inside w.blocks r y e)
        (length-after (round_action w r) n m l.device ∙ can.sized) still going_q in (
          ap (λ (y : Booting). y.p) l.boot,
          still,
          coe 1 0 (i. CanStepAt F (l.boot i).stage s m (l.boot i) (l.control i)) next,
        )
    by_stage (Migrates r) can l =
        let a : Action = round_action (renewing F b) r in
        let still : m.down ≡ false = down-after a n m l.device ∙ up in
        let going_q : IsGoing (migrated_by F r b).stage = subst (λ (y : Booting). IsGoing y.stage) l.boot going in
        let next : CanStepAt F (migrated_by F r b).stage s m (migrated_by F r b) c
        = migration_on s b c r m can.there (length-after a n m l.device ∙ can.sized) still going_q in (
          ap (λ (y : Booting). y.p) l.boot ∙ same_geometry b r,
          still,
          coe 1 0 (i. CanStepAt F (l.boot i).stage s m (l.boot i) (l.control i)) next,
        )
    by_stage (Over end) can l = absurd can

-- no mark is in doubt if none is sealed
none-in : (s : Saved) → doubt_in s None ≡ None
none-in (Kept before) = refl
none-in s = refl

none-either : (t : Bool) → None ≡ (let k : Option Mark = if t then None else None in k)
none-either true = refl
none-either false = refl

-- a boot of a run is of its geometry
pub as_geometry : (o : Origin) (b : Booting) → b.p ≡ o.geometry → record b { p = o.geometry } ≡ b
as_geometry o b h = ap (λ (p : Parameters). record b { p = p }) (sym h)

-- a write elsewhere is not a commit block's
elsewhere : (o : Origin) (x : ℕ) → x ≢ 1 → None ≡ (if (x == 1) || false then Some (start_mark o) else None)
elsewhere o x other = sym (ap (λ (b : Bool). if b || false then Some (start_mark o) else None) (ne_eqb x 1 other))

module _ {C : Type 0} (F : FillingOf C) (laws : IsFilling F) where
  -- ---- what is safe

  module _ (o : Origin) (g : BootImages) (n : Device) where
    abbrev IsSafe : Option Mark → Option Mark → Type 0
    IsSafe done doubt = Safe (reading F.layouts) o done doubt n

    reads : (kept : Option Mark) → IsSafe kept None
        → IsSafe (finding_view o.start.count kept).done (doubt_of (finding_view o.start.count kept))
    reads None safe = safe
    reads (Some m) safe = safe

    restored : (kept : Option Mark) → IsSafe kept None → IsSafe (restored_view o kept).done (doubt_of (restored_view o kept))
    restored None safe = safe
    restored (Some m) safe = safe

    kept : IsKeeping o (layout_for F o) (reading_of o g n) → IsSafe g.kept None
    kept k = Safe-kept F.layouts o n (Kept g.before) g.kept (sealed_by o g.kept) k

    loading : (r : Round) → IsKeeping o (layout_for F o) (standing_in_boot o (Loads r) g n)
        → IsSafe None (doubt_in (saved_in r g.before g.next) (Some (start_mark o)))
    loading r k = Safe-kept F.layouts o n (saved_in r g.before g.next) None (Some (start_mark o)) k

    -- both images of a migration are the mark's that is kept
    migrating : (kept : Option Mark) (s : Saved) → IsKeeping o (layout_for F o) (standing n s kept kept)
        → IsSafe (finding_view o.start.count kept).done (doubt_of (finding_view o.start.count kept))
    migrating None s k = subst (λ (x : Option Mark). IsSafe None x) (none-in s) (Safe-kept F.layouts o n s None None k)
    migrating (Some m) s k = Safe-same (reading F.layouts) o m n (Safe-sealed F.layouts o n s (Some m) (Some m) k)

    safe_at : (q : Stage) → IsKeeping o (layout_for F o) (standing_in_boot o q g n)
        → IsSafe (seen_at o g.kept q).done (doubt_of (seen_at o g.kept q))
    safe_at (Reads at) k = reads g.kept (kept k)
    safe_at (Loads (Write j)) k = loading (Write j) k
    safe_at (Loads r) k = loading r k
    safe_at (Migrates r) k = migrating g.kept (saved_in r g.before g.next) k
    safe_at (Over Restored) k = restored g.kept (kept k)
    safe_at (Over Loaded) k = Safe-kept F.layouts o n (Kept g.next) (Some (start_mark o)) None k

  pub sound_is_safe : SoundIsSafe F
  sound_is_safe o g n b c sound = safe_at o g n b.stage sound.keeps

  -- ---- steps that failed

  fails_read : (o : Origin) (g : BootImages) (n m : Device) → HasFailed n m → IsFramed n m
      → Move o (layout_for F o) (reading_of o g n) (reading_of o g m)
  fails_read o g n m failed framed =
      Goes (Kept g.before) g.kept (sealed_by o g.kept) n m (Spares-failed (guarded (looked_by (layout_for F o)) (Kept g.before)) n m failed framed)

  -- a read is not a commit block's write
  reads_no_commit : (b : Booting) (c : C) (r : ReadStage) → is_commit_write (read_action F b c r) ≡ false
  reads_no_commit b c Unread = refl
  reads_no_commit b c r = refl

  -- a read of a boot that failed wrote nothing
  pub read_failed : (b : Booting) (c : C) (r : ReadStage) (n m : Device) → FailsTo (read_action F b c r) n m → HasFailed n m
  read_failed b c (Refusing bad) n m f = absurd f
  read_failed b c r n m f = f

  -- after a read of the boot that failed, what is kept is safe
  seen_safe : (o : Origin) (m : Device) (a : Action) (kept : Option Mark) → is_commit_write a ≡ false
      → Safe (reading F.layouts) o kept None m
      → Safe (reading F.layouts) o (finding_view o.start.count kept).done (doubt_after_fault a (finding_view o.start.count kept)) m
  seen_safe o m a None spared safe =
      subst (λ (b : Bool). Safe (reading F.layouts) o None (if b || false then Some (start_mark o) else None) m) (sym spared) safe
  seen_safe o m a (Some k) spared safe =
      subst (λ (b : Bool). Safe (reading F.layouts) o (Some k) (if b || false then None else None) m) (sym spared) safe

  abbrev Failure : Origin → BootImages → Device → Stage → Action → Device → Type 0
  Failure o g n q a m =
      Move o (layout_for F o) (standing_in_boot o q g n) (standing_after_fault o q g m)
      × Safe (reading F.layouts) o (seen_at o g.kept q).done (doubt_after_fault a (seen_at o g.kept q)) m

  read_failure : (o : Origin) (g : BootImages) (n m : Device) (a : Action) → is_commit_write a ≡ false
      → IsKeeping o (layout_for F o) (reading_of o g n) → HasFailed n m → IsFramed n m
      → Move o (layout_for F o) (reading_of o g n) (reading_of o g m)
      × Safe (reading F.layouts) o (finding_view o.start.count g.kept).done (doubt_after_fault a (finding_view o.start.count g.kept)) m
  read_failure o g n m a spared k failed framed =
      let move = fails_read o g n m failed framed in (
        move,
        seen_safe o m a g.kept spared (kept o g m (IsKeeping-move o (layout_for F o) (reading_of o g n) (reading_of o g m) move k)),
      )

  module _ (o : Origin) (starts : CanStart o.geometry o.start) (g : BootImages) where
    abbrev w : RoundWrites
    w = first_writes (first_of F o)

    -- the mark in doubt then is the start's if the action was its commit block's write, or came after it
    loading_doubt : (r : Round) → IsInRound w.blocks r → doubt_in (saved_after_fault r g.before g.next) (Some (start_mark o))
        ≡ doubt_after_fault (round_action w r) (record (loading_view o.start.count) { written = is_written r })
    loading_doubt (Write k) inside = elsewhere o (w.place k) ((apart F laws o starts).elsewhere k inside)
    loading_doubt r inside = refl

    load_failure : (n m : Device) (r : Round) (c : C) → IsLoading F o r g n c
        → IsKeeping o (layout_for F o) (standing_in_boot o (Loads r) g n)
        → FailsTo (round_action w r) n m → IsFramed n m → Failure o g n (Loads r) (round_action w r) m
    load_failure n m r c at k failed framed =
        let move = load_fails F laws o starts g n r at.there k at.made at.stood m failed framed in
        let kept : IsKeeping o (layout_for F o) (standing_after_fault o (Loads r) g m)
        = IsKeeping-move o (layout_for F o) (standing_in_boot o (Loads r) g n) (standing_after_fault o (Loads r) g m) move k in
        let safe = Safe-kept F.layouts o m (saved_after_fault r g.before g.next) None (Some (start_mark o)) kept in
        (move, subst (λ (d : Option Mark). Safe (reading F.layouts) o None d m) (loading_doubt r at.there) safe)

  -- a migration's action that failed
  migration_failure : (o : Origin) (g : BootImages) (n m : Device) (b : Booting) (c : C) (r : Round) → F.p c ≡ o.geometry → b.p ≡ o.geometry
      → IsMigrating F o r g n b c → IsKeeping o (layout_for F o) (standing_in_boot o (Migrates r) g n)
      → FailsTo (round_action (renewing F b) r) n m → IsFramed n m
      → Failure o g n (Migrates r) (round_action (renewing F b) r) m
  migration_failure o g n m b c r same geometry there k failed framed =
      let a : Action = round_action (renewing F b) r in
      let move : Move o (layout_for F o) (standing_in_boot o (Migrates r) g n) (standing_after_fault o (Migrates r) g m)
      = subst (λ (x : Booting). IsMigrating F o r g n x c → FailsTo (round_action (renewing F x) r) n m
      → Move o (layout_for F o) (standing_in_boot o (Migrates r) g n) (standing_after_fault o (Migrates r) g m)) (as_geometry o b geometry)
      (λ is f. migration_fails F laws o (first_of F o) b c same g n r is k m f framed) there failed in
      let kept : IsKeeping o (layout_for F o) (standing_after_fault o (Migrates r) g m)
      = IsKeeping-move o (layout_for F o) (standing_in_boot o (Migrates r) g n) (standing_after_fault o (Migrates r) g m) move k in
      let s : Saved = saved_after_fault r g.before g.next in
      let both : IsKeeping o (layout_for F o) (standing m s (Some there.m) (Some there.m))
      = subst (λ (x : Option Mark). IsKeeping o (layout_for F o) (standing m s x x)) there.kept kept in
      let safe : Safe (reading F.layouts) o (Some there.m) None m
      = Safe-same (reading F.layouts) o there.m m (Safe-sealed F.layouts o m s (Some there.m) (Some there.m) both) in (
        move,
        subst (λ (x : Option Mark). Safe (reading F.layouts) o (finding_view o.start.count x).done
            (doubt_after_fault a (finding_view o.start.count x)) m)
            (sym there.kept) (subst (λ x. Safe (reading F.layouts) o (Some there.m) x m) (none-either (is_commit_write a || false)) safe),
      )

  pub failures_move : FailuresMove F
  failures_move o g n b c m origin sound going fails framed =
      let r = by_stage b.stage sound.so_far sound.keeps going fails in
      record { move = r.0; safe = r.1 }
    where
      by_stage : (q : Stage) → IsSoundAt F o q g n b c → IsKeeping o (layout_for F o) (standing_in_boot o q g n) → IsGoing q
          → FailsTo (action_at F q o.start b c) n m → Failure o g n q (action_at F q o.start b c) m
      by_stage (Reads r) there k going f = read_failure o g n m (read_action F b c r) (reads_no_commit b c r) k (read_failed b c r n m f) framed
      by_stage (Loads r) there k going f =
          let starts : CanStart o.geometry o.start = CanStart-origin o origin in
          subst (λ (p : Parameters). Failure o g n (Loads r) (round_action (first_writes (first_by F p o.start)) r) m) (sym sound.geometry)
          (load_failure o starts g n m r c there k
          (subst (λ (p : Parameters). FailsTo (round_action (first_writes (first_by F p o.start)) r) n m) sound.geometry f) framed)
      by_stage (Migrates r) there k going f = migration_failure o g n m b c r sound.same_p sound.geometry there k f framed
      by_stage (Over end) there k going f = absurd going

module _ {C : Type 0} (F : FillingOf C) (laws : IsFilling F) where
  abbrev Outcome : Origin → BootImages → Device → Stage → Device → Booting → C → Type 0
  Outcome o g n q m d e =
      Move o (layout_for F o) (standing_in_boot o q g n) (standing_in_boot o d.stage (images_after (first_of F o) q n g) m)
      × IsSoundBoot F o (images_after (first_of F o) q n g) m d e
      × CoreStep o (seen_at o g.kept q) (boot_did (answer_of F d)) (seen_at o g.kept d.stage)

  -- how the view changes while the program is loaded
  load_shows : (o : Origin) (kept : Option Mark) (blocks : ℕ) (r : Round) (d : Booting)
      → CoreStep o (seen_at o kept (Loads r)) (boot_did (answer_at F (loads_on (next_round blocks r)) d))
      (seen_at o kept (loads_on (next_round blocks r)))
  load_shows o kept blocks (Write k) d =
      next_by (λ (q : Round). CoreStep o (seen_at o kept (Loads (Write k))) (boot_did (answer_at F (Loads q) d)) (seen_at o kept (Loads q))) k blocks
      (λ more. (refl, inl refl)) (λ last. (refl, inl refl))
  load_shows o kept blocks Commit d = (refl, inr (refl, refl))
  load_shows o kept blocks Confirm d = record { phase = refl; none = refl; written = refl; sealed = refl; becomes = refl }
  load_shows o kept blocks r d = (refl, inl refl)

  module _ (o : Origin) (starts : CanStart o.geometry o.start) (g : BootImages) (n : Device) (b : Booting) (c : C)
      (geometry : b.p ≡ o.geometry) where
    read_outcome : (r : ReadStage) (m : Device) (d : Booting) (e : C) → IsRecovering F g n b c
        → IsKeeping o (layout_for F o) (reading_of o g n)
        → ReadsOn F r n b c m d e → Outcome o g n (Reads r) m d e
    read_outcome r m d e rec k on =
        let before_is : g.before ≡ m.image = rec.before_is ∙ ap (λ (x : Device). x.image) (sym on.device) in
        let same : d.p ≡ o.geometry = on.same_p ∙ geometry in
        let move : Move o (layout_for F o) (reading_of o g n) (standing_in_boot o d.stage g m)
        = read-moves F laws o g m d e before_is same k.meant on.read n on.device d.stage on.read.so_far in (
          move,
          record {
            geometry = same;
            same_p = on.read.same_p ∙ same;
            keeps = IsKeeping-move o (layout_for F o) (reading_of o g n) (standing_in_boot o d.stage g m) move k;
            so_far = found-sound F laws o g m d e before_is same k.meant on.read d.stage on.read.so_far;
          },
          shows F laws o g m d e before_is same k.meant on.read d.stage on.read.so_far,
        )

    abbrev f : First
    f = first_of F o

    abbrev ws : RoundWrites
    ws = first_writes (first_of F o)

    load_outcome : F.p c ≡ o.geometry → (r : Round) (m : Device) → IsAfter (round_action ws r) n m → IsLoading F o r g n c
        → IsKeeping o (layout_for F o) (standing_in_boot o (Loads r) g n)
        → Outcome o g n (Loads r) m (at_stage (loads_on (next_round ws.blocks r)) b) c
    load_outcome same r m left at k =
        let q : Stage = loads_on (next_round ws.blocks r) in
        let h : BootImages = images_after f (Loads r) n g in
        let move = load_moves F laws o starts g n r at.there k at.made at.stood m (after-is (round_action ws r) n m left) in (
          move,
          record {
            geometry = geometry;
            same_p = same;
            keeps = IsKeeping-move o (layout_for F o) (standing_in_boot o (Loads r) g n) (standing_in_boot o q h m) move k;
            so_far = sound_then F laws o starts (at_stage q b) c h m at.fresh at.none (length-after (round_action ws r) n m left ∙ k.sized)
                (next_round ws.blocks r)
                (rounds_write ws (layout_for F o).image_blocks r n m (apart F laws o starts) k.sized at.there at.stood
                (after-is (round_action ws r) n m left))
                (made_on F laws o starts g n r at.there k at.made at.stood);
          },
          load_shows o g.kept ws.blocks r (at_stage q b),
        )

    load_outcome_is : F.p c ≡ o.geometry → (r : Round) (m : Device) (d : Booting) (e : C) → IsLoading F o r g n c
        → IsKeeping o (layout_for F o) (standing_in_boot o (Loads r) g n) → LoadsOn F o.start r n b c m d e → Outcome o g n (Loads r) m d e
    load_outcome_is same r m d e at k l =
        let q : Stage = loads_on (next_round ws.blocks r) in
        let left : IsAfter (round_action ws r) n m
        = subst (λ (p : Parameters). IsAfter (round_action (first_writes (first_by F p o.start)) r) n m) geometry l.device in
        let d_is : d ≡ at_stage q b = l.boot
        ∙ ap (λ (p : Parameters). at_stage (loads_on (next_round (first_writes (first_by F p o.start)).blocks r)) b) geometry in
        coe 1 0 (i. Outcome o g n (Loads r) m (d_is i) (l.control i)) (load_outcome same r m left at k)

  -- an action of a migration
  module _ (o : Origin) (g : BootImages) (n new : Device) (c : C) (same : F.p c ≡ o.geometry) (r : Round) where
    abbrev images : BootImages
    images = images_after (first_of F o) (Migrates r) n g

    -- where a migration stands after its action
    abbrev then_at : Booting → Standing
    then_at b = standing_in_boot o (migrated_by F r b).stage images new

    migration_shows : (b : Booting) → b.p ≡ o.geometry → IsKeeping o (layout_for F o) (then_at b)
        → IsSoundAt F o (migrated_by F r b).stage images new (migrated_by F r b) c
        → CoreStep o (seen_at o g.kept (Migrates r)) (boot_did (answer_of F (migrated_by F r b)))
        (seen_at o g.kept (migrated_by F r b).stage)
    migration_shows b geometry = by_round r where
      by_round : (k : Round) → (let h : BootImages = images_after (first_of F o) (Migrates k) n g in
          IsKeeping o (layout_for F o) (standing_in_boot o (migrated_by F k b).stage h new)
          → IsSoundAt F o (migrated_by F k b).stage h new (migrated_by F k b) c
          → CoreStep o (seen_at o g.kept (Migrates k)) (boot_did (answer_of F (migrated_by F k b)))
          (seen_at o g.kept (migrated_by F k b).stage))
      by_round Confirm keeps sound =
          shows F laws o (images_after (first_of F o) (Migrates Confirm) n g) new (migrated_by F Confirm b) c
          sound.before_is geometry keeps.meant sound.read (Over Restored) sound.read.so_far
      by_round k keeps sound = (boots o.start.count g.kept, inl refl)

    migration_outcome : (b : Booting) → b.p ≡ o.geometry → IsLeftBy (round_action (renewing F b) r) n new
        → IsKeeping o (layout_for F o) (standing_in_boot o (Migrates r) g n) → IsMigrating F o r g n b c
        → Outcome o g n (Migrates r) new (migrated_by F r b) c
    migration_outcome b geometry left k there =
        let on = subst (λ (x : Booting). IsLeftBy (round_action (renewing F x) r) n new → IsMigrating F o r g n x c
        → Move o (layout_for F o) (standing_in_boot o (Migrates r) g n) (then_at x)
        × IsSoundAt F o (migrated_by F r x).stage images new (migrated_by F r x) c) (as_geometry o b geometry)
        (λ acted is. (
          migration_moves F laws o (first_of F o) b c same g n r new acted is k,
          migrates_on F laws o (first_of F o) b c same g n r new acted is k,
        )) left there in
        let keeps = IsKeeping-move o (layout_for F o) (standing_in_boot o (Migrates r) g n) (then_at b) on.0 k in (
          on.0,
          record { geometry = same_geometry F laws b r ∙ geometry; same_p = same; keeps = keeps; so_far = on.1 },
          migration_shows b geometry keeps on.1,
        )

    pub migration_outcome_is : (b d : Booting) (e : C) → b.p ≡ o.geometry
        → IsKeeping o (layout_for F o) (standing_in_boot o (Migrates r) g n)
        → IsMigrating F o r g n b c → MigratesOn F r n b c new d e → Outcome o g n (Migrates r) new d e
    migration_outcome_is b d e geometry k there l =
        coe 1 0 (i. Outcome o g n (Migrates r) new (l.boot i) (l.control i))
        (migration_outcome b geometry (after-is (round_action (renewing F b) r) n new l.device) k there)

  pub steps_move : StepsMove F
  steps_move o g n b c m d e origin sound steps =
      let r = by_stage b.stage sound.so_far sound.keeps steps in
      record { move = r.0; sound = r.1; shows = r.2 }
    where
      starts : CanStart o.geometry o.start
      starts = CanStart-origin o origin

      by_stage : (q : Stage) → IsSoundAt F o q g n b c → IsKeeping o (layout_for F o) (standing_in_boot o q g n)
          → StepsAt F q o.start n b c m d e
          → Outcome o g n q m d e
      by_stage (Reads r) at k on = read_outcome o starts g n b c sound.geometry r m d e at k on
      by_stage (Loads r) at k l = load_outcome_is o starts g n b c sound.geometry sound.same_p r m d e at k l
      by_stage (Migrates r) at k l = migration_outcome_is o g n m c sound.same_p r b d e sound.geometry k at l
      by_stage (Over end) at k l = absurd l
