-- A step acts once on the NVM, and comes nearer; put together of what its calls left, it is a step that was taken.
use Rattle.std.proofs.Common.{◌≡◌, ◌≢◌, ℕ, ◌+◌, ◌≤◌, Bool, true, false, Option, Some, None, refl, sym, ap, subst, inl, arith, ◌*◌, ◌<◌, if◌then◌else◌, length, Result, Ok, Err, OnOk, OnErr, ◌∙◌}
use Rattle.std.proofs.lemmas.Bool.{ltb-true}
use Rattle.thy_block.specs.Device.{Device, newest}
use Rattle.thy_block.specs.declared.nvm.NvmError.{NvmError}
use Rattle.thy_block.proofs.WrittenLemmas.{length-written}
use Rattle.thy_isa.specs.Step.{State}
use Rattle.thy_layout.specs.declared.bad_image.BadImage.{BadImage}
use Rattle.thy_layout.specs.Commit.{commit_of, is_zero}
use Rattle.thy_layout.specs.declared.layout_version.LayoutVersion.{LayoutVersion}
use Rattle.thy_layout.specs.declared.layout_version.LayoutVersion.TheVariants.{VersionOne, VersionTwo}
use Rattle.thy_computer.specs.Action.{Rest, FailsTo, IsBootAction, Asks, AsksBy, ActsBy, IsAfter}
use Rattle.thy_computer.specs.Booting.{boot_did}
use Rattle.thy_computer.specs.Dram.{ActsOnDram}
use Rattle.thy_computer.specs.declared.round.Round.{Round}
use Rattle.thy_computer.specs.declared.round.Round.TheVariants.{Write, Confirm}
use Rattle.thy_computer.specs.Round.{RoundWrites, IsInRound, round_action, next_round, round_left}
use Rattle.thy_computer.proofs.RoundLemmas.{left_then, round_counts, round_asks, next_by}
use Rattle.thy_checkpoint.specs.declared.boot_stage.Stage.{Stage}
use Rattle.thy_checkpoint.specs.declared.boot_stage.Stage.TheVariants.{Reads, Loads, Migrates, Over}
use Rattle.thy_checkpoint.specs.declared.boot_stage.ReadStage.{ReadStage}
use Rattle.thy_checkpoint.specs.declared.boot_stage.ReadStage.TheVariants.{Unread, Slot as ReadsSlot, Fills, Refusing, Header, Slot}
use Rattle.thy_checkpoint.specs.declared.boot_stage.End.TheVariants.{Loaded}
use Rattle.thy_checkpoint.specs.Boot.{Booting, layout_in, slot_fault, at_stage, answer_at, answer_of, has_more, IsJudged, GoesOn, IsBoot, IsThere, slot_read, version_in, refusing_or, after_commit, head_fault, after_header, after_slot, filled_by, filling_or, filling_from}
use Rattle.thy_checkpoint.specs.Filling.{FillingOf, IsFilling, first_by, anew}
use Rattle.thy_checkpoint.specs.Left.{reads_left, numbers_of, boot_left}
use Rattle.thy_checkpoint.specs.Loads.{first_writes, loads_on, Takes}
use Rattle.thy_checkpoint.specs.Reads.{read_action, slot_kept, FillsOn, read_on, IsBlock}
use Rattle.thy_checkpoint.specs.Recovers.{HasReadAt, IsNearer, HasRead}
use Rattle.thy_checkpoint.specs.Migrating.{renewing, migrated_by, CanMigrate}
use Rattle.thy_checkpoint.specs.Shows.{migrates_at, seen_at}
use Rattle.thy_checkpoint.specs.Steps.{CanStepAt, StepsAt, action_at, ReadsOn, TakesStep}
use Rattle.thy_checkpoint.specs.Laws.{StepsAct, FoundStays, failed_answer, FailuresAct, StepsFill, StepsComeNearer}
use Rattle.thy_checkpoint.proofs.LoadLemmas.{length-first, slot_some}
use Rattle.thy_checkpoint.proofs.NearerLemmas.{nearer_commit, nearer_header, nearer_slot, nearer_fill}
use Rattle.thy_checkpoint.proofs.SlotLemmas.{length-renewed}
use Rattle.thy_checkpoint.proofs.ReadLemmas.{commit-found, header-found, slot-found, fill-found}

load_asks : (w : RoundWrites) (r : Round) → Asks (boot_did (failed_answer (Loads r))) (round_action w r)
load_asks w Confirm = refl
load_asks w r = tt

module _ {C : Type 0} (F : FillingOf C) (laws : IsFilling F) where
  load_acts : (w : RoundWrites) (r : Round) (d : Booting)
      → Asks (boot_did (answer_at F (loads_on (next_round w.blocks r)) d)) (round_action w r)
  load_acts w Confirm d = refl
  load_acts w r d = tt

  read_acts : (q : Stage) (m : Device) (d : Booting) (e : C) → HasReadAt F q m d e → Asks (boot_did (answer_at F q d)) Rest
  read_acts (Reads Unread) m d e f = tt
  read_acts (Over Loaded) m d e f = absurd f
  read_acts q m d e f = tt

  migration_acts : (b : Booting) (r : Round) → AsksBy true (boot_did (answer_of F (migrated_by F r b))) (round_action (renewing F b) r)
  migration_acts b Confirm = tt
  migration_acts b r = tt

  pub steps_act : StepsAct F
  steps_act s n b c m d e steps = by_stage b.stage steps where
    by_stage : (q : Stage) → StepsAt F q s n b c m d e → ActsBy (migrates_at q) (boot_did (answer_of F d)) n m
    by_stage (Reads at) on = record { action = Rest; asked = read_acts d.stage m d e on.read.so_far; left = on.device }
    by_stage (Loads r) l =
        let w : RoundWrites = first_writes (first_by F b.p s) in
        record {
          action = round_action w r;
          asked = subst (λ (x : Booting). Asks (boot_did (answer_of F x)) (round_action w r)) (sym l.boot)
              (load_acts w r (at_stage (loads_on (next_round w.blocks r)) b));
          left = l.device;
        }
    by_stage (Migrates r) l = record {
      action = round_action (renewing F b) r;
      asked = subst (λ (x : Booting). AsksBy true (boot_did (answer_of F x)) (round_action (renewing F b) r)) (sym l.boot) (migration_acts b r);
      left = l.device;
    }
    by_stage (Over end) l = absurd l

  pub found_stays : FoundStays F
  found_stays o kept mark n b c m d e done only steps = by_stage b.stage done only steps where
    by_stage : (q : Stage) → (seen_at o kept q).done ≡ Some mark → migrates_at q ≡ false → StepsAt F q o.start n b c m d e → m ≡ n
    by_stage (Reads r) done only on = on.device
    by_stage (Loads r) done only l = let both : None ≡ Some mark = done in absurd (cc)
    by_stage (Migrates r) done only l = let both : true ≡ false = only in absurd (cc)
    by_stage (Over end) done only l = absurd l

  -- a read is asked for by a step of the boot; a refusal that comes again is not a read, and does not fail
  read_asks : (b : Booting) (c : C) (r : ReadStage) (n m : Device) → FailsTo (read_action F b c r) n m → IsBootAction (read_action F b c r)
  read_asks b c (Refusing bad) n m f = absurd f
  read_asks b c r n m f = tt

  pub failures_act : FailuresAct F
  failures_act s b c n m fails = by_stage b.stage fails where
    by_stage : (q : Stage) → FailsTo (action_at F q s b c) n m → AsksBy (migrates_at q) (boot_did (failed_answer q)) (action_at F q s b c)
    by_stage (Reads r) f = read_asks b c r n m f
    by_stage (Loads r) f = load_asks (first_writes (first_by F b.p s)) r
    by_stage (Migrates r) f = round_asks (renewing F b) r
    by_stage (Over end) f = absurd f

  -- ---- the DRAM

  abbrev Filled : Device → C → C → Type 0
  Filled n c e = ActsOnDram n n (F.dram c) (F.dram e) × F.keeps c e

  same_fills : (n : Device) (c e : C) → e ≡ c → Filled n c e
  same_fills n c e h = subst (λ (x : C). Filled n c x) (sym h) (inl refl, laws.same_keeps c)

  judged_fills : (n : Device) (o : Option BadImage) (b : Booting) (c e : C) → IsJudged F o b c e → Filled n c e
  judged_fills n None b c e h = (inl h.left.same_dram, h.left.keeps)
  judged_fills n (Some bad) b c e h = same_fills n c e h

  goes_fill : (n : Device) (z : Bool) (b : Booting) (c e : C) → GoesOn F z b c e → Filled n c e
  goes_fill n true b c e h = same_fills n c e h
  goes_fill n false b c e h = judged_fills n (slot_fault F b) b c e h

  reads_fill : (r : ReadStage) (n : Device) (b : Booting) (c e : C) → FillsOn F r n b c e → Filled n c e
  reads_fill (ReadsSlot next) n b c e f = goes_fill n (has_more F next b) (slot_kept F next n b) c e f
  reads_fill (Fills k) n b c e f =
      subst (λ (x : C). Filled n c x) (sym f) (laws.fill_acts c n b.commit k, laws.fill_keeps c b.commit k (newest n (F.fill_place c b.commit k)))
  reads_fill r n b c e f = same_fills n c e f

  pub steps_fill : StepsFill F
  steps_fill s n b c m d e steps = by_stage b.stage steps where
    by_stage : (q : Stage) → StepsAt F q s n b c m d e → ActsOnDram n m (F.dram c) (F.dram e) × F.keeps c e
    by_stage (Reads r) on =
        let filled = reads_fill r n b c e on.control in
        (subst (λ (x : Device). ActsOnDram n x (F.dram c) (F.dram e)) (sym on.device) filled.0, filled.1)
    by_stage (Loads r) l = (inl (ap F.dram l.control), subst (λ (x : C). F.keeps c x) (sym l.control) (laws.same_keeps c))
    by_stage (Migrates r) l = (inl (ap F.dram l.control), subst (λ (x : C). F.keeps c x) (sym l.control) (laws.same_keeps c))
    by_stage (Over end) l = absurd l

  -- ---- how many are left

  read_nearer : (b : Booting) (r : ReadStage) (d : Booting) → IsNearer F b r d → ((bad : BadImage) → Reads r ≢ Reads (Refusing bad))
      → boot_left F d d.stage + 1 ≤ reads_left F b r
  read_nearer b (Refusing bad) d near other = absurd (other bad refl)
  read_nearer b r d near other = omega (arith, near)

  load_nearer : (b : Booting) (most : ℕ) (x : Option Round) → left_then (numbers_of F b).first x + 1 ≤ most
      → boot_left F (at_stage (loads_on x) b) (loads_on x) + 1 ≤ most
  load_nearer b most (Some r) less = less
  load_nearer b most None less = less

  migration_nearer : (b : Booting) (r : Round) → IsInRound (renewing F b).blocks r
      → boot_left F (migrated_by F r b) (migrated_by F r b).stage + 1 ≤ round_left (renewing F b).blocks r
  migration_nearer b (Write k) inside = round_counts (renewing F b).blocks (Write k) inside
  migration_nearer b r inside = omega arith

  pub steps_come_nearer : StepsComeNearer F
  steps_come_nearer s n b c m d e can steps other = by_stage b.stage can steps other where
    by_stage : (q : Stage) → CanStepAt F q s n b c → StepsAt F q s n b c m d e → ((bad : BadImage) → q ≢ Reads (Refusing bad))
        → boot_left F d d.stage + 1 ≤ boot_left F b q
    by_stage (Reads r) can on other = read_nearer b r d on.nearer other
    by_stage (Loads r) can l other =
        let w : RoundWrites = first_writes (first_by F b.p s) in
        let first : ℕ = (numbers_of F b).first in
        let is : w.blocks ≡ first = ap (λ (k : ℕ). k + (layout_in F b).slot_blocks (commit_of 0) + 1) (length-first F laws b.p s) in
        subst (λ (x : Booting). boot_left F x x.stage + 1 ≤ round_left first r) (sym l.boot)
        (load_nearer b (round_left first r) (next_round w.blocks r)
        (subst (λ (k : ℕ). left_then first (next_round k r) + 1 ≤ round_left first r) (sym is)
        (round_counts first r (subst (λ (k : ℕ). IsInRound k r) is can.there))))
    by_stage (Migrates r) can l other =
        subst (λ (x : Booting). boot_left F x x.stage + 1 ≤ round_left (renewing F b).blocks r) (sym l.boot) (migration_nearer b r can.there)
    by_stage (Over end) can l other = absurd l

module _ {C : Type 0} (F : FillingOf C) (laws : IsFilling F) where
  -- a slot has a block
  filled_there : (b : Booting) (v : LayoutVersion) → IsThere F b (filled_by v)
  filled_there b VersionOne = slot_some F laws b.p (anew b.commit)
  filled_there b VersionTwo = tt

  -- what is read next is there
  next_there : (b : Booting) (from : ℕ) → IsThere F b (filling_from F from b)
  next_there b from = by_next (F.next_fill b.p b.commit (slot_read F b) from) refl where
    by_next : (o : Option ℕ) → F.next_fill b.p b.commit (slot_read F b) from ≡ o → IsThere F b (filling_or (version_in F b) o)
    by_next None e = filled_there b (version_in F b)
    by_next (Some k) e = let above = laws.above b.p b.commit (slot_read F b) from k e in above.1

  slot_there : (b : Booting) → IsThere F b (after_slot F b)
  slot_there b = by_fault (slot_fault F b) where
    by_fault : (o : Option BadImage) → IsThere F b (refusing_or o (filling_from F 0 b))
    by_fault None = next_there b 0
    by_fault (Some bad) = tt

  same_there : (q : Stage) (b d : Booting) → d.p ≡ b.p → d.commit ≡ b.commit → IsThere F b q → IsThere F d q
  same_there (Reads (Slot k)) b d same commit h =
      subst (λ (x : ℕ). k < x) (ap (λ p. (layout_in F (record b { p = p })).slot_blocks b.commit) (sym same)
      ∙ ap (λ x. (layout_in F d).slot_blocks x) (sym commit)) h
  same_there (Reads (Fills k)) b d same commit h = subst (λ (x : ℕ). k < x) (ap F.most_fills (sym same)) h
  same_there (Migrates r) b d same commit h =
      subst (λ (x : ℕ). IsInRound x r)
      (ap (λ p. (layout_in F (record b { p = p })).slot_blocks (anew b.commit)) (sym same)
      ∙ ap (λ x. (layout_in F d).slot_blocks (anew x)) (sym commit)) h
  same_there q b d same commit h = tt

  inside_of : (b : Booting) (k : ℕ) → b.stage ≡ Reads (Slot k) → IsBoot F b → k < (layout_in F b).slot_blocks b.commit
  inside_of b k is boot = subst (λ (s : Stage). IsThere F b s) is boot.there

  fits_read : (r : ReadStage) (n : Device) (b : Booting) → b.stage ≡ Reads r → IsBoot F b → IsBlock F r n b → IsBoot F (read_on F r n b)
  fits_read Unread n b is boot block = record { room = boot.room; there = by_zero (is_zero (newest n 1)) } where
    by_zero : (z : Bool) → IsThere F (after_commit (newest n 1) b) (if z then Loads (Write 0) else Reads Header)
    by_zero true = tt
    by_zero false = tt
  fits_read Header n b is boot block =
      record { room = boot.room; there = by_fault (head_fault (layout_in F b) (newest n 0) b.commit) }
    where
      by_fault : (o : Option BadImage)
          → IsThere F (at_stage (after_header (layout_in F b) (newest n 0) b) b) (refusing_or o (Reads (Slot 0)))
      by_fault None = slot_some F laws b.p b.commit
      by_fault (Some bad) = tt
  fits_read (Slot k) n b is boot block = record { room = size; there = by_more (has_more F k b) refl } where
    size : length (slot_kept F k n b).slot ≡ 64 * (layout_in F b).most_slot
    size =
        let inside = inside_of b k is boot in
        let most = (laws.laid.slot b.p b.commit).most in
        length-written b.slot (64 * k) (newest n ((layout_in F b).slot_place b.commit + k)).0
        (omega (arith, boot.room, inside, most, block)) ∙ boot.room

    by_more : (z : Bool) → has_more F k b ≡ z
        → IsThere F (read_on F (Slot k) n b) (if z then Reads (Slot (k + 1)) else after_slot F (slot_kept F k n b))
    by_more true e = ltb-true (k + 1) ((layout_in F b).slot_blocks b.commit) e
    by_more false e = same_there (after_slot F (slot_kept F k n b)) (slot_kept F k n b) (read_on F (Slot k) n b) refl refl
        (slot_there (slot_kept F k n b))
  fits_read (Fills k) n b is boot block = record {
    room = boot.room;
    there = same_there (filling_from F (k + 1) b) b (at_stage (filling_from F (k + 1) b) b) refl refl (next_there b (k + 1));
  }
  fits_read (Refusing bad) n b is boot block = boot

  -- a step of a boot in which a block was read
  reads_on : (r : ReadStage) (n : Device) (b : Booting) (c e : C) → b.stage ≡ Reads r → IsBoot F b → HasRead F n b c → IsBlock F r n b
      → FillsOn F r n b c e
      → ReadsOn F r n b c n (read_on F r n b) e
  reads_on r n b c e is boot h block f = record {
    same_p = same_p r;
    device = refl;
    boot = refl;
    control = f;
    read = read r is block f;
    nearer = nearer r is;
  } where
    same_p : (r : ReadStage) → (read_on F r n b).p ≡ b.p
    same_p Unread = refl
    same_p r = refl

    read : (r : ReadStage) → b.stage ≡ Reads r → IsBlock F r n b → FillsOn F r n b c e → HasRead F n (read_on F r n b) e
    read Unread is block f = subst (HasRead F n (read_on F Unread n b)) (sym f) (commit-found F n b c is h)
    read Header is block f = subst (HasRead F n (read_on F Header n b)) (sym f) (header-found F n b c is h)
    read (Slot k) is block f = slot-found F n b c e k laws boot is h block f
    read (Fills k) is block f = subst (HasRead F n (read_on F (Fills k) n b)) (sym f) (fill-found F n b c k laws boot.room is h)
    read (Refusing bad) is block f = subst (HasRead F n b) (sym f) h

    nearer : (r : ReadStage) → b.stage ≡ Reads r → IsNearer F b r (read_on F r n b)
    nearer Unread is = nearer_commit F laws b (newest n 1)
    nearer Header is = nearer_header F laws b (newest n 0)
    nearer (Slot k) is = nearer_slot F laws (slot_kept F k n b) k (inside_of b k is boot)
    nearer (Fills k) is = nearer_fill F laws b k (subst (IsThere F b) is boot.there)
    nearer (Refusing bad) is = is

  -- a read leaves the device as it was
  after_read : (r : ReadStage) (n new : Device) (b : Booting) (c : C) → IsAfter (read_action F b c r) n new → new ≡ n
  after_read Unread n new b c left = left
  after_read r n new b c left = left

  pub takes_read : {T : Type 0} (result : Result T NvmError) (s : State) (r : ReadStage) (n : Device) (b : Booting) (c : C) (m : Device)
      (d : Booting) (e : C)
      → b.stage ≡ Reads r → IsBoot F b → HasRead F n b c
      → OnOk result (d ≡ read_on F r n b) → OnOk result (FillsOn F r n b c e) → OnOk result (IsBlock F r n b) → OnErr result (d ≡ b)
      → OnErr result (e ≡ c)
      → Takes (read_action F b c r) result n m → TakesStep F result s n b c m d e
  takes_read (Ok x) s r n b c m d e is boot h goes fills block same_boot same_control t = record {
    steps = subst (λ (q : Stage). StepsAt F q s n b c m d e) (sym is)
        (coe 1 0 (i. ReadsOn F r n b c (after_read r n m b c t.ok i) (goes i) e) (reads_on r n b c e is boot h block fills));
    fits = subst (λ (y : Booting). IsBoot F y) (sym goes) (fits_read r n b is boot block);
    boot = tt;
    control = tt;
    err = tt;
    frame = t.frame;
    cause = t.cause;
  }
  takes_read (Err x) s r n b c m d e is boot h goes fills block same_boot same_control t = record {
    steps = tt;
    fits = subst (λ (y : Booting). IsBoot F y) (sym same_boot) boot;
    boot = same_boot;
    control = same_control;
    err = subst (λ (q : Stage). FailsTo (action_at F q s b c) n m) (sym is) t.err;
    frame = t.frame;
    cause = t.cause;
  }

  -- ---- a migration

  fits_migrated : (r : Round) (b : Booting) → length b.slot ≡ 64 * (layout_in F b).most_slot → IsInRound (renewing F b).blocks r
      → IsBoot F (migrated_by F r b)
  fits_migrated (Write k) b room there = record {
    room = room;
    there = next_by (λ (q : Round). IsInRound (renewing F b).blocks q) k (renewing F b).blocks (λ more. more) (λ last. tt);
  }
  fits_migrated Confirm b room there = record { room = length-renewed F laws b room; there = tt }
  fits_migrated r b room there = record { room = room; there = tt }

  pub takes_migration : {T : Type 0} (result : Result T NvmError) (s : State) (r : Round) (n : Device) (b : Booting) (c : C)
      (m : Device) (d : Booting)
      → b.stage ≡ Migrates r → IsBoot F b → CanMigrate F r n b
      → OnOk result (d ≡ migrated_by F r b) → OnErr result (d ≡ b) → Takes (round_action (renewing F b) r) result n m
      → TakesStep F result s n b c m d c
  takes_migration (Ok x) s r n b c m d is boot can goes same_boot t = record {
    steps = subst (λ (q : Stage). StepsAt F q s n b c m d c) (sym is) (record { device = t.ok; boot = goes; control = refl });
    fits = subst (λ (y : Booting). IsBoot F y) (sym goes) (fits_migrated r b boot.room can.there);
    boot = tt;
    control = tt;
    err = tt;
    frame = t.frame;
    cause = t.cause;
  }
  takes_migration (Err x) s r n b c m d is boot can goes same_boot t = record {
    steps = tt;
    fits = subst (λ (y : Booting). IsBoot F y) (sym same_boot) boot;
    boot = same_boot;
    control = refl;
    err = subst (λ (q : Stage). FailsTo (action_at F q s b c) n m) (sym is) t.err;
    frame = t.frame;
    cause = t.cause;
  }
