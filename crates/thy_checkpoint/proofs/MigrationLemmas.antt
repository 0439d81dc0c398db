-- Every action of loading is a move of the run's checkpoints; and a migration, from one action to its end.
use Rattle.std.proofs.Common.{◌≡◌, ◌≢◌, ℕ, List, [], ◌∷◌, length, Contains, Option, Some, None, sym, subst, inl, inr, arith, ◌+◌, ◌<◌, true, refl, ◌∙◌, ap}
use Rattle.std.proofs.lemmas.List.Elements.{Contains-push_cases}
use Rattle.thy_block.specs.declared.block.Block.{Block}
use Rattle.thy_block.specs.Device.{Device, IsOneWordApart, IsFramed, Settles, block_at, newest, at_rest, drained, written_to}
use Rattle.thy_block.specs.declared.mark.Mark.{Mark}
use Rattle.thy_block.proofs.DeviceLemmas.{newest-settled, newest-drained, newest-written_to_other, length-settled}
use Rattle.thy_layout.specs.Saved.{IsIssued, next_image}
use Rattle.thy_layout.proofs.SavedLemmas.{next_image-commit}
use Rattle.thy_layout.proofs.FixedLemmas.{Reads-drained}
use Rattle.thy_layout.specs.Decoded.{Nothing, At}
use Rattle.thy_layout.specs.Layout.{Layout, slot_in, decode_by, looked_by, header_bad, state_by}
use Rattle.thy_layout.proofs.LayoutLemmas.{decode_by-nothing_back, looked_nothing}
use Rattle.thy_layout.specs.Commit.{commit_of, epoch_of, commit_magic}
use Rattle.thy_layout.specs.declared.layout_version.LayoutVersion.TheVariants.{VersionTwo}
use Rattle.thy_layout.proofs.CommitLemmas.{one_word-between, nothing-stated, one_word-first}
use Rattle.thy_layout.proofs.ReadBackLemmas.{commit_fault-commit_of, is_zero-commit_of}
use Rattle.thy_computer.specs.Action.{IsLeftBy, FailsTo}
use Rattle.thy_computer.specs.Origin.{Origin, at}
use Rattle.thy_computer.specs.Safe.{ceiling}
use Rattle.thy_computer.specs.declared.round.Round.{Round}
use Rattle.thy_computer.specs.declared.round.Round.TheVariants.{Write, Settle, Commit, Confirm}
use Rattle.thy_computer.specs.Issuing.{slot_of, AreIssued}
use Rattle.thy_computer.specs.Keeps.{IsOf, HasKept}
use Rattle.thy_computer.specs.Moves.{IsKeeping, Move, Standing, standing}
use Rattle.thy_computer.specs.Round.{RoundWrites, IsInRound, round_action, next_round}
use Rattle.thy_computer.specs.Rounds.{made_after, standing_then, MayTake, AreApart, HasWritten, HasWrittenBefore, HasWrittenThen, saved_in, saved_after_fault, AreIssuedBefore, AreIssuedThen}
use Rattle.thy_computer.proofs.RoundLemmas.{next_by, rounds_move, failed_rounds_move, rounds_issue, issued_over}
use Rattle.thy_computer.proofs.IssuingLemmas.{drain_keeps}
use Rattle.thy_checkpoint.specs.declared.boot_stage.Stage.TheVariants.{Loads, Migrates}
use Rattle.thy_checkpoint.specs.Boot.{Booting, layout_in, slot_read, at_stage}
use Rattle.thy_checkpoint.specs.Filling.{FillingOf, First, IsFilling, IsTheSame, ReadsAlike, anew}
use Rattle.thy_checkpoint.specs.Loads.{first_writes, loads_on}
use Rattle.thy_checkpoint.specs.Sound.{BootImages, layout_for, first_of, start_mark, standing_in_boot, images_after, IsFirstImage, IsMade, IsSoundAt, epoch_kept, renewed_image, IsAnew, IsMadeAnew, IsRecovering, IsMigrating}
use Rattle.thy_checkpoint.specs.Start.{CanStart}
use Rattle.thy_checkpoint.specs.Laws.{standing_after_fault}
use Rattle.thy_checkpoint.proofs.FirstLemmas.{first_apart, header_read, AreIssued-written}
use Rattle.thy_checkpoint.proofs.LoadLemmas.{first-whole, first-placed, first-once, first-checkpoint, is_the_same, epoch_anew, epoch-below, placed_anew, slot_spared, next-commit, next-header, next-slot, next-issued, next-decodes, state_anew}
use Rattle.thy_checkpoint.specs.Migrating.{renewed_parts, renewing, migrated_by}
use Rattle.thy_checkpoint.specs.Recovers.{HasListed, IsRestored}
use Rattle.thy_checkpoint.proofs.ReadLemmas.{relist}
use Rattle.thy_checkpoint.proofs.SlotLemmas.{renewed-slot, next-written, settled-drained, next-drained}

-- if there is no checkpoint, the commit block alone determines that
alone : (ly : Layout) (before : List Block) (x : ℕ) → decode_by ly ceiling before ≡ Nothing → x ≢ 1 → ¬ Contains (1 ∷ looked_by ly before) x
alone ly before x nothing other inside =
    let only : Contains (1 ∷ 1 ∷ []) x
    = subst (λ (xs : List ℕ). Contains (1 ∷ xs) x) (looked_nothing ly before (decode_by-nothing_back ly ceiling before nothing)) inside in
    elim (Contains-push_cases (1 ∷ []) 1 x only) as (λ _. ⊥) [
      | inl first ↦ elim (Contains-push_cases [] 1 x first) as (λ _. ⊥) [ inl none ↦ absurd (omega (arith, none.1)) | inr e ↦ other (sym e) ]
      | inr e ↦ other (sym e)
    ]

module _ {C : Type 0} (F : FillingOf C) (laws : IsFilling F) (o : Origin) (can : CanStart o.geometry o.start) where
  abbrev ly : Layout
  ly = layout_for F o

  abbrev f : First
  f = first_of F o

  abbrev ws : RoundWrites
  ws = first_writes (first_of F o)

  pub apart : AreApart ly.image_blocks ws
  apart = first_apart f ly.image_blocks (first-placed F laws o.geometry o.start can) (first-once F laws o.geometry o.start can)

  -- all that was written is the start's image
  module _ (n : Device) (sized : length n.image ≡ ly.image_blocks) (h : HasWritten ws ws.blocks n) where
    whole : IsOf o ly (next_image n f.commit) (start_mark o) × IsIssued (looked_by ly) n (next_image n f.commit)
        × (slot_in ly (next_image n f.commit) ≡ slot_of f.parts)
    whole =
        first-checkpoint F laws o can n (AreIssued-written f n h ly.image_blocks sized (first-whole F laws o.geometry o.start)) (header_read f n h)

    pub IsFirstImage-written : IsFirstImage o ly f (next_image n f.commit)
    IsFirstImage-written = record { of = whole.0; commit = next_image-commit f.commit n (omega (arith, sized, apart.room)); slot = whole.2 }

  -- what is made from the first barrier on
  abbrev pub MadeThen : Option Round → List Block → Type 0
  MadeThen (Some r) next = IsMade o ly f r next
  MadeThen None next = IsFirstImage o ly f next

  -- what holds then makes a boot of the run
  pub sound_then : (b : Booting) (c : C) (h : BootImages) (m : Device) → F.fresh c → h.kept ≡ None → length m.image ≡ ly.image_blocks
      → (x : Option Round)
      → HasWrittenThen ws x m → MadeThen x h.next → IsSoundAt F o (loads_on x) h m b c
  sound_then b c h m fresh none sized (Some r) stood made = record { none = none; fresh = fresh; there = stood.0; made = made; stood = stood.1 }
  sound_then b c h m fresh none sized None stood made = record { fresh = fresh; sized = sized; settled = stood.1; made = made; stood = stood.0 }

  module _ (g : BootImages) (n : Device) (r : Round) (inside : IsInRound ws.blocks r)
      (keeps : IsKeeping o ly (standing_in_boot o (Loads r) g n))
      (made : IsMade o ly f r g.next) (stood : HasWrittenBefore ws r n) where
    may_load : MayTake o ly (start_mark o) ws r g.before g.next n
    may_load = by_round r inside keeps made stood where
      by_round : (r : Round) → IsInRound ws.blocks r → IsKeeping o ly (standing_in_boot o (Loads r) g n) → IsMade o ly f r g.next
          → HasWrittenBefore ws r n
          → MayTake o ly (start_mark o) ws r g.before g.next n
      by_round (Write k) inside keeps made stood = alone ly g.before (ws.place k) keeps.meant.0 (apart.elsewhere k inside)
      by_round Settle inside keeps made stood = let next = whole n keeps.sized stood in (next.0, next.1)
      by_round Commit inside keeps made stood = (
        made.commit,
        subst (λ (b : Block). IsOneWordApart b ws.commit) (sym (nothing-stated ly ceiling g.before keeps.meant.0.0))
            (one_word-first (commit_magic VersionTwo)),
      )
      by_round Confirm inside keeps made stood = (made.commit, stood.1)

    pub load_moves : (new : Device) → IsLeftBy (round_action ws r) n new
        → Move o ly (standing_in_boot o (Loads r) g n)
        (standing_in_boot o (loads_on (next_round ws.blocks r)) (images_after f (Loads r) n g) new)
    load_moves new left = then_stands (next_round ws.blocks r) (rounds_move o ly (start_mark o) ws r g.before g.next None n new may_load left) where
      then_stands : (x : Option Round)
          → Move o ly (standing_in_boot o (Loads r) g n)
          (standing_then x new g.before (made_after ws.commit r n g.next) None (start_mark o))
          → Move o ly (standing_in_boot o (Loads r) g n) (standing_in_boot o (loads_on x) (images_after f (Loads r) n g) new)
      then_stands (Some q) move = move
      then_stands None move = move

    pub made_on : MadeThen (next_round ws.blocks r) (images_after f (Loads r) n g).next
    made_on = by_round r keeps.sized made stood where
      by_round : (r : Round) → length n.image ≡ ly.image_blocks → IsMade o ly f r g.next → HasWrittenBefore ws r n
          → MadeThen (next_round ws.blocks r) (images_after f (Loads r) n g).next
      by_round (Write k) sized made stood = next_by (λ (q : Round). IsMade o ly f q g.next) k ws.blocks (λ more. tt) (λ last. tt)
      by_round Settle sized made stood = IsFirstImage-written n sized stood
      by_round r sized made stood = made

    -- an action of loading that failed
    pub load_fails : (m : Device) → FailsTo (round_action ws r) n m → IsFramed n m
        → Move o ly (standing_in_boot o (Loads r) g n) (standing_after_fault o (Loads r) g m)
    load_fails m failed framed = failed_rounds_move o ly (start_mark o) ws r g.before g.next None n m may_load failed framed

module _ {C : Type 0} (F : FillingOf C) (laws : IsFilling F) where
  -- ---- what reads alike

  module _ (l : Layout) (commit : Block) (n : Device) (sized : length n.image ≡ l.image_blocks) where
    written-alike : (x : ℕ) (block : Block) → ((y : ℕ) → y ≢ 1 → ((k : ℕ) → k < l.slot_blocks commit → y ≢ l.slot_place commit + k) → y ≢ x)
        → ReadsAlike l commit n (written_to n x block)
    written-alike x block other = record {
      each = λ y not_commit inside not_slot. newest-written_to_other n x block y (other y not_commit not_slot) (omega (arith, inside, sized));
    }

    pub settled-alike : (new : Device) → Settles n new → ReadsAlike l commit n new
    settled-alike new e = record {
      each = λ y not_commit inside not_slot. ap (λ (m : Device). newest m y) e ∙ newest-settled new.writes n y (omega (arith, inside, sized));
    }

    pub drained-alike : ReadsAlike l commit n (drained n)
    drained-alike = record { each = λ y not_commit inside not_slot. newest-drained n y (omega (arith, inside, sized)) }

  -- ---- one of a run

  module _ (o : Origin) (b : Booting) (c : C) (same : F.p c ≡ b.p) (g : BootImages) (n : Device) (r : Round)
      (at-round : IsMigrating F o r g n b c) (sized : length n.image ≡ (layout_in F b).image_blocks) where
    abbrev l : Layout
    l = layout_in F b

    abbrev m : Mark
    m = at-round.m

    the-same : IsTheSame F b.p b.commit (slot_read F b)
    the-same = is_the_same F laws b c same g.before at-round.listed at-round.version

    -- another device that reads alike
    module _ (new : Device) (alike : ReadsAlike l (anew b.commit) n new) where
      still : F.whole c new × (F.loads c new ≡ F.loads c n)
      still = the-same.still c n new same at-round.listed.lists sized alike at-round.whole

      pub state-alike : state_by l (slot_read F b) (F.loads c new) ≡ at o m.count
      state-alike = ap (state_by l (slot_read F b)) still.1 ∙ at-round.state

      header-alike : header_bad l (newest new 0) true ≡ None
      header-alike =
          let placed = placed_anew F laws b c same g.before at-round.listed at-round.version in
          ap (λ (x : Block). header_bad l x true) (alike.each 0 (λ e. omega (arith, e)) (omega (arith, placed.slot_behind, placed.slot_inside))
          (λ j low e. omega (arith, e, placed.slot_behind))) ∙ at-round.header

      -- what is then before an action
      pub goes-to : (images : BootImages) (next : Round) → images.before ≡ g.before → images.kept ≡ g.kept
          → IsInRound (renewing F b).blocks next × AreIssuedBefore l.image_blocks (renewed_parts F b) (anew b.commit) next new (F.loads c n)
          → IsMadeAnew o (layout_for F o) m (anew b.commit) (renewed_parts F b) next images.next new
          → IsMigrating F o next images new (at_stage (Migrates next) b) c
      goes-to images next before kept issued made = record {
        m = m;
        kept = kept ∙ at-round.kept;
        epoch = at-round.epoch;
        version = at-round.version;
        there = issued.0;
        room = at-round.room;
        listed = subst (λ (h : List Block). HasListed F h (at_stage (Migrates next) b) c) (sym before)
            (relist F (Migrates next) g.before b c at-round.listed);
        whole = still.0;
        state = state-alike;
        header = header-alike;
        issued = subst (λ (memory : List Block). AreIssuedBefore l.image_blocks (renewed_parts F b) (anew b.commit) next new memory)
            (sym still.1) issued.1;
        made = made;
      }

  -- ---- its actions

  module _ (o : Origin) (f : First) (b0 : Booting) (c : C) (same : F.p c ≡ o.geometry) (g : BootImages) (n : Device) where
    abbrev b : Booting
    b = record b0 { p = o.geometry }

    abbrev lay : Layout
    lay = layout_for F o

    abbrev new_commit : Block
    new_commit = anew b.commit

    abbrev w : RoundWrites
    w = renewing F b

    -- all that was written is the checkpoint of the mark that is kept, of the form of today
    made : (is : IsMigrating F o Settle g n b c) → IsKeeping o lay (standing_in_boot o (Migrates Settle) g n)
        → IsAnew o lay is.m new_commit (renewed_parts F b) (next_image n new_commit)
    made is keeps =
        let meant : IsOf o lay g.before is.m = subst (λ (k : Option Mark). HasKept o lay g.before k) is.kept keeps.meant in
        record {
          of = record {
            decodes = next-decodes F laws b c same g.before is.listed is.version n is.header is.issued
                ∙ ap (λ (e : ℕ). At e (state_by lay (slot_read F b) (F.loads c n))) is.epoch
                ∙ ap (At is.m.epoch) is.state;
            counted = meant.counted;
          };
          commit_is = next-commit F laws b c same g.before is.listed is.version n is.header is.issued;
          header = next-header F laws b c same g.before is.listed is.version n is.header is.issued;
          slot = next-slot F laws b c same g.before is.listed is.version n is.header is.issued;
        }

    -- ---- the moves

    may_take : (r : Round) (is : IsMigrating F o r g n b c) → IsKeeping o lay (standing_in_boot o (Migrates r) g n)
        → MayTake o lay is.m w r g.before g.next n
    may_take (Write k) is keeps = slot_spared F laws b c same g.before is.listed is.version k is.there
    may_take Settle is keeps = ((made is keeps).of, next-issued F laws b c same g.before is.listed is.version n is.header is.issued)
    may_take Commit is keeps =
        let new : IsAnew o lay is.m new_commit (renewed_parts F b) g.next = is.made.0 in
        let meant : IsOf o lay g.before is.m = subst (λ (k : Option Mark). HasKept o lay g.before k) is.kept keeps.meant.0 in (
          new.commit_is,
          subst (IsOneWordApart (block_at g.before 1)) new.commit_is
              (one_word-between lay ceiling g.before g.next is.m.epoch is.m.epoch (at o is.m.count)
              (at o is.m.count) meant.decodes new.of.decodes (inr refl)),
        )
    may_take Confirm is keeps = (is.made.0.commit_is, is.issued.1)

    then_stands : (commit : Block) (m : Mark) (r : Round) (x : Device)
        → standing_then (next_round w.blocks r) x g.before (made_after commit r n g.next) (Some m) m
        ≡ standing_in_boot o (migrated_by F r b).stage (record { before = renewed_image r g; kept = Some m; next = made_after commit r n g.next }) x
    then_stands commit m Confirm x = refl
    then_stands commit m r x = refl

    pub migration_moves : (r : Round) (x : Device) → IsLeftBy (round_action w r) n x → IsMigrating F o r g n b c
        → IsKeeping o lay (standing_in_boot o (Migrates r) g n)
        → Move o lay (standing_in_boot o (Migrates r) g n) (standing_in_boot o (migrated_by F r b).stage (images_after f (Migrates r) n g) x)
    migration_moves r x left is keeps =
        let old : Standing = standing n (saved_in r g.before g.next) (Some is.m) (Some is.m) in
        subst (λ (k : Option Mark). Move o lay (standing n (saved_in r g.before g.next) k k) (standing_in_boot o (migrated_by F r b).stage
        (record { before = renewed_image r g; kept = k; next = made_after (commit_of (epoch_kept k)) r n g.next }) x)) (sym is.kept)
        (subst (λ (a : Standing). Move o lay old a) (then_stands (commit_of is.m.epoch) is.m r x)
        (subst (λ (e : ℕ). Move o lay old (standing_then (next_round w.blocks r) x g.before (made_after (commit_of e) r n g.next) (Some is.m) is.m)) is.epoch
        (rounds_move o lay is.m w r g.before g.next (Some is.m) n x (may_take r is keeps) left)))

    pub migration_fails : (r : Round) → IsMigrating F o r g n b c → IsKeeping o lay (standing_in_boot o (Migrates r) g n) → (new : Device)
        → FailsTo (round_action w r) n new → IsFramed n new
        → Move o lay (standing_in_boot o (Migrates r) g n) (standing_after_fault o (Migrates r) g new)
    migration_fails r is keeps new failed framed =
        subst (λ (k : Option Mark). Move o lay (standing n (saved_in r g.before g.next) k k)
        (standing new (saved_after_fault r g.before g.next) k k)) (sym is.kept)
        (failed_rounds_move o lay is.m w r g.before g.next (Some is.m) n new (may_take r is keeps) failed framed)

    -- ---- where the boot is then

    -- after an action of a migration the device reads as before, but for the slot and the commit block
    alike : (r : Round) (new : Device) → IsInRound w.blocks r → length n.image ≡ lay.image_blocks → IsLeftBy (round_action w r) n new
        → ReadsAlike lay new_commit n new
    alike (Write k) new inside sized left =
        subst (ReadsAlike lay new_commit n) (sym left)
        (written-alike lay new_commit n sized (w.place k) (w.block k) (λ y not_commit not_slot. not_slot k inside))
    alike Commit new inside sized left =
        subst (ReadsAlike lay new_commit n) (sym left) (written-alike lay new_commit n sized 1 new_commit (λ y not_commit not_slot. not_commit))
    alike r new inside sized left = settled-alike lay new_commit n sized new left

    issued_then : (r : Round) (new : Device) → IsLeftBy (round_action w r) n new → (is : IsMigrating F o r g n b c)
        → AreIssuedThen lay.image_blocks (renewed_parts F b) new_commit (next_round w.blocks r) new (F.loads c n)
    issued_then r new left is =
        rounds_issue lay.image_blocks (renewed_parts F b) new_commit (placed_anew F laws b c same g.before is.listed is.version) r n new
        (F.loads c n) is.there
        is.issued left

    migrates_to : (r : Round) (new : Device) → IsLeftBy (round_action w r) n new → (is : IsMigrating F o r g n b c)
        → length n.image ≡ lay.image_blocks
        → (images : BootImages) (q : Round) → images.before ≡ g.before → images.kept ≡ g.kept
        → IsInRound w.blocks q × AreIssuedBefore lay.image_blocks (renewed_parts F b) new_commit q new (F.loads c n)
        → IsMadeAnew o lay is.m new_commit (renewed_parts F b) q images.next new
        → IsMigrating F o q images new (at_stage (Migrates q) b) c
    migrates_to r new left is sized = goes-to o b c same g n r is sized new (alike r new is.there sized left)

    module _ (at-confirm : IsMigrating F o Confirm g n b c) (keeps : IsKeeping o lay (standing_in_boot o (Migrates Confirm) g n))
        (new : Device) (settles : Settles n new) where
      abbrev made-there : IsAnew o lay at-confirm.m new_commit (renewed_parts F b) g.next
      made-there = at-confirm.made.0

      abbrev d : Booting
      d = migrated_by F Confirm b

      the : IsTheSame F b.p b.commit (slot_read F b)
      the = is_the_same F laws b c same g.before at-confirm.listed at-confirm.version

      slot_now : slot_read F d ≡ slot_of (renewed_parts F b)
      slot_now = renewed-slot F laws b at-confirm.room

      held : F.whole c new × (F.loads c new ≡ F.loads c n)
      held = still o b c same g n Confirm at-confirm keeps.sized new (settled-alike lay new_commit n keeps.sized new settles)

      listed-now : HasListed F g.next d c
      listed-now = record {
        head = record {
          commit_is = record { committed = is_zero-commit_of (epoch_of b.commit); is = made-there.commit_is };
          header_fits = made-there.header;
          commit_fits = commit_fault-commit_of (block_at g.next 0) (epoch_of b.commit) ceiling
              (epoch-below (block_at g.before 0) b.commit at-confirm.listed.head.commit_fits) (omega arith);
        };
        slot_is = slot_now ∙ sym made-there.slot;
        slot_fits = ap (lay.slot_bad ceiling new_commit) slot_now ∙ the.faultless;
        lists = subst (λ (s : List Block). F.lists new_commit s c) (sym slot_now) (the.lists c same at-confirm.listed.lists);
      }

      state-now : state_by lay (slot_read F d) (F.loads c new) ≡ at o at-confirm.m.count
      state-now =
          ap (λ (s : List Block). state_by lay s (F.loads c new)) slot_now
          ∙ state_anew F laws b c same g.before at-confirm.listed at-confirm.version (F.loads c new)
          ∙ ap (state_by lay (slot_read F b)) held.1
          ∙ at-confirm.state

      epoch-now : epoch_of d.commit ≡ at-confirm.m.epoch
      epoch-now = epoch_anew F laws b c same g.before at-confirm.listed at-confirm.version ∙ at-confirm.epoch

      image-now : new.image ≡ g.next
      image-now = ap (λ (m : Device). m.image) settles ∙ at-confirm.made.1

      restored-now : IsRestored F new d c
      restored-now = record {
        listed = subst (λ (h : List Block). HasListed F h d c) (sym image-now) listed-now;
        whole = held.0;
        found = ap (decode_by lay ceiling) image-now ∙ made-there.of.decodes
            ∙ ap (λ (e : ℕ). At e (at o at-confirm.m.count)) (sym epoch-now)
            ∙ ap (At (epoch_of d.commit)) (sym state-now);
      }

      after-confirm : IsRecovering F (record g { before = g.next }) new d c
      after-confirm = record {
        before_is = sym image-now;
        read = record {
          same_p = same;
          sized = ap (λ (m : Device). length m.image) settles ∙ length-settled new.writes n ∙ keeps.sized;
          settled = ap (λ (m : Device). m.queue) settles;
          so_far = record {
            restored = restored-now;
            stated = ap (λ (h : List Block). block_at h 1) image-now ∙ made-there.commit_is
                ∙ ap commit_of (sym (epoch_anew F laws b c same g.before at-confirm.listed at-confirm.version));
          };
        };
      }

    pub migrates_on : (r : Round) (new : Device) → IsLeftBy (round_action w r) n new → IsMigrating F o r g n b c
        → IsKeeping o lay (standing_in_boot o (Migrates r) g n)
        → IsSoundAt F o (migrated_by F r b).stage (images_after f (Migrates r) n g) new (migrated_by F r b) c
    migrates_on (Write k) new left is keeps =
        next_by (λ (q : Round). IsInRound w.blocks q × AreIssuedBefore lay.image_blocks (renewed_parts F b) new_commit q new (F.loads c n)
        → IsMigrating F o q g new (at_stage (Migrates q) b) c) k w.blocks
        (λ more issued. migrates_to (Write k) new left is keeps.sized g (Write (k + 1)) refl refl issued tt)
        (λ last issued. migrates_to (Write k) new left is keeps.sized g Settle refl refl issued tt) (issued_then (Write k) new left is)
    migrates_on Settle new left is keeps =
        subst (λ (epoch : ℕ). IsMigrating F o Commit (record g { next = next_image n (commit_of epoch) }) new (at_stage (Migrates Commit) b) c)
        (sym (ap epoch_kept is.kept ∙ sym is.epoch))
        (migrates_to Settle new left is keeps.sized (record g { next = next_image n new_commit }) Commit refl refl (issued_then Settle new left is)
        (made is keeps, ap (λ (m : Device). next_image m new_commit) left))
    migrates_on Commit new left is keeps =
        migrates_to Commit new left is keeps.sized g Confirm refl refl (issued_then Commit new left is)
        (is.made.0, ap (λ (m : Device). (at_rest m).image) left ∙ next-written n new_commit ∙ is.made.1)
    migrates_on Confirm new left is keeps = after-confirm is keeps new left

  -- ---- drains

  module _ (o : Origin) (b : Booting) (c : C) (same : F.p c ≡ b.p) (g : BootImages) (n : Device)
      (sized : length n.image ≡ (layout_in F b).image_blocks) where
    made-drained : (m : Mark) (r : Round) → IsMadeAnew o (layout_for F o) m (anew b.commit) (renewed_parts F b) r g.next n
        → IsMadeAnew o (layout_for F o) m (anew b.commit) (renewed_parts F b) r g.next (drained n)
    made-drained m Commit h = (h.0, next-drained n (anew b.commit) ∙ h.1)
    made-drained m Confirm h = (h.0, settled-drained n ∙ h.1)
    made-drained m r h = tt

    pub migrating-drained : (r : Round) → IsMigrating F o r g n b c → IsMigrating F o r g (drained n) b c
    migrating-drained r at-round =
        let alike = drained-alike (layout_in F b) (anew b.commit) n sized in
        record {
          m = at-round.m;
          kept = at-round.kept;
          epoch = at-round.epoch;
          version = at-round.version;
          there = at-round.there;
          room = at-round.room;
          listed = at-round.listed;
          whole = (still o b c same g n r at-round sized (drained n) alike).0;
          state = state-alike o b c same g n r at-round sized (drained n) alike;
          header = header-alike o b c same g n r at-round sized (drained n) alike;
          issued = issued_over (layout_in F b).image_blocks (renewed_parts F b) (renewed_parts F b) (anew b.commit) r n (drained n)
              (F.loads c n) (F.loads c (drained n))
              refl at-round.there
              (λ k few h. subst (λ (memory : List Block). AreIssued (layout_in F b).image_blocks (renewed_parts F b) (drained n) memory k)
              (sym (still o b c same g n r at-round sized (drained n) alike).1)
              (drain_keeps (layout_in F b).image_blocks (renewed_parts F b) n (drained n) (F.loads c n) k
              (placed_anew F laws b c same g.before at-round.listed at-round.version) h refl))
              (λ read. Reads-drained 1 (anew b.commit) n (drained n) read refl) at-round.issued;
          made = made-drained at-round.m r at-round.made;
        }

  -- and of the DRAM
  module _ (o : Origin) (b : Booting) (c : C) (g : BootImages) (n : Device) where
    pub migrating-undrained : (r : Round) → IsMigrating F o r g n b c → IsMigrating F o r g n b (F.drained c)
    migrating-undrained r at-round = record {
      m = at-round.m;
      kept = at-round.kept;
      epoch = at-round.epoch;
      version = at-round.version;
      there = at-round.there;
      room = at-round.room;
      listed = record {
        head = at-round.listed.head;
        slot_is = at-round.listed.slot_is;
        slot_fits = at-round.listed.slot_fits;
        lists = laws.drain_lists c b.commit (slot_read F b) at-round.listed.lists;
      };
      whole = laws.drain_whole c n at-round.whole;
      state = ap (state_by (layout_in F b) (slot_read F b)) (laws.drain_loads c n) ∙ at-round.state;
      header = at-round.header;
      issued = subst (λ (memory : List Block). AreIssuedBefore (layout_in F b).image_blocks (renewed_parts F b) (anew b.commit) r n memory)
          (sym (laws.drain_loads c n)) at-round.issued;
      made = at-round.made;
    }
