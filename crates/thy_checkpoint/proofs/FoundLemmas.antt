-- A boot that reads: what it finds, what it shows, and its end; and drains, which keep the boot at its stage.
use Rattle.std.proofs.Common.{◌≡◌, List, [], take, drop, Option, Some, None, refl, sym, ◌∙◌, ap, subst, ℕ, inl, arith}
use Rattle.thy_block.specs.declared.block.Block.{Block}
use Rattle.thy_block.specs.declared.parameters.Parameters.{Parameters}
use Rattle.thy_block.specs.declared.mark.Mark.{Mark}
use Rattle.thy_block.specs.declared.nvm.Write.{Write as Queued}
use Rattle.thy_block.specs.Device.{Device, drained, applied}
use Rattle.thy_layout.specs.Saved.{Kept, guarded, Saved}
use Rattle.thy_layout.proofs.SparesLemmas.{Spares-drained, Spares-same}
use Rattle.thy_isa.specs.declared.state.CpuState.{CpuState}
use Rattle.thy_isa.specs.OnBlocks.{state_from}
use Rattle.thy_isa.specs.Step.{State}
use Rattle.thy_isa.proofs.BlockLaws.{count-state_from}
use Rattle.thy_layout.specs.Commit.{epoch_of}
use Rattle.thy_layout.specs.Decoded.{At, Decoded, Nothing, Refused as IsRefused}
use Rattle.thy_layout.specs.Layout.{state_by, looked_by, Layout, decode_by}
use Rattle.thy_layout.specs.declared.bad_image.BadImage.{BadImage}
use Rattle.thy_layout.specs.Cpu.{cpu_of_record}
use Rattle.thy_computer.specs.Origin.{Origin, at}
use Rattle.thy_computer.specs.Booting.{boot_view, loading_view, view_of_image, boot_did}
use Rattle.thy_computer.specs.CoreStep.{CoreStep}
use Rattle.thy_computer.specs.Safe.{ceiling}
use Rattle.thy_computer.specs.declared.did.Did.TheVariants.{Restarted as HasRestarted}
use Rattle.thy_computer.specs.declared.view.Phase.TheVariants.{Boot as BootPhase}
use Rattle.thy_computer.specs.Moves.{standing, IsKeeping, Move, Goes, Standing, Seals}
use Rattle.thy_computer.proofs.KeepsLemmas.{IsKeeping-move, finding_view-meant}
use Rattle.thy_computer.specs.Rounds.{saved_in, HasWrittenBefore}
use Rattle.thy_computer.proofs.RoundLemmas.{drain_keeps_written}
use Rattle.thy_computer.specs.Keeps.{Keeps, HasKept, finding_view}
use Rattle.thy_computer.specs.declared.round.Round.{Round}
use Rattle.thy_computer.specs.declared.round.Round.TheVariants.{Write}
use Rattle.thy_computer.specs.Round.{is_written}
use Rattle.thy_checkpoint.specs.Loads.{first_writes}
use Rattle.thy_checkpoint.specs.declared.boot_stage.Stage.{Stage}
use Rattle.thy_checkpoint.specs.declared.boot_stage.Stage.TheVariants.{Reads, Loads, Migrates, Over}
use Rattle.thy_checkpoint.specs.declared.boot_stage.ReadStage.TheVariants.{Unread, Header, Fills, Refusing}
use Rattle.thy_checkpoint.specs.declared.boot_stage.End.TheVariants.{Restored, Loaded}
use Rattle.thy_checkpoint.specs.Boot.{Booting, layout_in, slot_read, answer_at}
use Rattle.thy_checkpoint.specs.Filling.{FillingOf, IsFilling, layout_at, anew}
use Rattle.thy_checkpoint.specs.Recovers.{HasListed, IsRestored, HasReadAt, HasRead, IsFoundNew}
use Rattle.thy_checkpoint.specs.Sound.{BootImages, layout_for, first_of, start_mark, sealed_by, standing_in_boot, IsRecovering, IsSoundAt, IsSoundBoot}
use Rattle.thy_checkpoint.specs.Laws.{DrainsKeepBoot, DrainsMove, ShowsImage, RestoredIsKept, NeverRefused}
use Rattle.thy_checkpoint.proofs.MigrationLemmas.{migrating-drained, migrating-undrained}
use Rattle.thy_checkpoint.specs.Shows.{restored_view, seen_at}
use Rattle.thy_checkpoint.proofs.LoadLemmas.{header-first, issued-first, slot_some}

-- with nothing queued a drain leaves the device as it is
drained-settled : (n : Device) → n.queue ≡ [] → drained n ≡ n
drained-settled n h =
    ap (λ (q : List Queued). record n { image = applied n.image (take 1 q); queue = drop 1 q }) h
    ∙ ap (λ (q : List Queued). record n { queue = q }) (sym h)

module _ {C : Type 0} (F : FillingOf C) (laws : IsFilling F) where
  pub drains_move : DrainsMove F
  drains_move o g n b = by_stage b.stage where
    goes : (s : Saved) (kept sealed : Option Mark) → Move o (layout_for F o) (standing n s kept sealed) (standing (drained n) s kept sealed)
    goes s kept sealed = Goes s kept sealed n (drained n) (Spares-drained (guarded (looked_by (layout_for F o)) s) n (drained n) refl)

    by_stage : (q : Stage) → Move o (layout_for F o) (standing_in_boot o q g n) (standing_in_boot o q g (drained n))
    by_stage (Reads r) = goes (Kept g.before) g.kept (sealed_by o g.kept)
    by_stage (Loads r) = goes (saved_in r g.before g.next) None (Some (start_mark o))
    by_stage (Migrates r) = goes (saved_in r g.before g.next) g.kept g.kept
    by_stage (Over Restored) = goes (Kept g.before) g.kept (sealed_by o g.kept)
    by_stage (Over Loaded) = goes (Kept g.next) (Some (start_mark o)) None

  nvm_drained : (o : Origin) (g : BootImages) (n : Device) (b : Booting) (c : C) → IsSoundBoot F o g n b c
      → IsSoundBoot F o g (drained n) b c
  nvm_drained o g n b c sound = record {
    geometry = sound.geometry;
    same_p = sound.same_p;
    keeps = IsKeeping-move o (layout_for F o) (standing_in_boot o b.stage g n) (standing_in_boot o b.stage g (drained n))
        (drains_move o g n b) sound.keeps;
    so_far = by_stage b.stage sound.so_far sound.keeps;
  } where
    still : (q : Stage) → n.queue ≡ [] → IsSoundAt F o q g n b c → IsSoundAt F o q g (drained n) b c
    still q settled h = subst (λ (m : Device). IsSoundAt F o q g m b c) (sym (drained-settled n settled)) h

    by_stage : (q : Stage) → IsSoundAt F o q g n b c → IsKeeping o (layout_for F o) (standing_in_boot o q g n)
        → IsSoundAt F o q g (drained n) b c
    by_stage (Reads r) at keeps = still (Reads r) at.read.settled at
    by_stage (Loads r) at keeps = record {
      none = at.none;
      fresh = at.fresh;
      there = at.there;
      made = at.made;
      stood = drain_keeps_written (first_writes (first_of F o)) r n at.stood;
    }
    by_stage (Migrates r) at keeps =
        migrating-drained F laws o b c (sound.same_p ∙ sym sound.geometry) g n
        (keeps.sized ∙ ap (λ (p : Parameters). (layout_at F p).image_blocks) (sym sound.geometry)) r at
    by_stage (Over Restored) at keeps = still (Over Restored) at.read.settled at
    by_stage (Over Loaded) at keeps = still (Over Loaded) at.settled at

  -- a drain of the DRAM leaves what was read
  listed-drained : (g : List Block) (b : Booting) (c : C) → HasListed F g b c → HasListed F g b (F.drained c)
  listed-drained g b c h = record {
    head = h.head;
    slot_is = h.slot_is;
    slot_fits = h.slot_fits;
    lists = laws.drain_lists c b.commit (slot_read F b) h.lists;
  }

  restored-drained : (n : Device) (b : Booting) (c : C) → IsRestored F n b c → IsRestored F n b (F.drained c)
  restored-drained n b c h = record {
    listed = listed-drained n.image b c h.listed;
    whole = laws.drain_whole c n h.whole;
    found = h.found ∙ ap (λ (m : List Block). At (epoch_of b.commit) (state_by (layout_in F b) (slot_read F b) m)) (sym (laws.drain_loads c n));
  }

  read-drained : (q : Stage) (n : Device) (b : Booting) (c : C) → HasReadAt F q n b c → HasReadAt F q n b (F.drained c)
  read-drained (Reads Unread) n b c h = laws.drain_fresh c h
  read-drained (Reads Header) n b c h = (laws.drain_fresh c h.0, h.1)
  read-drained (Reads (Fills k)) n b c h = (listed-drained n.image b c h.0, laws.drain_filled c n k h.1, h.2)
  read-drained (Reads (Refusing bad)) n b c h = h
  read-drained (Migrates r) n b c h = record {
    restored = restored-drained n b c h.restored;
    memory = laws.drain_loads c n ∙ h.memory;
    room = h.room;
    version = h.version;
    first = h.first;
  }
  read-drained (Over Restored) n b c h = record { restored = restored-drained n b c h.restored; stated = h.stated }
  read-drained (Over Loaded) n b c h = absurd h
  read-drained q n b c h = (laws.drain_fresh c h.0, h.1, h.2)

  dram_drained : (o : Origin) (g : BootImages) (n : Device) (b : Booting) (c : C) → IsSoundBoot F o g n b c
      → IsSoundBoot F o g n b (F.drained c)
  dram_drained o g n b c sound = record {
    geometry = sound.geometry;
    same_p = laws.drain_p c ∙ sound.same_p;
    keeps = sound.keeps;
    so_far = by_stage b.stage sound.so_far;
  } where
    reads : IsRecovering F g n b c → IsRecovering F g n b (F.drained c)
    reads at = record {
      before_is = at.before_is;
      read = record {
        same_p = laws.drain_p c ∙ at.read.same_p;
        sized = at.read.sized;
        settled = at.read.settled;
        so_far = read-drained b.stage n b c at.read.so_far;
      };
    }

    by_stage : (q : Stage) → IsSoundAt F o q g n b c → IsSoundAt F o q g n b (F.drained c)
    by_stage (Loads r) at = record { none = at.none; fresh = laws.drain_fresh c at.fresh; there = at.there; made = at.made; stood = at.stood }
    by_stage (Migrates r) at = migrating-undrained F laws o b c g n r at
    by_stage (Over Loaded) at =
        record { fresh = laws.drain_fresh c at.fresh; sized = at.sized; settled = at.settled; made = at.made; stood = at.stood }
    by_stage q at = reads at

  pub drains_keep_boot : DrainsKeepBoot F
  drains_keep_boot o g n b c sound = (nvm_drained o g n b c sound, dram_drained o g n b c sound)

-- ---- what an image means to a run

module _ (o : Origin) (l : Layout) (before : List Block) where
  found-none : (kept : Option Mark) → HasKept o l before kept → decode_by l ceiling before ≡ Nothing → kept ≡ None
  found-none None t e = refl
  found-none (Some m) is e = let both : Nothing ≡ At m.epoch (at o m.count) = sym e ∙ is.decodes in absurd (cc)

  pub never-bad : (kept : Option Mark) (bad : BadImage) → HasKept o l before kept → decode_by l ceiling before ≡ IsRefused bad → ⊥
  never-bad None bad t e = let both : Nothing ≡ IsRefused bad = sym t.0 ∙ e in absurd (cc)
  never-bad (Some m) bad is e = let both : At m.epoch (at o m.count) ≡ IsRefused bad = sym is.decodes ∙ e in absurd (cc)

-- a checkpoint that is found is the kept mark's
pub record IsFoundAt (o : Origin) (kept : Option Mark) (epoch : ℕ) (state : State) : Type 0 where
  pub m : Mark
  pub kept_is : kept ≡ Some m
  pub epoch_is : m.epoch ≡ epoch
  pub state_is : state ≡ at o m.count
  pub counted : (at o m.count).count ≡ m.count

found-mark : (o : Origin) (l : Layout) (before : List Block) (kept : Option Mark) (epoch : ℕ) (state : State)
    → HasKept o l before kept → decode_by l ceiling before ≡ At epoch state → IsFoundAt o kept epoch state
found-mark o l before None epoch state t e = let both : Nothing ≡ At epoch state = sym t.0 ∙ e in absurd (cc)
found-mark o l before (Some m) epoch state is e =
    let both : At m.epoch (at o m.count) ≡ At epoch state = sym is.decodes ∙ e in
    record { m = m; kept_is = refl; epoch_is = cc; state_is = cc; counted = is.counted }

-- ---- a boot that reads

abbrev pub reading_of : Origin → BootImages → Device → Standing
reading_of o g n = standing n (Kept g.before) g.kept (sealed_by o g.kept)

pub boots : (count : ℕ) (kept : Option Mark) → (finding_view count kept).phase ≡ BootPhase
boots count None = refl
boots count (Some m) = refl

restores : (o : Origin) (m : Mark) → CoreStep o (boot_view (Some m) None) (HasRestarted m.epoch m.count) (restored_view o (Some m))
restores o m = record { phase = refl; done = refl; unsealed = refl; unwritten = refl; becomes = refl }

module _ {C : Type 0} (F : FillingOf C) (laws : IsFilling F) where
  module _ (o : Origin) (g : BootImages) (m : Device) (d : Booting) (e : C) (before_is : g.before ≡ m.image)
      (same : d.p ≡ o.geometry) (meant : HasKept o (layout_for F o) g.before g.kept) (read : HasRead F m d e) where
    pub decoded : (x : Decoded) → decode_by (layout_in F d) ceiling m.image ≡ x → decode_by (layout_for F o) ceiling g.before ≡ x
    decoded x h = ap (decode_by (layout_for F o) ceiling) before_is
        ∙ ap (λ (p : Parameters). decode_by (layout_at F p) ceiling m.image) (sym same) ∙ h

    none_kept : decode_by (layout_in F d) ceiling m.image ≡ Nothing → g.kept ≡ None
    none_kept h = found-none o (layout_for F o) g.before g.kept meant (decoded Nothing h)

    -- what was found at a restart
    pub found-restored : IsRestored F m d e → IsFoundAt o g.kept (epoch_of d.commit) (state_by (layout_in F d) (slot_read F d) (F.loads e m))
    found-restored f =
        let state : State = state_by (layout_in F d) (slot_read F d) (F.loads e m) in
        found-mark o (layout_for F o) g.before g.kept (epoch_of d.commit) state meant (decoded (At (epoch_of d.commit) state) f.found)

    -- a read is a move; with the last one before a migration that seals the mark that is kept
    pub read-moves : (n : Device) → m ≡ n → (q : Stage) → HasReadAt F q m d e
        → Move o (layout_for F o) (reading_of o g n) (standing_in_boot o q g m)
    read-moves n is q f = by_stage q f where
      goes : Move o (layout_for F o) (reading_of o g n) (reading_of o g m)
      goes = Goes (Kept g.before) g.kept (sealed_by o g.kept) n m (Spares-same (guarded (looked_by (layout_for F o)) (Kept g.before)) n m is)

      by_stage : (q : Stage) → HasReadAt F q m d e → Move o (layout_for F o) (reading_of o g n) (standing_in_boot o q g m)
      by_stage (Loads r) f =
          subst (λ (a : Standing). Move o (layout_for F o) (reading_of o g n) a)
          (ap (λ (k : Option Mark). standing m (Kept g.before) k (sealed_by o k)) (none_kept f.1)
          ∙ ap (λ (q : Round). standing m (saved_in q g.before g.next) None (Some (start_mark o))) (sym f.2)) goes
      by_stage (Migrates r) f =
          let found = found-restored f.restored in
          subst (λ (q : Round). Move o (layout_for F o) (reading_of o g n) (standing m (saved_in q g.before g.next) g.kept g.kept)) (sym f.first)
          (subst (λ (x : Device). Move o (layout_for F o) (reading_of o g n) (standing x (Kept g.before) g.kept g.kept)) (sym is)
          (subst (λ (k : Option Mark). Move o (layout_for F o) (standing n (Kept g.before) k (sealed_by o k)) (standing n (Kept g.before) k k)) (sym found.kept_is)
          (Seals n g.before (Some found.m) found.m)))
      by_stage (Over Loaded) f = absurd f
      by_stage q f = goes

    recovering : IsRecovering F g m d e
    recovering = record { before_is = before_is; read = read }

    first : HasWrittenBefore (first_writes (first_of F o)) (Write 0) m
    first = record { each = λ i l. absurd (omega (arith, l)) }

    pub found-sound : (q : Stage) → HasReadAt F q m d e → IsSoundAt F o q g m d e
    found-sound (Loads r) f = subst (λ (q : Round). IsSoundAt F o (Loads q) g m d e) (sym f.2) (record {
      none = none_kept f.1;
      fresh = f.0;
      there = omega arith;
      made = tt;
      stood = first;
    })
    found-sound (Migrates r) f =
        let found = found-restored f.restored in
        subst (λ (q : Round). IsSoundAt F o (Migrates q) g m d e) (sym f.first) (record {
          m = found.m;
          kept = found.kept_is;
          epoch = sym found.epoch_is;
          version = f.version;
          there = slot_some F laws d.p (anew d.commit);
          room = f.room;
          listed = subst (λ (h : List Block). HasListed F h d e) (sym before_is) f.restored.listed;
          whole = f.restored.whole;
          state = found.state_is;
          header = header-first F laws d e read.same_p m.image f.restored.listed f.version m read.settled refl;
          issued = issued-first F laws d e read.same_p m.image f.restored.listed f.version m read.settled refl read.sized f.memory;
          made = tt;
        })
    found-sound (Over Loaded) f = absurd f
    found-sound q f = recovering

    abbrev Shows : Stage → Type 0
    Shows q = CoreStep o (finding_view o.start.count g.kept) (boot_did (answer_at F q d)) (seen_at o g.kept q)

    pub shows : (q : Stage) → HasReadAt F q m d e → Shows q
    shows (Reads (Refusing bad)) f = absurd (never-bad o (layout_for F o) g.before g.kept bad meant (decoded (IsRefused bad) f))
    shows (Loads r) f =
        let same_view : record (loading_view o.start.count) { written = is_written r } ≡ finding_view o.start.count g.kept
        = ap (λ (q : Round). record (loading_view o.start.count) { written = is_written q }) f.2
        ∙ ap (finding_view o.start.count) (sym (none_kept f.1)) in
        (boots o.start.count g.kept, inl same_view)
    shows (Over Restored) f =
        let found = found-restored f.restored in
        let epoch : ℕ = epoch_of d.commit in
        let cpu : CpuState = cpu_of_record d.p (slot_read F d) in
        let count : found.m.count ≡ cpu.count
        = sym (ap (λ (s : State). s.count) found.state_is ∙ found.counted)
        ∙ ap (λ (p : Parameters). (state_from p (cpu_of_record p (slot_read F d)) (F.loads e m)).count) (laws.laid.of d.p)
        ∙ count-state_from d.p cpu (F.loads e m) in
        coe 1 0 (i. CoreStep o (finding_view o.start.count (found.kept_is i)) (HasRestarted (sym found.epoch_is i) (sym count i))
        (restored_view o (found.kept_is i))) (restores o found.m)
    shows (Over Loaded) f = absurd f
    shows q f = (boots o.start.count g.kept, inl refl)

  -- ---- what is seen

  pub shows_image : ShowsImage F
  shows_image o g n b c r sound is =
      let rec : IsRecovering F g n b c = subst (λ (q : Stage). IsSoundAt F o q g n b c) is sound.so_far in
      let k : IsKeeping o (layout_for F o) (reading_of o g n) =
      subst (λ (q : Stage). IsKeeping o (layout_for F o) (standing_in_boot o q g n)) is sound.keeps in
      ap (seen_at o g.kept) is
      ∙ sym (finding_view-meant o (layout_for F o) g.before g.kept o.start.count k.meant)
      ∙ ap (λ (h : List Block). view_of_image o.start.count (decode_by (layout_for F o) ceiling h)) rec.before_is

  -- ---- its end

  pub restored_is_kept : RestoredIsKept F
  restored_is_kept o g n b c sound is =
      let rec : IsRecovering F g n b c = subst (λ (q : Stage). IsSoundAt F o q g n b c) is sound.so_far in
      let k : IsKeeping o (layout_for F o) (reading_of o g n) =
      subst (λ (q : Stage). IsKeeping o (layout_for F o) (standing_in_boot o q g n)) is sound.keeps in
      let f : IsFoundNew F n b c = subst (λ (q : Stage). HasReadAt F q n b c) is rec.read.so_far in
      let found = found-restored o g n b c rec.before_is sound.geometry k.meant rec.read f.restored in
      let keeps : Keeps o (layout_for F o) n (Kept g.before) (Some found.m) None
      = subst (λ (x : Option Mark). Keeps o (layout_for F o) n (Kept g.before) x (sealed_by o x)) found.kept_is k in
      (found.m, found.kept_is, found.epoch_is, keeps, found.state_is, f.restored, f.stated)

  pub never_refused : NeverRefused F
  never_refused o g n b c bad sound is =
      let at : IsRecovering F g n b c = subst (λ (q : Stage). IsSoundAt F o q g n b c) is sound.so_far in
      let k : IsKeeping o (layout_for F o) (reading_of o g n) =
      subst (λ (q : Stage). IsKeeping o (layout_for F o) (standing_in_boot o q g n)) is sound.keeps in
      let f : decode_by (layout_in F b) ceiling n.image ≡ IsRefused bad = subst (λ (q : Stage). HasReadAt F q n b c) is at.read.so_far in
      never-bad o (layout_for F o) g.before g.kept bad k.meant (decoded o g n b c at.before_is sound.geometry k.meant at.read (IsRefused bad) f)
