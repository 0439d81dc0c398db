-- A boot of a run that is not over: whether it loads, what is seen of it, and a step of it.
use Rattle.std.proofs.Common.{◌≡◌, ◌≢◌, ◌&&◌, true, false, List, length, refl, sym, ◌∙◌, ap, subst, Option, Some, None, ℕ, [], inl, inr, ◌+◌, ◌≤◌, Bool, arith}
use Rattle.thy_block.specs.declared.block.Block.{Block}
use Rattle.thy_block.specs.declared.mark.Mark.{Mark}
use Rattle.thy_block.specs.Device.{Device, block_at}
use Rattle.thy_layout.specs.declared.bad_image.BadImage.{BadImage}
use Rattle.thy_layout.specs.Commit.{is_zero}
use Rattle.thy_layout.specs.Decoded.{Reading, Decoded, Nothing, Refused, At}
use Rattle.thy_computer.specs.Booting.{view_of_image, boot_view, loading_view}
use Rattle.thy_computer.specs.Origin.{Origin}
use Rattle.thy_computer.specs.Safe.{ceiling, IsOneOf}
use Rattle.thy_computer.specs.Views.{loads}
use Rattle.thy_computer.specs.Keeps.{HasKept, finding_view, HasMarks}
use Rattle.thy_layout.specs.Layout.{Layout, decode_by, reading}
use Rattle.thy_computer.specs.Moves.{IsKeeping, standing}
use Rattle.thy_layout.proofs.LayoutLemmas.{decode_by-nothing_back}
use Rattle.thy_checkpoint.specs.declared.boot_stage.Stage.{Stage}
use Rattle.thy_checkpoint.specs.declared.boot_stage.Stage.TheVariants.{Reads, Loads, Migrates, Over}
use Rattle.thy_checkpoint.specs.declared.boot_stage.ReadStage.{ReadStage}
use Rattle.thy_checkpoint.specs.declared.boot_stage.ReadStage.TheVariants.{Unread, Header, Slot, Fills, Refusing}
use Rattle.thy_checkpoint.specs.Boot.{Booting}
use Rattle.thy_checkpoint.specs.Filling.{FillingOf, IsFilling, First, first_by}
use Rattle.thy_checkpoint.specs.Laws.{IsGoing}
use Rattle.thy_checkpoint.specs.Recovers.{HasCommit, HasReadAt}
use Rattle.thy_checkpoint.specs.Sound.{BootImages, layout_for, standing_in_boot, IsRecovering, IsSoundAt, start_mark, IsMigrating, IsSoundBoot, images_after}
use Rattle.thy_checkpoint.proofs.FoundLemmas.{never_refused}
use Rattle.thy_scheme_parts.specs.Seen.{view_at, has_read_at, loads_at}
use Rattle.thy_scheme_parts.specs.BootLaws.{IsReadBy, LoadsIfNone, ViewIsKept, FoundIsSettled, FewerHasRead, FoundFailsUnwritten}
use Rattle.thy_block.specs.Marks.{mark}
use Rattle.thy_block.proofs.CrashLemmas.{Crash-image}
use Rattle.thy_computer.proofs.SafeLemmas.{Safe-same}
use Rattle.thy_computer.specs.WithTurns.{with_turns}
use Rattle.thy_computer.proofs.KeepsLemmas.{finding_view-meant, Safe-sealed}
use Rattle.thy_computer.specs.declared.round.Round.{Round}
use Rattle.thy_computer.specs.declared.round.Round.TheVariants.{Write, Settle, Commit, Confirm}
use Rattle.thy_computer.specs.Round.{is_written, round_action}
use Rattle.thy_computer.specs.Rounds.{saved_in}
use Rattle.thy_checkpoint.specs.Shows.{migrates_at, seen_at}
use Rattle.thy_scheme.specs.Boots.{IsBootView}
use Rattle.thy_block.specs.declared.parameters.Parameters.{Parameters}
use Rattle.thy_dram.specs.Contents.{Contents}
use Rattle.thy_isa.specs.Step.{State}
use Rattle.thy_computer.specs.Dram.{ActsOnDram}
use Rattle.thy_computer.proofs.ActionLemmas.{queue-after}
use Rattle.thy_checkpoint.specs.Migrating.{renewing}
use Rattle.thy_checkpoint.specs.Left.{boot_left}
use Rattle.thy_checkpoint.specs.Loads.{first_writes}
use Rattle.thy_checkpoint.specs.Steps.{StepsAt}
use Rattle.thy_checkpoint.proofs.NearerLemmas.{left_most}
use Rattle.thy_checkpoint.proofs.SafeLemmas.{read_failed}

-- the view of a boot depends on the image, and on no turn
pub alike_at : (read : Reading) (o : Origin) (turns : List ℕ) (stage : Stage) (n : Device)
    → view_at read (with_turns o turns) stage n ≡ view_at read o stage n
alike_at read o turns (Reads r) n = refl
alike_at read o turns (Loads r) n = refl
alike_at read o turns (Migrates r) n = refl
alike_at read o turns (Over end) n = refl

-- ---- it is a view of a boot

module _ (o : Origin) (l : Layout) (g : BootImages) where
  shown-finding : (kept : Option Mark) → HasKept o l g.before kept → IsBootView o (finding_view o.start.count kept)
  shown-finding None means_mark = inr (means_mark.1, inl refl)
  shown-finding (Some m) means_mark = inl (m, refl)

  shown-loading : (r : Round) → o.kept ≡ None → IsBootView o (record (loading_view o.start.count) { written = is_written r })
  shown-loading (Write k) none = inr (none, inl refl)
  shown-loading Settle none = inr (none, inl refl)
  shown-loading Commit none = inr (none, inl refl)
  shown-loading Confirm none = inr (none, inr refl)

  -- in a round the image that was found is kept
  means_mark-at : (r : Round) (kept sealed : Option Mark) → HasMarks o l (saved_in r g.before g.next) kept sealed → HasKept o l g.before kept
  means_mark-at (Write k) kept sealed with_turns = with_turns
  means_mark-at Settle kept sealed with_turns = with_turns
  means_mark-at Commit kept sealed with_turns = with_turns.0
  means_mark-at Confirm kept sealed with_turns = with_turns.0

  -- a run that loads began without a checkpoint
  pub loads-first : (r : Round) → HasMarks o l (saved_in r g.before g.next) None (Some (start_mark o)) → o.kept ≡ None
  loads-first r with_turns = let none = means_mark-at r None (Some (start_mark o)) with_turns in none.1

  shown-at : (n : Device) (q : Stage) → IsGoing q → IsKeeping o l (standing_in_boot o q g n) → IsBootView o (seen_at o g.kept q)
  shown-at n (Reads r) going keeps = shown-finding g.kept keeps.meant
  shown-at n (Loads r) going keeps = shown-loading r (loads-first r keeps.meant)
  shown-at n (Migrates r) going keeps = shown-finding g.kept (means_mark-at r g.kept g.kept keeps.meant)
  shown-at n (Over end) going keeps = absurd going

  -- the image has its length
  sized-at : (n : Device) (q : Stage) → IsGoing q → IsKeeping o l (standing_in_boot o q g n) → length n.image ≡ l.image_blocks
  sized-at n (Reads r) going keeps = keeps.sized
  sized-at n (Loads r) going keeps = keeps.sized
  sized-at n (Migrates r) going keeps = keeps.sized
  sized-at n (Over end) going keeps = absurd going

pub none-done : (m : Mark) → None ≡ Some m → ⊥
none-done m d = cc

-- the view of an image that a cut may leave is the view of the mark that is kept
view-kept : (o : Origin) (m : Mark) (d : Decoded) → IsOneOf o (Some m) None d → view_of_image o.start.count d ≡ boot_view (Some m) None
view-kept o m Nothing h = absurd (cc)
view-kept o m (Refused bad) h = absurd h
view-kept o m (At epoch state) h = elim h.0 as (λ _. boot_view (Some (mark epoch state.count)) None ≡ boot_view (Some m) None) [
  | inl e ↦ ap (λ (k : Option Mark). boot_view k None) (sym e)
  | inr e ↦ absurd (cc)
]

-- ---- over any filling

module _ {C : Type 0} (F : FillingOf C) where
  module _ (read : Reading) (o : Origin) (g : BootImages) (n : Device) (b : Booting) (c : C) where
    -- while it reads, what the image means is the mark that is kept
    pub view-reading : IsReadBy F read → IsRecovering F g n b c → length n.image ≡ (layout_for F o).image_blocks
        → HasKept o (layout_for F o) g.before g.kept
        → view_of_image o.start.count (read o.geometry ceiling n.image) ≡ finding_view o.start.count g.kept
    view-reading reads recovering sized means_mark =
        ap (view_of_image o.start.count) (reads o.geometry n.image sized)
        ∙ ap (λ (x : List Block). view_of_image o.start.count (decode_by (layout_for F o) ceiling x)) (sym recovering.before_is)
        ∙ finding_view-meant o (layout_for F o) g.before g.kept o.start.count means_mark

    -- while a boot migrates, what the image means is the mark that is kept
    pub view-migrating : (r : Round) → IsReadBy F read → IsKeeping o (layout_for F o) (standing_in_boot o (Migrates r) g n)
        → (far : IsMigrating F o r g n b c) → view_of_image o.start.count (read o.geometry ceiling n.image) ≡ boot_view (Some far.m) None
    view-migrating r reads keeps far =
        let both : IsKeeping o (layout_for F o) (standing n (saved_in r g.before g.next) (Some far.m) (Some far.m))
        = subst (λ (k : Option Mark). IsKeeping o (layout_for F o) (standing n (saved_in r g.before g.next) k k)) far.kept keeps in
        let safe = Safe-same (reading F.layouts) o far.m n (Safe-sealed F.layouts o n (saved_in r g.before g.next) (Some far.m) (Some far.m) both) in
        ap (view_of_image o.start.count) (reads o.geometry n.image keeps.sized)
        ∙ view-kept o far.m (decode_by (layout_for F o) ceiling n.image) (safe n.image (Crash-image n))

    view-at : (q : Stage) → IsReadBy F read → IsGoing q → IsKeeping o (layout_for F o) (standing_in_boot o q g n)
        → IsSoundAt F o q g n b c → view_at read o q n ≡ seen_at o g.kept q
    view-at (Reads r) reads going keeps far = view-reading reads far keeps.sized keeps.meant
    view-at (Loads r) reads going keeps far = refl
    view-at (Migrates r) reads going keeps far =
        view-migrating r reads keeps far ∙ ap (finding_view o.start.count) (sym far.kept)
    view-at (Over end) reads going keeps far = absurd going

  settled-at : (o : Origin) (g : BootImages) (n : Device) (b : Booting) (c : C) (q : Stage) (m : Mark)
      → IsGoing q → (seen_at o g.kept q).done ≡ Some m → migrates_at q ≡ false → IsSoundAt F o q g n b c → n.queue ≡ []
  settled-at o g n b c (Reads r) m going found only far = far.read.settled
  settled-at o g n b c (Loads r) m going found only far = absurd (none-done m found)
  settled-at o g n b c (Migrates r) m going found only far = let both : true ≡ false = only in absurd (cc)
  settled-at o g n b c (Over end) m going found only far = absurd going

  pub view_is_kept : ViewIsKept F
  view_is_kept read o g n b c reads sound going = (
    view-at read o g n b c b.stage reads going sound.keeps sound.so_far,
    shown-at o (layout_for F o) g n b.stage going sound.keeps,
  )

  pub found_is_settled : FoundIsSettled F
  found_is_settled o g n b c m sound going found only = settled-at o g n b c b.stage m going found only sound.so_far

  pub sized-is : (o : Origin) (g : BootImages) (n : Device) (b : Booting) (c : C)
      → IsSoundBoot F o g n b c → IsGoing b.stage → length n.image ≡ (layout_for F o).image_blocks
  sized-is o g n b c sound going = sized-at o (layout_for F o) g n b.stage going sound.keeps

-- ---- whether it loads

pub unread-at : (q : Stage) → has_read_at q ≡ false → q ≡ Reads Unread
unread-at (Reads Unread) h = refl
unread-at (Reads Header) h = cc
unread-at (Reads (Slot next)) h = cc
unread-at (Reads (Fills k)) h = cc
unread-at (Reads (Refusing bad)) h = cc
unread-at (Loads r) h = cc
unread-at (Migrates r) h = cc
unread-at (Over end) h = cc

-- an image with a commit block has a checkpoint
kept-some : (o : Origin) (l : Layout) (g : BootImages) (n : Device) (kept : Option Mark) → g.before ≡ n.image → HasKept o l g.before kept
    → is_zero (block_at n.image 1) ≡ false → loads (finding_view o.start.count kept) ≡ false
kept-some o l g n (Some m) before means_mark committed = refl
kept-some o l g n None before means_mark committed =
    let zero : is_zero (block_at g.before 1) ≡ true = decode_by-nothing_back l ceiling g.before means_mark.0 in
    let both : false ≡ true = sym committed ∙ ap (λ (x : List Block). is_zero (block_at x 1)) (sym before) ∙ zero in
    cc

-- after the commit block was read, it is not zero
abbrev HasCommitAt : ReadStage → Device → Type 0
HasCommitAt Header n = is_zero (block_at n.image 1) ≡ false
HasCommitAt (Slot next) n = is_zero (block_at n.image 1) ≡ false
HasCommitAt (Fills k) n = is_zero (block_at n.image 1) ≡ false
HasCommitAt _ n = Unit {0}

committed-in : (g : List Block) (commit : Block) → HasCommit g commit → is_zero (block_at g 1) ≡ false
committed-in g commit h = ap is_zero h.is ∙ h.committed

module _ {C : Type 0} (F : FillingOf C) where
  has-commit : (r : ReadStage) (n : Device) (b : Booting) (c : C) → HasReadAt F (Reads r) n b c → HasCommitAt r n
  has-commit Unread n b c h = tt
  has-commit Header n b c h = committed-in n.image b.commit h.1
  has-commit (Slot next) n b c h = committed-in n.image b.commit h.1.commit_is
  has-commit (Fills k) n b c h = committed-in n.image b.commit h.0.head.commit_is
  has-commit (Refusing bad) n b c h = tt

module _ {C : Type 0} (F : FillingOf C) (read : Reading) (reads : IsReadBy F read) (o : Origin) (g : BootImages) (n : Device) (b : Booting)
    (c : C) where
  not-loading : IsRecovering F g n b c → length n.image ≡ (layout_for F o).image_blocks → HasKept o (layout_for F o) g.before g.kept
      → is_zero (block_at n.image 1) ≡ false → loads (view_of_image o.start.count (read o.geometry ceiling n.image)) ≡ false
  not-loading recovering sized means_mark committed =
      ap loads (view-reading F read o g n b c reads recovering sized means_mark)
      ∙ kept-some o (layout_for F o) g n g.kept recovering.before_is means_mark committed

  reading-at : (r : ReadStage) → ((bad : BadImage) → Reads r ≢ Reads (Refusing bad)) → length n.image ≡ (layout_for F o).image_blocks
      → HasKept o (layout_for F o) g.before g.kept → IsRecovering F g n b c → HasCommitAt r n
      → false ≡ (has_read_at (Reads r) && loads (view_at read o (Reads r) n))
  reading-at Unread good sized means_mark far has = refl
  reading-at Header good sized means_mark far has = sym (not-loading far sized means_mark has)
  reading-at (Slot next) good sized means_mark far has = sym (not-loading far sized means_mark has)
  reading-at (Fills k) good sized means_mark far has = sym (not-loading far sized means_mark has)
  reading-at (Refusing bad) good sized means_mark far has = absurd (good bad refl)

  loading-at : (q : Stage) → b.stage ≡ q → IsGoing q → ((bad : BadImage) → q ≢ Reads (Refusing bad))
      → IsKeeping o (layout_for F o) (standing_in_boot o q g n) → IsSoundAt F o q g n b c
      → loads_at q ≡ (has_read_at q && loads (view_at read o q n))
  loading-at (Reads r) is going good keeps far =
      reading-at r good keeps.sized keeps.meant far (has-commit F r n b c (subst (λ (q : Stage). HasReadAt F q n b c) is far.read.so_far))
  loading-at (Loads r) is going good keeps far = refl
  loading-at (Migrates r) is going good keeps far = sym (ap loads (view-migrating F read o g n b c r reads keeps far))
  loading-at (Over end) is going good keeps far = absurd going

pub loads_if_none : {C : Type 0} (F : FillingOf C) → IsFilling F → LoadsIfNone F
loads_if_none F laws read o g n b c reads sound going =
    loading-at F read reads o g n b c b.stage refl going (λ bad. never_refused F laws o g n b c bad sound) sound.keeps sound.so_far

-- ---- a step of a boot

no-false : false ≡ true → ⊥
no-false e = cc

pub not-unread : (q : Stage) → has_read_at q ≡ true → q ≡ Reads Unread → ⊥
not-unread q read is = no-false (sym (ap has_read_at is) ∙ read)

-- the mark that is kept stays
pub kept-on : (f : First) (q : Stage) (n : Device) (g : BootImages) → (images_after f q n g).kept ≡ g.kept
kept-on f (Reads at) n g = refl
kept-on f (Loads r) n g = refl
kept-on f (Migrates r) n g = refl
kept-on f (Over end) n g = refl

-- ---- what was seen before the boot was over

unwritten : (count : ℕ) (kept : Option Mark) → (finding_view count kept).written ≡ true → ⊥
unwritten count None w = no-false w
unwritten count (Some m) w = no-false w

-- a boot loads, and has written the commit block, so the run began without a checkpoint
abbrev pub WasLoading : Origin → BootImages → Stage → Type 0
WasLoading o g q = (o.kept ≡ None) × (seen_at o g.kept q ≡ record (loading_view o.start.count) { written = true })

pub was-loading : (o : Origin) (l : Layout) (g : BootImages) (n : Device) (q : Stage) → IsGoing q → (seen_at o g.kept q).written ≡ true
    → IsKeeping o l (standing_in_boot o q g n) → WasLoading o g q
was-loading o l g n (Reads r) going w keeps = absurd (unwritten o.start.count g.kept w)
was-loading o l g n (Loads r) going w keeps =
    (loads-first o l g r keeps.meant, ap (λ (t : Bool). record (loading_view o.start.count) { written = t }) w)
was-loading o l g n (Migrates r) going w keeps = absurd (unwritten o.start.count g.kept w)
was-loading o l g n (Over end) going w keeps = absurd going

found-mark : (count : ℕ) (kept : Option Mark) (m : Mark) → (finding_view count kept).done ≡ Some m
    → finding_view count kept ≡ boot_view (Some m) None
found-mark count None m d = cc
found-mark count (Some k) m d = ap (λ (x : Option Mark). boot_view x None) d

-- if a checkpoint was found, that is all that was seen
pub was-found : (o : Origin) (g : BootImages) (q : Stage) (m : Mark) → IsGoing q → (seen_at o g.kept q).done ≡ Some m
    → seen_at o g.kept q ≡ boot_view (Some m) None
was-found o g (Reads r) m going d = found-mark o.start.count g.kept m d
was-found o g (Loads r) m going d = absurd (none-done m d)
was-found o g (Migrates r) m going d = found-mark o.start.count g.kept m d
was-found o g (Over end) m going d = absurd going

-- ---- how far it is

module _ {C : Type 0} (F : FillingOf C) (laws : IsFilling F) where
  -- no stage has more left than the first
  pub fewer_has_read : FewerHasRead F
  fewer_has_read b d (Reads Unread) same less =
      let most = left_most F laws b b.stage in
      let first : boot_left F d (Reads Unread) ≡ boot_left F b (Reads Unread)
      = ap (λ (p : Parameters). boot_left F (record b { p = p }) (Reads Unread)) same in
      absurd (omega (arith, less, most, first))
  fewer_has_read b d (Reads Header) same less = refl
  fewer_has_read b d (Reads (Slot next)) same less = refl
  fewer_has_read b d (Reads (Fills k)) same less = refl
  fewer_has_read b d (Reads (Refusing bad)) same less = refl
  fewer_has_read b d (Loads r) same less = refl
  fewer_has_read b d (Migrates r) same less = refl
  fewer_has_read b d (Over end) same less = refl

  -- ---- what it writes

  -- if a checkpoint was found a step reads, and one that failed wrote nothing, unless it is being written again
  pub found_fails_unwritten : FoundFailsUnwritten F
  found_fails_unwritten o kept m b c n new (Reads r) done only f = read_failed F laws b c r n new f
  found_fails_unwritten o kept m b c n new (Loads r) done only f = absurd (none-done m done)
  found_fails_unwritten o kept m b c n new (Migrates r) done only f = let both : true ≡ false = only in absurd (cc)
  found_fails_unwritten o kept m b c n new (Over end) done only f = absurd f

-- ---- the queues

-- one write more is queued in the DRAM at most
pub queued-by : (n new : Device) (old now : Contents) → ActsOnDram n new old now → now.queued ≤ old.queued + 1
queued-by n new old now acts = elim acts as (λ _. now.queued ≤ old.queued + 1) [
  | inl same ↦ omega (arith, ap (λ (d : Contents). d.queued) same)
  | inr write ↦ omega (arith, ap (λ (d : Contents). d.queued) write.left)
]

-- and in both devices
module _ {C : Type 0} (F : FillingOf C) (s : State) (n : Device) (b : Booting) (c : C) (new : Device) (d : Booting) (e : C) where
  pub queue-on : (q : Stage) → StepsAt F q s n b c new d e → ActsOnDram n new (F.dram c) (F.dram e)
      → length new.queue + (F.dram e).queued ≤ length n.queue + (F.dram c).queued + 1
  queue-on (Reads r) on acts =
      omega (arith, queued-by n new (F.dram c) (F.dram e) acts, ap (λ (x : Device). length x.queue) on.device)
  queue-on (Loads r) on acts =
      omega (
        arith,
        queue-after (round_action (first_writes (first_by F b.p s)) r) n new on.device,
        ap (λ (x : C). (F.dram x).queued) on.control,
      )
  queue-on (Migrates r) on acts =
      omega (
        arith,
        queue-after (round_action (renewing F b) r) n new on.device,
        ap (λ (x : C). (F.dram x).queued) on.control,
      )
  queue-on (Over end) on acts = absurd on
