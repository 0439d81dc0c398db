-- The scheme thynvm is made of lawful parts: what holds of its checkpoints.
use Rattle.std.proofs.Common.{◌≡◌, ◌≢◌, ℕ, ◌+◌, ◌-◌, ◌*◌, ◌<◌, ◌≤◌, nat_lt, if◌then◌else◌, Bool, true, false, List, length, Option, Some, None, refl, sym, ◌∙◌, ap, subst, inl, inr, arith}
use Rattle.std.proofs.lemmas.Bool.{cases_eq}
use Rattle.std.proofs.lemmas.List.FromFn.{length-map-range_with_len}
use Rattle.thy_block.specs.declared.block.Block.{Block}
use Rattle.thy_block.specs.declared.parameters.Parameters.{Parameters}
use Rattle.thy_block.specs.Device.{Device, written_to}
use Rattle.thy_block.specs.Geometry.{memory_blocks}
use Rattle.thy_block.proofs.DeviceLemmas.{length-written_to}
use Rattle.thy_block.proofs.RangeLemmas.{btt_least}
use Rattle.thy_table.specs.declared.place.Place.{Place}
use Rattle.thy_table.specs.Places.{in_dram, number_of, image_blocks, first_home}
use Rattle.thy_table.specs.Devices.{devices_of}
use Rattle.thy_table.specs.Listing.{free_count, mapped}
use Rattle.thy_table.specs.declared.block_entry.Version.TheVariants.{Out}
use Rattle.thy_table.specs.declared.cell.Cell.{Cell}
use Rattle.thy_table.specs.Cells.{seat_of, frame_at, penult, target, last}
use Rattle.thy_table.specs.Checkpoint.{page_issued}
use Rattle.thy_table.specs.Rules.{after_copy}
use Rattle.thy_layout.specs.declared.layout_version.LayoutVersion.{LayoutVersion}
use Rattle.thy_layout.specs.declared.layout_version.LayoutVersion.TheVariants.{VersionOne, VersionTwo}
use Rattle.thy_record.specs.Images.{slot_in}
use Rattle.thy_record.specs.Issuing.{PlaceBlock, IsUnused, IsFree, HoldsCheckpoint}
use Rattle.thy_record.specs.Slots.{counts_in}
use Rattle.thy_record.specs.Tables.{Tables}
use Rattle.thy_control.specs.CheckpointTables.{tables0, tables1, entry_lists, page_lists}
use Rattle.thy_control.specs.Commit.{committed_state, Commits as CommitsVersions}
use Rattle.thy_control.specs.Copies.{next_copy, block_listed, devices_copied, copied, after_next_copy, devices_after_copy}
use Rattle.thy_dram.specs.Contents.{Contents}
use Rattle.thy_control.specs.Drains.{after_drain}
use Rattle.thy_control.specs.Frees.{HasNoWork, settled}
use Rattle.thy_control.specs.Holding.{promoted, waiting}
use Rattle.thy_control.specs.Merges.{overlays}
use Rattle.thy_control.specs.Positions.{position_by, next_position}
use Rattle.thy_control.specs.Pages.{next_page, block_to_write, devices_issued, issued, after_next_write, devices_after_write}
use Rattle.thy_control.specs.Rules.{IsWholeState}
use Rattle.thy_control.specs.Seal.{sealed_state, IsBareState, Seals as SealsVersions}
use Rattle.thy_control.specs.State.{State, AreSoundTables, IsSized, cell_of, reads, penult_of, last_of, work_of}
use Rattle.thy_control.specs.Stays.{HoldAll, StaysHeld}
use Rattle.thy_control.specs.Versions.{KeepsAll}
use Rattle.thy_control.proofs.StateLemmas.{IsPlace-target, IsWithin-cell_of}
use Rattle.thy_control.proofs.CommitLemmas.{Commits-committed}
use Rattle.thy_control.proofs.CommittedLemmas.{KeepsCommitted-sealed}
use Rattle.thy_control.proofs.CopyLemmas.{IsNext, IsNext-entry, listed-pending, KeepsAll-next, versions_apart as versions_differ}
use Rattle.thy_control.proofs.FreesLemmas.{half_free}
use Rattle.thy_control.proofs.KeepLemmas.{behind_slots}
use Rattle.thy_control.proofs.SealStateLemmas.{HasNoWork-sealed, HasNoWork-committed, free-sealed, free-committed, CommitsTables-committed, tables0-sealed, AreSoundTables-sealed, Seals-sealed}
use Rattle.thy_control.proofs.IssueLemmas.{IsDue, IsDue-entry, listed-busy, busy-framed, KeepsNext, KeepsNext-write, busy-old, sites_apart}
use Rattle.thy_control.proofs.LeftLemmas.{HasNoneLeft-copied}
use Rattle.thy_control.proofs.MarkLemmas.{IsWholeState-none, IsBareState-none}
use Rattle.thy_control.proofs.TablesLemmas.{Owns-cell_of, owned-penult, owned-target, owned-apart, AreTablesOf-committed}
use Rattle.thy_control.proofs.StayLemmas.{map-block, map-page}
use Rattle.thy_thynvm_parts.specs.Filling.{loads}
use Rattle.thy_thynvm_parts.proofs.FillingLemmas.{filling_is_lawful}
use Rattle.thy_checkpoint.specs.Items.{Phase, Resting, Making, Made, Applying}
use Rattle.thy_checkpoint.specs.Progress.{Progress}
use Rattle.thy_scheme_parts.specs.IsDesign.{IsDesign, IsFew, IsSpared}
use Rattle.thy_scheme_parts.specs.Moments.{IsMoment, LeavesPages, MakesAt, Carries, Commits, SealsTo, ReadsSame, IsOwn}
use Rattle.thy_thynvm_parts.specs.Design.{is_overlaid, is_promoting, block_by, source_by, target_next, source_next, with_copied, with_issued, written_by, written_next, StandsAt, items_thynvm, penults, lasts, IsOther, IsCounted, IsKeptBy, IsButCopied, IsOfRest, HasRoom, rests_at, thynvm_design}
use Rattle.thy_thynvm_parts.proofs.ReadLemmas.{blocks-agree, KeepsVersions, versions_apart, versions_same}
use Rattle.thy_thynvm_parts.proofs.HeldLemmas.{but-copied, settled-done, KeepsCounts, counts-copied, counts-issued, owed-committed, overlays-committed, promoted-committed, unfilled-committed, written-nvm, target-in_nvm}
use Rattle.thy_thynvm_parts.proofs.ItemLemmas.{copied_is, issued_is, no_work_copied, stands_by, items_are}
use Rattle.thy_thynvm_parts.proofs.LeftLemmas.{none-left, free-few, owed-few, overlays-few, unfilled-few, unfilled-none}
use Rattle.thy_thynvm_parts.proofs.RuleLemmas.{copy_keeps, page_write_keeps, page_write_keeps_others, commit_moves, seal_keeps_sound, seal_moves, seal_takes, listing_keeps}
use Rattle.thy_thynvm_parts.proofs.SlotLemmas.{spared, own_apart, slot_fits, slot_makes, slot_spared, made_reads}

-- ---- one moment leads to another

-- every version is kept, and so are the tables of both checkpoints and what is at rest
pub record Keeping (s : State) (n : Device) (t : State) (m : Device) : Type 0 where
  pub same_p : t.p ≡ s.p
  pub room : t.dram.room ≡ s.dram.room
  pub versions : KeepsVersions s n t m
  pub tables0_same : tables0 t ≡ tables0 s
  pub tables1_same : tables1 t ≡ tables1 s
  pub lasts_same : t.counts.lasts ≡ s.counts.lasts
  pub free : free_count s.btt ≤ free_count t.btt
  pub owed : waiting t.btt ≤ waiting s.btt
  pub pages : LeavesPages thynvm_design s t
  pub work : HasNoWork s → HasNoWork t

pages_of : (s t : State) → KeepsCounts s t → LeavesPages thynvm_design s t
pages_of s t counts = record {
  whole = λ h. ap (λ (x : ℕ). nat_lt 0 x) counts.promoted_same ∙ h;
  merges = counts.overlays_are;
  promotions = let same = counts.unfilled_same in omega (arith, same);
}

pub meant_on : (s t : State) (g : List Block) (v : LayoutVersion) (kept : ℕ) (before after : Tables) → t.p ≡ s.p → after ≡ before
    → HoldsCheckpoint s.p g v kept before → HoldsCheckpoint t.p g v kept after
meant_on s t g v kept before after p same meant = coe 1 0 (i. HoldsCheckpoint (p i) g v kept (same i)) meant

counted_on : (s t : State) (g : List Block) (v : LayoutVersion) → t.p ≡ s.p → t.counts.lasts ≡ s.counts.lasts
    → counts_in v s.p (slot_in s.p g) ≡ s.counts.lasts → counts_in v t.p (slot_in t.p g) ≡ t.counts.lasts
counted_on s t g v p same counted = ap (λ (q : Parameters). counts_in v q (slot_in q g)) p ∙ counted ∙ sym same

-- in the same phase
pub counts_on : (s t : State) → t.p ≡ s.p → t.counts.lasts ≡ s.counts.lasts → (p : Phase) (v : LayoutVersion) (g : List Block)
    → IsCounted p v s g → IsCounted p v t g
counts_on s t p same Resting v g h = counted_on s t g v p same h
counts_on s t p same phase v g h = tt

pub makes_on : (epoch : ℕ) (s t : State) → t.p ≡ s.p → tables1 t ≡ tables1 s → t.counts.lasts ≡ s.counts.lasts → (p : Phase) (g : List Block)
    → MakesAt thynvm_design p epoch s g → MakesAt thynvm_design p epoch t g
makes_on epoch s t p tables lasts Made g h = record {
  meant = meant_on s t g VersionTwo epoch (tables1 s) (tables1 t) p tables h.meant;
  counted = counted_on s t g VersionTwo p lasts h.counted;
}
makes_on epoch s t p tables lasts phase g h = h

module _ (epoch : ℕ) (s : State) (n : Device) (t : State) (m : Device) (k : Keeping s n t m) where
  pub carried : (p q : Phase) → IsMoment thynvm_design q epoch t m → ((kept : ℕ) → IsOther p epoch kept → IsOther q epoch kept)
      → ((v : LayoutVersion) (g : List Block) → IsCounted p v s g → IsCounted q v t g)
      → ((g : List Block) → MakesAt thynvm_design p epoch s g → MakesAt thynvm_design q epoch t g)
      → (HasRoom p s → HasRoom q t) → Carries thynvm_design epoch p s n q t m
  carried p q moment other counted makes room = record {
    moment = moment;
    same_p = k.same_p;
    room = k.room;
    loads = blocks-agree (work_of t m) (work_of s n) s.p t.p k.same_p k.versions.work_same;
    sealed = blocks-agree (last_of t m) (last_of s n) s.p t.p k.same_p k.versions.last_same;
    committed = blocks-agree (penult_of t m) (penult_of s n) s.p t.p k.same_p k.versions.penult_same;
    keeps = λ g h. record {
      version = h.version;
      kept = h.kept;
      meant = meant_on s t g h.version h.kept (tables0 s) (tables0 t) k.same_p k.tables0_same h.meant;
      other = other h.kept h.other;
      counted = counted h.version g h.counted;
    };
    makes = makes;
    rests = rests_on;
    free = k.free;
    opened = inl refl;
    owed = k.owed;
    owed_later = let owed = k.owed in omega (arith, owed);
    pages = k.pages;
  }
    where
      rests_on : (a b : Bool) → rests_at a b p s → rests_at a b q t
      rests_on true b r = record { no_work = k.work r.no_work; room = λ l. room (r.room l) }
      rests_on false b r = tt

  module _ (but : IsButCopied s t) where
    rest_on : IsOfRest s → IsOfRest t
    rest_on r = record { before = r.before; tables = r.tables; same_p = r.same_p ∙ sym k.same_p; no_work = r.no_work; copied = but ∙ r.copied }

    room_on : (p : Phase) → HasRoom p s → HasRoom p t
    room_on Resting r = let free = k.free in omega (arith, r, free)
    room_on p r = rest_on r

    pub carried_on : (p : Phase) → IsMoment thynvm_design p epoch t m → Carries thynvm_design epoch p s n p t m
    carried_on p moment =
        carried p p moment (λ kept h. h) (counts_on s t k.same_p k.lasts_same p)
        (makes_on epoch s t k.same_p k.tables1_same k.lasts_same p) (room_on p)

-- with the same controller, but for the DRAM
keeping_over : (s : State) (dram : Contents) → dram.room ≡ s.dram.room → (n m : Device)
    → KeepsVersions s n (record s { dram = dram }) m → Keeping s n (record s { dram = dram }) m
keeping_over s dram room n m versions = record {
  same_p = refl;
  room = room;
  versions = versions;
  tables0_same = refl;
  tables1_same = refl;
  lasts_same = refl;
  free = omega arith;
  owed = omega arith;
  pages = record { whole = λ h. h; merges = omega arith; promotions = omega arith };
  work = λ h. record { no_work = h.no_work };
}

keeping_same : (s : State) (n m : Device) → KeepsVersions s n s m → Keeping s n s m
keeping_same s n m versions = keeping_over s s.dram refl n m versions

same_versions : (s : State) (n : Device) → HoldAll s n → KeepsVersions s n s n
same_versions s n hold = record { penult_same = λ b l. refl; last_same = λ b l. refl; work_same = λ b l. refl; holds = hold }

-- ---- a write of the slot's own, or of the commit block, and devices

own_carried : (e : Progress) (s : State) (n : Device) (x : ℕ) (block : Block) → IsMoment thynvm_design Made e.epoch s n → s.p ≡ e.p
    → IsOwn thynvm_design e x
    → Carries thynvm_design e.epoch Made s n Made s (written_to n x block)
own_carried e s n x block moment same own =
    let sized : IsSized s n = record { nvm = moment.sized } in
    let versions = versions_apart s n x block moment.sound sized moment.holds (own_apart e s x same own) in
    carried_on e.epoch s n s (written_to n x block) (keeping_same s n (written_to n x block) versions) refl Made
    (record { sound = moment.sound; sized = length-written_to n x block ∙ moment.sized; stands = moment.stands; holds = versions.holds })

reads_carried : (phase : Phase) (epoch : ℕ) (s : State) (n m : Device) → IsMoment thynvm_design phase epoch s n → ReadsSame n m
    → Carries thynvm_design epoch phase s n phase s m
reads_carried phase epoch s n m moment r =
    let sized : IsSized s n = record { nvm = moment.sized } in
    let versions = versions_same s n m moment.sound sized moment.holds r in
    carried_on epoch s n s m (keeping_same s n m versions) refl phase
    (record { sound = moment.sound; sized = r.as_long ∙ moment.sized; stands = moment.stands; holds = versions.holds })

-- a write of the DRAM that landed
pub tables_drained : (s : State) → AreSoundTables s → AreSoundTables (after_drain s)
tables_drained s t = record {
  range = t.range;
  btt_size = t.btt_size;
  btt_numbers = t.btt_numbers;
  btt_once = t.btt_once;
  live_blocks = t.live_blocks;
  ptt_size = t.ptt_size;
  ptt_numbers = t.ptt_numbers;
  ptt_once = t.ptt_once;
  live_pages = t.live_pages;
  counts = t.counts;
  dram_size = t.dram_size;
  cells = t.cells;
}

at_drained : (way : Bool) (s : State) → StandsAt way s → StandsAt way (after_drain s)
at_drained way s at =
    record { tables = tables_drained s at.tables; way_is = at.way_is; promotes = λ p. record { no_work = (at.promotes p).no_work } }

pub stands_drained : (phase : Phase) (s : State) → items_thynvm.stands phase s → items_thynvm.stands phase (after_drain s)
stands_drained Resting s h = at_drained false s h
stands_drained (Making from) s h = at_drained true s h
stands_drained Made s h = record { at = at_drained true s h.at; copied = λ b l. h.copied b l }
stands_drained (Applying from) s h = h

drain_carried : (phase : Phase) (epoch : ℕ) (s : State) (n : Device) → IsMoment thynvm_design phase epoch s n
    → Carries thynvm_design epoch phase s n phase (after_drain s) n
drain_carried phase epoch s n moment =
    carried_on epoch s n (after_drain s) n
    (keeping_over s (after_drain s).dram refl n n
    (record { penult_same = λ b l. refl; last_same = λ b l. refl; work_same = λ b l. refl; holds = moment.holds }))
    refl phase
    (record { sound = tables_drained s moment.sound; sized = moment.sized; stands = stands_drained phase s moment.stands; holds = moment.holds })

-- ---- the body

module _ (s : State) (n : Device) (at : StandsAt true s) (sized : IsSized s n) (hold : HoldAll s n) where
  keeping_copied : (i : ℕ) → next_copy s ≡ Some i
      → Keeping s n (with_copied (block_listed i s) s)
      (written_to n (number_of s.p (target (cell_of s (block_listed i s)))) (reads s n (last (cell_of s (block_listed i s)))))
  unfolding devices_copied
  keeping_copied i found =
      let b : ℕ = block_listed i s in
      let c : Cell = cell_of s b in
      let next : IsNext s b = IsNext-entry s at.tables i found in
      let listed = listed-pending b s next.pending in
      let state : copied b s n ≡ with_copied b s = copied_is b s n in
      let nvm : (devices_copied b s n).nvm ≡ written_to n (number_of s.p (target c)) (reads s n (last c))
      = written-nvm (in_dram (target c)) (number_of s.p (target c)) (reads s n (last c)) (devices_of n s.dram) (target-in_nvm s b) in
      let all : KeepsAll s n (copied b s n) (devices_copied b s n).nvm =
      subst (λ (o : Option ℕ). KeepsAll s n (after_next_copy o s n) (devices_after_copy o s n)) found
      (KeepsAll-next copy_keeps s n at.tables sized) in
      let counts : KeepsCounts s (with_copied b s) = subst (λ (x : State). KeepsCounts s x) state (counts-copied b s n next.pending) in
      let now : KeepsAll s n (with_copied b s) (written_to n (number_of s.p (target c)) (reads s n (last c))) =
      coe 0 1 (i. KeepsAll s n (state i) (nvm i)) all in
      record {
        same_p = refl;
        room = refl;
        versions = record {
          penult_same = now.checkpoints.penult_same;
          last_same = now.checkpoints.last_same;
          work_same = now.work.work_same;
          holds = now.holds hold;
        };
        tables0_same = ap (λ (x : List (Option ℕ)). record (tables0 s) { btt = x })
            (map-block (λ e. entry_lists e.v0 e.block) s b (after_copy c).entry listed refl);
        tables1_same = ap (λ (x : List (Option ℕ)). record (tables1 s) { btt = x })
            (map-block (λ e. entry_lists e.v1 e.block) s b (after_copy c).entry listed refl);
        lasts_same = refl;
        free = counts.free;
        owed = counts.owed;
        pages = pages_of s (with_copied b s) counts;
        work = no_work_copied s b next;
      }

  keeping_issued : (j : ℕ) → next_page s ≡ Some j
      → Keeping s n (with_issued (block_to_write j s) s)
      (written_to n (number_of s.p (target (cell_of s (block_to_write j s)))) (reads s n (frame_at (seat_of (cell_of s (block_to_write j s))))))
  unfolding devices_issued
  keeping_issued j found =
      let b : ℕ = block_to_write j s in
      let c : Cell = cell_of s b in
      let v : Block = reads s n (frame_at (seat_of c)) in
      let due : IsDue s b = IsDue-entry s at.tables j found in
      let listed = listed-busy b s due.busy in
      let state : issued b s n ≡ with_issued b s = issued_is b s n in
      let nvm : (devices_issued b s n).nvm ≡ written_to n (number_of s.p (target c)) v
      = written-nvm (in_dram (target c)) (number_of s.p (target c)) v (devices_of n s.dram) (target-in_nvm s b) in
      let all : KeepsNext s n (issued b s n) (devices_issued b s n).nvm =
      subst (λ (o : Option ℕ). KeepsNext s n (after_next_write o s n) (devices_after_write o s n)) found
      (KeepsNext-write page_write_keeps page_write_keeps_others s n at.tables sized) in
      let counts : KeepsCounts s (with_issued b s) = subst (λ (x : State). KeepsCounts s x) state (counts-issued b s n due.busy) in
      let now : KeepsNext s n (with_issued b s) (written_to n (number_of s.p (target c)) v) =
      coe 0 1 (i. KeepsNext s n (state i) (nvm i)) all in
      let held : StaysHeld s n (with_issued b s) (written_to n (number_of s.p (target c)) v) = now.held hold in
      record {
        same_p = refl;
        room = refl;
        versions = record {
          penult_same = now.committed.penult_same;
          last_same = held.last_same;
          work_same = now.work.work_same;
          holds = held.holds;
        };
        tables0_same = ap (λ (x : List (Option ℕ)). record (tables0 s) { ptt = x })
            (map-page (λ e. page_lists e.place e.page) s b (page_issued c.page) listed refl);
        tables1_same = ap (λ (x : List (Option ℕ)). record (tables1 s) { ptt = x })
            (map-page (λ e. page_lists e.target e.page) s b (page_issued c.page) listed refl);
        lasts_same = refl;
        free = counts.free;
        owed = counts.owed;
        pages = pages_of s (with_issued b s) counts;
        work = λ h. record { no_work = h.no_work };
      }

  keeping_by : (i j : Option ℕ) (k : ℕ) → next_copy s ≡ i → next_page s ≡ j → position_by s i j ≡ Some k
      → Keeping s n (written_by s i j) (written_to n (number_of s.p (target (cell_of s (block_by s i j)))) (reads s n (source_by s i j)))
  keeping_by (Some i) j k copy page is = keeping_copied i copy
  keeping_by None (Some j) k copy page is = keeping_issued j page
  keeping_by None None k copy page is = cc

  but_by : (i j : Option ℕ) (k : ℕ) → next_copy s ≡ i → next_page s ≡ j → position_by s i j ≡ Some k → IsButCopied s (written_by s i j)
  but_by (Some i) j k copy page is =
      let b : ℕ = block_listed i s in
      subst (λ (x : State). IsButCopied s x) (copied_is b s n) (but-copied b s n (IsNext-entry s at.tables i copy).pending)
  but_by None (Some j) k copy page is = refl
  but_by None None k copy page is = cc

body_carried : (epoch : ℕ) (s : State) (n : Device) (k : ℕ) → IsMoment thynvm_design (Making k) epoch s n → next_position s ≡ Some k
    → Carries thynvm_design epoch (Making k) s n (Making (k + 1)) (written_next s)
    (written_to n (number_of s.p (target_next s)) (reads s n (source_next s)))
body_carried epoch s n k moment next =
    let x : ℕ = number_of s.p (target_next s) in
    let block : Block = reads s n (source_next s) in
    let keeping = keeping_by s n moment.stands (record { nvm = moment.sized }) moment.holds (next_copy s) (next_page s) k refl refl next in
    let stands = stands_by s moment.stands (next_copy s) (next_page s) k refl refl next in
    carried epoch s n (written_next s) (written_to n x block) keeping (Making k) (Making (k + 1))
    (record {
      sound = stands.tables;
      sized = length-written_to n x block ∙ moment.sized ∙ ap image_blocks (sym keeping.same_p);
      stands = stands;
      holds = keeping.versions.holds;
    })
    (λ kept h. h) (λ v g h. tt) (λ g h. h) (rest_on epoch s n (written_next s) (written_to n x block) keeping
    (but_by s n moment.stands (record { nvm = moment.sized }) moment.holds (next_copy s) (next_page s) k refl refl next))

body_past : (epoch : ℕ) (s : State) (n : Device) (from k : ℕ) → IsMoment thynvm_design (Making from) epoch s n → next_position s ≡ Some k
    → Carries thynvm_design epoch (Making from) s n (Making k) s n
body_past epoch s n from k moment next =
    carried epoch s n s n (keeping_same s n n (same_versions s n moment.holds)) (Making from) (Making k)
    (record { sound = moment.sound; sized = moment.sized; stands = moment.stands; holds = moment.holds })
    (λ kept h. h) (λ v g h. tt) (λ g h. h) (λ r. r)

body_whole : (epoch : ℕ) (s : State) (n : Device) (from : ℕ) → IsMoment thynvm_design (Making from) epoch s n → next_position s ≡ None
    → Carries thynvm_design epoch (Making from) s n Made s n
body_whole epoch s n from moment none =
    carried epoch s n s n (keeping_same s n n (same_versions s n moment.holds)) (Making from) Made
    (record { sound = moment.sound; sized = moment.sized; stands = items_are.body_ends s from moment.stands none; holds = moment.holds })
    (λ kept h. h) (λ v g h. tt) (λ g no. absurd no) (λ r. r)

-- ---- the place of a position

-- at the place where a block is to be, the committed checkpoint has none
record IsMoving (s : State) (b : ℕ) : Type 0 where
  inside : b < memory_blocks s.p
  moves : penult (cell_of s b) ≢ target (cell_of s b)

module _ (s : State) (t : AreSoundTables s) where
  moving_copied : (b : ℕ) → IsNext s b → IsMoving s b
  moving_copied b next =
      let c : Cell = cell_of s b in
      let sound = t.cells b next.inside in
      record {
        inside = next.inside;
        moves = versions_differ c.entry.v0 c.entry.v1 c.page.place c.page.target (seat_of c) (sound.pending_moves next.pending)
            (sound.pending_still next.pending) (sound.pending_home next.pending);
      }

  moving_issued : (b : ℕ) → IsDue s b → IsMoving s b
  moving_issued b due =
      let c : Cell = cell_of s b in
      let sound = t.cells b due.inside in
      let out : c.entry.v1 ≡ Out = sound.framed_out (busy-framed s.under_way c.page sound.of_page due.busy)
      (busy-old s.under_way c.page sound.of_page due.busy) in
      record {
        inside = due.inside;
        moves = sites_apart c.entry.v0 c.entry.v1 c.page.place c.page.target (seat_of c) out (sound.of_page.busy_moves due.busy);
      }

  moving_by : (i j : Option ℕ) (k : ℕ) → next_copy s ≡ i → next_page s ≡ j → position_by s i j ≡ Some k → IsMoving s (block_by s i j)
  moving_by (Some i) j k copy page is = moving_copied (block_listed i s) (IsNext-entry s t i copy)
  moving_by None (Some j) k copy page is = moving_issued (block_to_write j s) (IsDue-entry s t j page)
  moving_by None None k copy page is = cc

  unused : (b : ℕ) → IsMoving s b → IsUnused s.p (tables0 s) (target (cell_of s b))
  unused b moving = record {
    none = λ m l e.
        let there : penult (cell_of s m) ≡ target (cell_of s b) = sym ((AreTablesOf-committed s t).same_place m l) ∙ e in
        elim (cases_eq m b) as (λ _. ⊥) [
          | inl same ↦ moving.moves (ap (λ (x : ℕ). penult (cell_of s x)) (sym same) ∙ there)
          | inr ne ↦ owned-apart s m b (penult (cell_of s m)) (target (cell_of s b)) ne
              (owned-penult s m (cell_of s m) (Owns-cell_of s m)) (owned-target s b (cell_of s b) (Owns-cell_of s b)) there
        ];
  }

free_place : (p : Parameters) (v : LayoutVersion) (kept : ℕ) (t : Tables) (x : Place) → IsUnused p t x → IsFree p v kept t (PlaceBlock x)
free_place p VersionOne kept t x h = h
free_place p VersionTwo kept t x h = h

body_spares : (epoch : ℕ) (s : State) (n : Device) (k : ℕ) (g : List Block) → IsMoment thynvm_design (Making k) epoch s n
    → next_position s ≡ Some k
    → IsKeptBy (Making k) epoch s g → IsSpared thynvm_design s g (number_of s.p (target_next s))
body_spares epoch s n k g moment next keeps =
    let b : ℕ = block_by s (next_copy s) (next_page s) in
    let c : Cell = cell_of s b in
    let moving : IsMoving s b = moving_by s moment.sound (next_copy s) (next_page s) k refl refl next in
    let side : in_dram (target c) ≡ false = target-in_nvm s b in
    let behind : first_home s.p ≤ number_of s.p (target c) = behind_slots s.p (target c) side in
    spared s g keeps.version keeps.kept (PlaceBlock (target c)) keeps.meant
    (IsPlace-target s.p c (IsWithin-cell_of s b moment.sound moving.inside), side)
    (free_place s.p keeps.version keeps.kept (tables0 s) (target c) (unused s moment.sound b moving)) (λ q. omega (arith, q, behind))

-- ---- the commit

commits_to : (epoch : ℕ) (s : State) (n : Device) → IsMoment thynvm_design Made epoch s n
    → Commits thynvm_design epoch s n Resting (committed_state s) n
unfolding committed_state
commits_to epoch s n moment =
    let at = moment.stands.at in
    let to = items_are.commits s moment.stands in
    let versions : CommitsVersions s (committed_state s) n =
    Commits-committed s at.tables at.way_is moment.stands.copied commit_moves n moment.holds in
    let tables = CommitsTables-committed s at.tables in
    record {
      moment = record { sound = to.stands.tables; sized = moment.sized; stands = to.stands; holds = versions.holds };
      same_p = refl;
      room = refl;
      loads = blocks-agree (work_of (committed_state s) n) (work_of s n) s.p s.p refl versions.work_same;
      committed = blocks-agree (penult_of (committed_state s) n) (last_of s n) s.p s.p refl versions.penult_is;
      keeps = λ g h. record {
        version = VersionTwo;
        kept = epoch;
        meant = subst (λ (x : Tables). HoldsCheckpoint s.p g VersionTwo epoch x) (sym tables.tables0_next) h.meant;
        other = tt;
        counted = h.counted;
      };
      rests = rests_to;
      free = free-committed s;
      opened = inl refl;
      owed_later = omega (arith, owed-committed s at.tables);
      pages = record {
        whole = λ h. ap (λ (x : ℕ). nat_lt 0 x) (promoted-committed s at.tables) ∙ h;
        merges = overlays-committed s at.tables;
        promotions = omega (arith, unfilled-committed s at.tables);
      };
    }
  where
    half : IsOfRest s → 2 ≤ free_count (committed_state s).btt
    half r =
        let none = HasNoneLeft-copied s moment.stands.at.tables moment.stands.copied in
        let same : s.btt ≡ mapped settled (sealed_state r.before).btt = sym (settled-done s none.copies) ∙ r.copied in
        let free : r.before.p.btt ≤ 2 * free_count (committed_state s).btt = half_free r.before s r.tables r.no_work same in
        let least : 8 ≤ r.before.p.btt = btt_least r.before.p r.tables.range in
        omega (arith, free, least)

    rests_to : (a b : Bool) → rests_at a b Made s → rests_at a b Resting (committed_state s)
    rests_to true b r = record { no_work = HasNoWork-committed s r.no_work; room = λ l. half (r.room l) }
    rests_to false b r = tt

-- ---- the seal

seals_to : (before epoch : ℕ) (s : State) (n : Device) → IsMoment thynvm_design Resting before s n → is_promoting s ≡ false
    → is_overlaid s ≡ false
    → SealsTo thynvm_design before epoch s (sealed_state s) n
unfolding sealed_state
seals_to before epoch s n moment unpromoted uncovered =
    let t = moment.sound in
    let idle : s.under_way ≡ false = moment.stands.way_is in
    let whole : IsWholeState s = IsWholeState-none s (none-left (promoted s.ptt) unpromoted) in
    let bare : IsBareState s = IsBareState-none s (none-left (overlays s) uncovered) in
    let now : AreSoundTables (sealed_state s) = AreSoundTables-sealed s t idle whole bare seal_keeps_sound seal_takes listing_keeps in
    let versions : SealsVersions s (sealed_state s) n =
    Seals-sealed s t idle whole bare seal_keeps_sound seal_takes listing_keeps seal_moves n moment.holds in
    let idle_now : HasNoWork (sealed_state s) = HasNoWork-sealed seal_takes s t idle bare in
    record {
      moment = record {
        sound = now;
        sized = moment.sized;
        stands = record { tables = now; way_is = refl; promotes = λ p. idle_now };
        holds = versions.holds;
      };
      same_p = refl;
      dram = refl;
      loads = blocks-agree (work_of (sealed_state s) n) (work_of s n) s.p s.p refl versions.work_same;
      sealed = blocks-agree (last_of (sealed_state s) n) (work_of s n) s.p s.p refl versions.last_is;
      committed = blocks-agree (penult_of (sealed_state s) n) (penult_of s n) s.p s.p refl (KeepsCommitted-sealed s t now n).penult_same;
      keeps = λ g next h. record {
        version = h.version;
        kept = h.kept;
        meant = subst (λ (x : Tables). HoldsCheckpoint s.p g h.version h.kept x) (sym (tables0-sealed s t)) h.meant;
        other = λ q. let of = h.meant.of_epoch in omega (arith, next, of, q);
        counted = tt;
      };
      rests = λ a b r. record { no_work = idle_now; room = λ l. rest_of a l b r };
      free = omega (arith, free-sealed s);
      opened = inl refl;
    }
  where
    rest_of : (a : Bool) → a ≡ true → (b : Bool) → rests_at a b Resting s → IsOfRest (sealed_state s)
    rest_of true l b r = record { before = s; tables = moment.sound; same_p = refl; no_work = r.no_work; copied = refl }
    rest_of false l b r = cc

-- ---- sizes

length-loads : (s : State) (n : Device) → length (loads s n) ≡ memory_blocks s.p
length-loads s n = length-map-range_with_len (work_of s n) 0 (memory_blocks s.p)

length-penults : (s : State) (n : Device) → length (penults s n) ≡ memory_blocks s.p
length-penults s n = length-map-range_with_len (penult_of s n) 0 (memory_blocks s.p)

few : (phase : Phase) (s : State) → AreSoundTables s → IsFew thynvm_design phase s
few phase s t = record {
  merges = overlays-few s t;
  promotions = unfilled-few s t;
  owed = omega (arith, owed-few s t);
  free = free-few s t;
}

-- ---- all of it

pub is_design : IsDesign thynvm_design
is_design = record {
  fills = filling_is_lawful;
  items = items_are;
  in_range = λ s t. t.range;
  loads_length = length-loads;
  committed_length = λ phase s n. length-penults s n;
  dram_length = λ s t. t.dram_size;
  agreeing = λ phase epoch s n moment. refl;
  few = λ phase epoch s n moment. few phase s moment.sound;
  merged_all = λ s none. none-left (overlays s) none;
  promoted_all = λ s none. unfilled-none s (none-left (promoted s.ptt) none);
  rests_room = λ s t rests. rests.room refl;
  slot_fits = slot_fits;
  slot_makes = λ e s n g state moment can decodes commit is. slot_makes e s n moment can g commit is;
  slot_spared = λ e s n g k moment can keeps l. slot_spared e s n moment can g k keeps l;
  own_carries = own_carried;
  body_carries = body_carried;
  body_spared = body_spares;
  body_passes = body_past;
  body_ends = body_whole;
  made_reads = made_reads;
  commits = commits_to;
  tail_carries = λ epoch s n k moment next. absurd moment.stands;
  tail_spared = λ epoch s n k g moment next keeps. absurd moment.stands;
  tail_passes = λ epoch s n from k moment next. absurd moment.stands;
  releases = λ epoch s n from moment none. absurd moment.stands;
  seals = λ before epoch s n moment whole bare.
      subst (λ (t : State). SealsTo thynvm_design before epoch s t n) (sym (ap (λ (w : Bool). if w then s else sealed_state s) moment.stands.way_is))
      (seals_to before epoch s n moment whole bare);
  same_reads = reads_carried;
  dram_drained = drain_carried;
  drained_rest = λ s k. refl;
  drained_dram = λ s. refl;
  drained_left = λ s from. omega arith;
  rests_of_any = λ before epoch s n moment. record { sound = moment.sound; sized = moment.sized; stands = moment.stands; holds = moment.holds };
}
