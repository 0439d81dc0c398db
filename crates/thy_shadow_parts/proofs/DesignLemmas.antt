-- Shadow paging is a scheme of lawful parts: what holds of its checkpoints, and that no item writes into a committed page.
use Rattle.std.proofs.Common.{◌≡◌, ◌≢◌, ℕ, ◌+◌, ◌/◌, ◌%◌, ◌<◌, true, Option, Some, None, is_some, refl, sym, ◌∙◌, ap, arith, ◌-◌, ◌*◌, ◌^◌, ◌≤◌, Bool, false, is_none, List, ◌∷◌, length, map, subst, inl, inr}
use Rattle.std.proofs.lemmas.List.FromFn.{length-map-range_with_len}
use Rattle.std.proofs.lemmas.List.Sums.{count_by-le-length}
use Rattle.thy_block.specs.declared.block.Block.{Block}
use Rattle.thy_block.specs.Device.{Device, block_at, newest, written_to}
use Rattle.thy_block.specs.declared.parameters.Parameters.{Parameters}
use Rattle.thy_block.specs.Geometry.{memory_blocks}
use Rattle.thy_block.proofs.BasicLemmas.{not_first}
use Rattle.thy_block.proofs.DeviceLemmas.{length-written_to}
use Rattle.thy_table.specs.Listing.{entry_at, free_count}
use Rattle.thy_table.proofs.ListingLaws.{entry_at-cleared, free_count-all, free_count-mapped}
use Rattle.thy_layout.specs.Commit.{commit_of, epoch_of}
use Rattle.thy_layout.specs.Entries.{Lists}
use Rattle.thy_layout.proofs.AskingLemmas.{half}
use Rattle.thy_layout.specs.Layout.{slot_in, looked_by}
use Rattle.thy_layout.proofs.ReadBackLemmas.{epoch_of-commit_of}
use Rattle.thy_computer.specs.Action.{WriteAt}
use Rattle.thy_computer.specs.Safe.{ceiling}
use Rattle.thy_computer.specs.declared.round.Round.{Round}
use Rattle.thy_computer.specs.declared.round.Round.TheVariants.{Write, Commit}
use Rattle.thy_computer.specs.Round.{IsInRound}
use Rattle.thy_checkpoint.specs.declared.engine_stage.EngineStage.{EngineStage}
use Rattle.thy_checkpoint.specs.declared.engine_stage.EngineStage.TheVariants.{Idle, Body, InRound, Tail}
use Rattle.thy_checkpoint.specs.Progress.{Progress, BodyItem, RoundItem, phase_of, item, body_or_slot, action_of}
use Rattle.thy_checkpoint.specs.Items.{AreItems, Phase, Resting, Making, Made, Applying}
use Rattle.thy_scheme_parts.specs.IsDesign.{IsDesign, CanRecord, IsSpared}
use Rattle.thy_scheme_parts.specs.Moments.{IsMoment, Carries, Commits, SealsTo, ReadsSame, IsOwn, slot_list, parts_at}
use Rattle.thy_scheme_parts.proofs.SameLemmas.{moment_of, carried, makes_alike}
use Rattle.thy_images.specs.ShadowPlaces.{slot_blocks, slot_place, first_pool, pool_place, pool_page, image_blocks}
use Rattle.thy_images.proofs.ShadowLayoutLemmas.{slot_behind, free_not_looked}
use Rattle.thy_images.specs.ShadowCheckpointParts.{ReadsBack, HoldsCheckpoint, memory_places}
use Rattle.thy_images.specs.ShadowFree.{Target, SlotBlock, PoolBlock, target_place as place_of_target, IsTarget, IsFree}
use Rattle.thy_images.specs.ShadowLayout.{shadow_layouts}
use Rattle.thy_images.specs.ShadowSlots.{IsMap, table_in, slot_fault}
use Rattle.thy_images.proofs.ShadowSlotLemmas.{slot_reads_back}
use Rattle.thy_shadow_parts.specs.Items.{next_block}
use Rattle.thy_shadow_parts.specs.State.{State, IsSoundState, target_place, committed_table, target, frame_block, next_table, committed_of, work_of}
use Rattle.thy_shadow_parts.proofs.TableLemmas.{target_free, IsMap-next, committed_table-committed}
use Rattle.thy_shadow_parts.specs.declared.entry.Framed.{Framed}
use Rattle.thy_shadow_parts.specs.Commit.{sealed_state, committed_state}
use Rattle.thy_shadow_parts.specs.Holding.{works, commits, agree_by, copies_agree}
use Rattle.thy_shadow_parts.specs.Keys.{freed_frame}
use Rattle.thy_shadow_parts.specs.Stores.{after_drain}
use Rattle.thy_shadow_parts.proofs.CommitLemmas.{filled-inside}
use Rattle.thy_shadow_parts.proofs.DrainLemmas.{works_drained, IsSoundState-drained}
use Rattle.thy_shadow_parts.proofs.StateLemmas.{IsSoundState-committed, IsSoundState-sealed}
use Rattle.thy_shadow_parts.specs.Filling.{filling_shadow}
use Rattle.thy_shadow_parts.proofs.LawLemmas.{pool_is_listed}
use Rattle.thy_shadow_parts.specs.Design.{items_shadow, stands_at, IsUnbegun, ArePaged, holds, IsKeptBy, rests_at, owed_now, owed_then, shadow_design}
use Rattle.thy_shadow_parts.specs.Laws.{CommittedIsSpared}
use Rattle.thy_shadow_parts.proofs.PhaseLemmas.{next_filled, target_of, next_free, IsAside, aside_before, aside_page, works_over, commits_over, committed_reads, works_reads, commits_reads, copies_same, paged_on, paged_all, paged_over, paged_reads, all_reads, memory_is_work, commits_are_works, works_confirm, target_small}

module _ (e : Progress) (s : State) (n : Device) (at : ℕ) (block : Block) (x q c : ℕ) (same : s.p ≡ e.p)
    (lists : Lists (committed_table s) x q) (below : c < 64) where
  -- a block of the slot, and the commit block
  round_spared : (r : Round) → IsInRound (slot_blocks e.p) r → action_of filling_shadow items_shadow e (RoundItem r) s n ≡ WriteAt at block
      → at ≢ pool_place s.p q c
  round_spared Commit l act there = let is : 1 ≡ at = cc in omega (arith, is, there)
  round_spared (Write k) l act there =
      let is : slot_place e.p (epoch_of (commit_of e.epoch) % 2) + k ≡ at = cc in
      let before = (slot_behind e.p (epoch_of (commit_of e.epoch) % 2) k (half (epoch_of (commit_of e.epoch))) l).1 in
      let pool : first_pool s.p ≡ first_pool e.p = ap first_pool same in
      omega (arith, is, before, pool, there)
  round_spared r l act there = absurd (cc)

  -- a block of a frame
  page_spared : (y : ℕ) → IsSoundState s → is_some (entry_at s.frames (y / 64)) ≡ true
      → action_of filling_shadow items_shadow e (BodyItem y) s n ≡ WriteAt at block → at ≢ pool_place s.p q c
  page_spared y sound full act there =
      let is : target_place s (y / 64) (y % 64) ≡ at = cc in
      let goes = target_of s sound (y / 64) full in
      let place : pool_place s.p goes.0 (y % 64) ≡ pool_place s.p q c
      = sym (ap (λ (o : Option ℕ). pool_place s.p (pool_page o) (y % 64)) goes.1) ∙ is ∙ there in
      let page : goes.0 ≡ q = omega (arith, place, below) in
      target_free s sound (y / 64) q (goes.1 ∙ ap Some page) x lists

  pages_spared : (from : ℕ) → IsSoundState s → (o : Option ℕ) → next_block from s ≡ o
      → action_of filling_shadow items_shadow e (body_or_slot o) s n ≡ WriteAt at block → at ≢ pool_place s.p q c
  pages_spared from sound (Some y) found act = page_spared y sound (next_filled s from y found).1 act
  pages_spared from sound None found act = round_spared (Write 0) (omega arith) act

  by_stage : (g : EngineStage) → stands_at (phase_of g) s → ((r : Round) → g ≡ InRound r → IsInRound (slot_blocks e.p) r)
      → action_of filling_shadow items_shadow e (item items_shadow g s) s n ≡ WriteAt at block → at ≢ pool_place s.p q c
  by_stage Idle stands inside act = absurd (cc)
  by_stage (Body from) stands inside act = pages_spared from stands.sound (next_block from s) refl act
  by_stage (InRound r) stands inside act = round_spared r (inside r refl) act
  by_stage (Tail from) stands inside act = absurd stands

pub spared : CommittedIsSpared
spared e s n at block x q c fits way act lists below =
    by_stage e s n at block x q c fits.same_p lists below e.stage fits.stands fits.inside act

-- ---- items

-- a block that is next is the one from which it was looked for
onwards : (s : State) (from k : ℕ) → IsUnbegun s → next_block from s ≡ Some k → (next_block k s ≡ Some k) × IsUnbegun s
onwards s from k h found =
    let of = (next_filled s from k found).0 in
    (ap (λ (x : ℕ). next_block x s) (sym of) ∙ found, h)

counts : (s : State) (from k : ℕ) → IsUnbegun s → next_block from s ≡ Some k → 64 * s.p.ptt - (k + 1) + 1 ≤ 64 * s.p.ptt - from
counts s from k h found =
    let of = next_filled s from k found in
    omega (arith, of.0, filled-inside s (k / 64) h.sound of.1)

pub items_are : AreItems (shadow_design).filling items_shadow
items_are = record {
  body_onwards = onwards;
  tail_onwards = λ s from k none found. absurd none;
  body = λ s k h found. record { same_p = refl; dram = refl; stands = h };
  body_ends = λ s from h none. h;
  commits = λ s h. record { same_p = refl; dram = refl; stands = IsSoundState-committed s h.sound };
  tail = λ s k none found. absurd none;
  releases = λ s from none found. absurd none;
  body_counts = counts;
  tail_counts = λ s from k none found. absurd none;
  steps = λ p k. inr refl;
  body_most = λ s from h. omega arith;
  tail_most = λ p from. omega arith;
  tail_follows = λ s from none. absurd none;
}

-- ---- sizes

pub length-works : (s : State) (n : Device) → length (works s n) ≡ memory_blocks s.p
length-works s n = length-map-range_with_len (work_of s n) 0 (memory_blocks s.p)

pub length-commits : (s : State) (n : Device) → length (commits s n) ≡ memory_blocks s.p
length-commits s n = length-map-range_with_len (committed_of s n) 0 (memory_blocks s.p)

free-few : (s : State) → IsSoundState s → free_count s.frames ≤ s.p.ptt
free-few s sound = omega (arith, count_by-le-length (λ (o : Option Framed). is_none o) s.frames.entries, sound.frames_size)

-- the frames have room for two stores
some-free : (s : State) → IsSoundState s → free_count s.frames ≡ length s.frames.entries
    → 2 ≤ free_count s.frames
some-free s sound free = let range = sound.range in let size = sound.frames_size in omega (arith, free, size)

owed-few : (phase : Phase) (s : State) → IsSoundState s → owed_now s + owed_then phase s ≤ 64 * s.p.ptt
owed-few Resting s sound = omega (arith, free-few s sound)
owed-few phase s sound = omega (arith, free-few s sound)

-- ---- by phase

-- with no frame begun nothing was copied
unbegun_agrees : (s : State) (n : Device) → s.begun ≡ None → copies_agree s n ≡ true
unbegun_agrees s n none = ap (agree_by s n) none

agreeing : (phase : Phase) (epoch : ℕ) (s : State) (n : Device) → IsMoment shadow_design phase epoch s n → copies_agree s n ≡ true
agreeing Resting epoch s n moment = moment.holds
agreeing (Applying from) epoch s n moment = absurd moment.stands
agreeing phase epoch s n moment = unbegun_agrees s n moment.stands.unbegun

pub stands_drained : (phase : Phase) (s : State) → stands_at phase s → stands_at phase (after_drain s)
stands_drained Resting s h = IsSoundState-drained s h
stands_drained (Applying from) s h = h
stands_drained phase s h = record { sound = IsSoundState-drained s h.sound; unbegun = h.unbegun }

holds_drained : (phase : Phase) (epoch : ℕ) (s : State) (n : Device) → holds phase epoch s n → holds phase epoch (after_drain s) n
holds_drained Resting epoch s n h = h
holds_drained (Applying from) epoch s n h = tt
holds_drained phase epoch s n h = record { each = h.each }

owed_drained : (phase : Phase) (s : State) → owed_now (after_drain s) + owed_then phase (after_drain s) ≤ owed_now s + owed_then phase s
owed_drained Resting s = omega arith
owed_drained phase s = omega arith

holds_reads : (phase : Phase) (epoch : ℕ) (s : State) (n m : Device) → IsSoundState s → length n.image ≡ image_blocks s.p → ReadsSame n m
    → holds phase epoch s n → holds phase epoch s m
holds_reads Resting epoch s n m sound sized r h = copies_same s n m sound (committed_reads s n sound sized m r.reads) ∙ h
holds_reads (Making from) epoch s n m sound sized r h = paged_reads s n sound sized m from r.reads h
holds_reads Made epoch s n m sound sized r h = all_reads s n sound sized m r.reads h
holds_reads (Applying from) epoch s n m sound sized r h = tt

-- ---- what is free

kept_apart : (s : State) (g : List Block) (epoch : ℕ) (x : Target) → HoldsCheckpoint s.p g epoch (committed_table s) → IsTarget s.p x
    → IsFree epoch (committed_table s) x → place_of_target s.p x ≢ 0 → IsSpared shadow_design s g (place_of_target s.p x)
kept_apart s g epoch x meant there free low inside =
    free_not_looked s.p g epoch (committed_table s) x meant there free
    (not_first (place_of_target s.p x) 0 (1 ∷ looked_by (shadow_layouts s.p) g) (λ e. low (sym e)) inside)

-- ---- the slot

module _ (e : Progress) (s : State) (n : Device) (moment : IsMoment shadow_design Made e.epoch s n) (can : CanRecord shadow_design e s) where
  abbrev slot : List Block
  slot = slot_list shadow_design e s

  below : e.epoch < 2 ^ 64
  below = let small = can.small in omega (arith, small)

  whole : IsMap e.p (next_table s)
  whole = subst (λ (p : Parameters). IsMap p (next_table s)) can.same_p (IsMap-next s moment.sound)

  back : ReadsBack e.p ceiling e.cpu (next_table s) e.epoch slot
  back = slot_reads_back e.p ceiling e.cpu (next_table s) e.epoch can.range can.recordable whole (omega arith) below

  epoch_is : epoch_of (commit_of e.epoch) ≡ e.epoch
  epoch_is = epoch_of-commit_of e.epoch below

  pub slot_fits : (shadow_layouts e.p).slot_bad ceiling (commit_of e.epoch) slot ≡ None
  slot_fits = ap (λ (k : ℕ). slot_fault e.p ceiling k slot) epoch_is ∙ back.faultless

  pub slot_makes : (g : List Block) → block_at g 1 ≡ commit_of e.epoch → slot_in (shadow_layouts e.p) g ≡ slot
      → HoldsCheckpoint s.p g e.epoch (next_table s)
  slot_makes g commit is = record {
    of_epoch = ap epoch_of commit ∙ epoch_is;
    table_is =
        subst (λ (p : Parameters). table_in p (slot_in (shadow_layouts p) g) ≡ next_table s) (sym can.same_p)
        (ap (table_in e.p) is ∙ back.table_back);
    whole = IsMap-next s moment.sound;
  }

  -- the slot of a checkpoint is at the place of its epoch's slot
  place_is : (k : ℕ) → (shadow_layouts e.p).slot_place (commit_of e.epoch) + k ≡ slot_place s.p (e.epoch % 2) + k
  place_is k =
      ap (λ (x : ℕ). slot_place e.p (x % 2) + k) epoch_is ∙ ap (λ (p : Parameters). slot_place p (e.epoch % 2) + k) (sym can.same_p)

  pub slot_spared : (g : List Block) (k : ℕ) → IsKeptBy Made e.epoch s g → k < slot_blocks e.p
      → IsSpared shadow_design s g ((shadow_layouts e.p).slot_place (commit_of e.epoch) + k)
  slot_spared g k keeps l =
      subst (IsSpared shadow_design s g) (sym (place_is k))
      (kept_apart s g keeps.kept (SlotBlock (e.epoch % 2) k) keeps.meant
      (half e.epoch, subst (λ (p : Parameters). k < slot_blocks p) (sym can.same_p) l) keeps.other (λ q. omega (arith, q)))

  -- memory reads at its places by the slot as it was sealed
  pub made_reads : map (newest n) (parts_at shadow_design e s).memory ≡ works s n
  made_reads =
      ap (λ (t : List (Option ℕ)). map (newest n) (memory_places e.p t)) back.table_back
      ∙ ap (λ (p : Parameters). map (newest n) (memory_places p (next_table s))) (sym can.same_p)
      ∙ memory_is_work s n moment.holds

-- ---- a write of the slot's own, or of the commit block

-- a write before the pool leaves memory and the pages of the frames
over_before : (epoch : ℕ) (s : State) (n : Device) → IsMoment shadow_design Made epoch s n
    → (x : ℕ) (block : Block) → x < first_pool s.p
    → Carries shadow_design epoch Made s n Made s (written_to n x block)
over_before epoch s n moment x block low =
    let m : Device = written_to n x block in
    let aside : IsAside s x = aside_before s moment.sound x low in
    let same : works s m ≡ works s n = works_over s n moment.sound moment.sized x block aside in
    let there = paged_over s n moment.sound moment.sized x block low moment.holds in
    carried (moment_of moment (length-written_to n x block) moment.stands there) same same
    (commits_over s n moment.sound moment.sized x block aside) (λ g h. h) (λ g h. h) (λ a b r. r)
    (omega arith)

own_before : (e : Progress) (p : Parameters) (x : ℕ) → p ≡ e.p → IsOwn shadow_design e x
    → x < first_pool p
own_before e p x same (inl commit) = omega (arith, commit)
own_before e p x same (inr (k, l, is)) =
    let epoch : ℕ = epoch_of (commit_of e.epoch) in
    let before = (slot_behind e.p (epoch % 2) k (half epoch) l).1 in
    subst (λ (q : Parameters). x < first_pool q) (sym same) (omega (arith, before, is))

own_carried : (e : Progress) (s : State) (n : Device) (x : ℕ) (block : Block) → IsMoment shadow_design Made e.epoch s n → s.p ≡ e.p
    → IsOwn shadow_design e x
    → Carries shadow_design e.epoch Made s n Made s (written_to n x block)
own_carried e s n x block moment same own =
    over_before e.epoch s n moment x block (own_before e s.p x same own)

-- ---- the body

body_carried : (epoch : ℕ) (s : State) (n : Device) (x : ℕ) → IsMoment shadow_design (Making x) epoch s n → next_block x s ≡ Some x
    → Carries shadow_design epoch (Making x) s n (Making (x + 1)) s
    (written_to n (target_place s (x / 64) (x % 64)) (frame_block s (x / 64) (x % 64)))
body_carried epoch s n x moment found =
    let filled = (next_filled s x x found).1 in
    let to : ℕ = target_place s (x / 64) (x % 64) in
    let block : Block = frame_block s (x / 64) (x % 64) in
    let m : Device = written_to n to block in
    let aside : IsAside s to = aside_page s moment.sound x filled in
    let same : works s m ≡ works s n = works_over s n moment.sound moment.sized to block aside in
    let there = paged_on s n moment.sound moment.sized x filled moment.holds in
    carried (moment_of moment (length-written_to n to block) moment.stands there) same same
    (commits_over s n moment.sound moment.sized to block aside) (λ g h. record { kept = h.kept; meant = h.meant; other = h.other })
    (λ g h. h) (λ a b r. tt) (omega arith)

-- a frame's page of the pool is none of the committed map's
body_spares : (epoch : ℕ) (s : State) (n : Device) (x : ℕ) (g : List Block) → IsMoment shadow_design (Making x) epoch s n
    → next_block x s ≡ Some x
    → IsKeptBy (Making x) epoch s g → IsSpared shadow_design s g (target_place s (x / 64) (x % 64))
body_spares epoch s n x g moment found keeps =
    let sound = moment.sound in
    let of = target_of s sound (x / 64) (next_filled s x x found).1 in
    let q : ℕ = of.0 in
    let goes : target s (x / 64) ≡ Some q = of.1 in
    subst (IsSpared shadow_design s g) (ap (λ (at : Option ℕ). pool_place s.p (pool_page at) (x % 64)) (sym goes))
    (kept_apart s g keeps.kept (PoolBlock q (x % 64)) keeps.meant (target_small s sound (x / 64) q goes, omega arith)
    (λ y lists. target_free s sound (x / 64) q goes y lists) (λ e. omega (arith, e)))

body_past : (epoch : ℕ) (s : State) (n : Device) (from k : ℕ) → IsMoment shadow_design (Making from) epoch s n → next_block from s ≡ Some k
    → Carries shadow_design epoch (Making from) s n (Making k) s n
body_past epoch s n from k moment found =
    let there = subst (λ (x : ℕ). ArePaged s n x) (next_filled s from k found).0 moment.holds in
    carried (moment_of moment refl moment.stands there) refl refl refl (λ g h. record { kept = h.kept; meant = h.meant; other = h.other })
    (λ g h. h) (λ a b r. tt) (omega arith)

body_whole : (epoch : ℕ) (s : State) (n : Device) (from : ℕ) → IsMoment shadow_design (Making from) epoch s n → next_block from s ≡ None
    → Carries shadow_design epoch (Making from) s n Made s n
body_whole epoch s n from moment none =
    let there = paged_all s n moment.sound moment.sized from (next_free s from none) moment.holds in
    carried (moment_of moment refl moment.stands there) refl refl refl (λ g h. record { kept = h.kept; meant = h.meant; other = h.other })
    (λ g no. absurd no) (λ a b r. tt) (omega arith)

-- ---- the commit

rests_committed : (a : Bool) (s : State) → rests_at Resting a (committed_state s).frames
rests_committed true s =
    free_count-all (committed_state s).frames.entries
    (entry_at-cleared freed_frame (λ e. refl) s.frames)
rests_committed false s = tt

commits_to : (epoch : ℕ) (s : State) (n : Device) → IsMoment shadow_design Made epoch s n
    → Commits shadow_design epoch s n Resting (committed_state s) n
commits_to epoch s n moment = record {
  moment = record {
    sound = IsSoundState-committed s moment.sound;
    sized = moment.sized;
    stands = IsSoundState-committed s moment.sound;
    holds = refl;
  };
  same_p = refl;
  room = refl;
  loads = works_confirm s n moment.sound moment.holds;
  committed = commits_are_works s n moment.sound moment.holds;
  keeps = λ g meant. record {
    kept = epoch;
    meant = subst (HoldsCheckpoint s.p g epoch) (sym (committed_table-committed s moment.sound)) meant;
    other = tt;
  };
  rests = λ a b r. rests_committed a s;
  free = free_count-mapped freed_frame s.frames;
  opened = inl refl;
  owed_later = omega (arith, free-few (committed_state s) (IsSoundState-committed s moment.sound));
  pages = record { whole = λ h. h; merges = omega arith; promotions = omega arith };
}

-- ---- the seal, and devices

seals_to : (before epoch : ℕ) (s : State) (n : Device) → IsMoment shadow_design Resting before s n
    → SealsTo shadow_design before epoch s (sealed_state s) n
seals_to before epoch s n moment = record {
  moment = record {
    sound = IsSoundState-sealed s moment.sound;
    sized = moment.sized;
    stands = record { sound = IsSoundState-sealed s moment.sound; unbegun = refl };
    holds = record { each = λ j c l low filled. absurd (omega (arith, low)) };
  };
  same_p = refl;
  dram = refl;
  loads = refl;
  sealed = refl;
  committed = refl;
  keeps = λ g next h. record {
    kept = h.kept;
    meant = h.meant;
    other = λ q. let of = h.meant.of_epoch in omega (arith, next, of, q);
  };
  rests = λ a b r. tt;
  free = omega arith;
  opened = inl refl;
}

reads_carried : (phase : Phase) (epoch : ℕ) (s : State) (n m : Device) → IsMoment shadow_design phase epoch s n → ReadsSame n m
    → Carries shadow_design epoch phase s n phase s m
reads_carried phase epoch s n m moment r =
    let same : works s m ≡ works s n = works_reads s n moment.sound moment.sized m r.reads in
    let there = holds_reads phase epoch s n m moment.sound moment.sized r moment.holds in
    carried (moment_of moment r.as_long moment.stands there) same same
    (commits_reads s n moment.sound moment.sized m r.reads) (λ g h. h) (λ g h. h) (λ a b r. r)
    (omega arith)

drain_carried : (phase : Phase) (epoch : ℕ) (s : State) (n : Device) → IsMoment shadow_design phase epoch s n
    → Carries shadow_design epoch phase s n phase (after_drain s) n
drain_carried phase epoch s n moment = record {
  moment = record {
    sound = IsSoundState-drained s moment.sound;
    sized = moment.sized;
    stands = stands_drained phase s moment.stands;
    holds = holds_drained phase epoch s n moment.holds;
  };
  same_p = refl;
  room = refl;
  loads = works_drained s n;
  sealed = works_drained s n;
  committed = refl;
  keeps = λ g h. record { kept = h.kept; meant = h.meant; other = h.other };
  makes = λ g. makes_alike shadow_design phase epoch s (after_drain s) g (λ h. h);
  rests = λ a b r. r;
  free = omega arith;
  opened = inr refl;
  owed = omega arith;
  owed_later = owed_drained phase s;
  pages = record { whole = λ h. h; merges = omega arith; promotions = omega arith };
}

-- ---- all of it

pub is_design : IsDesign shadow_design
is_design = record {
  fills = pool_is_listed;
  items = items_are;
  in_range = λ s sound. sound.range;
  loads_length = length-works;
  committed_length = λ phase s n. length-commits s n;
  dram_length = λ s sound. sound.dram_size;
  agreeing = agreeing;
  few = λ phase epoch s n moment. record {
    merges = omega arith;
    promotions = omega arith;
    owed = owed-few phase s moment.sound;
    free = free-few s moment.sound;
  };
  merged_all = λ s none. refl;
  promoted_all = λ s none. refl;
  rests_room = some-free;
  slot_fits = slot_fits;
  slot_makes = λ e s n g state moment can decodes commit is. slot_makes e s n moment can g commit is;
  slot_spared = λ e s n g k moment can keeps l. slot_spared e s n moment can g k keeps l;
  own_carries = own_carried;
  body_carries = body_carried;
  body_spared = body_spares;
  body_passes = body_past;
  body_ends = body_whole;
  made_reads = made_reads;
  commits = commits_to;
  tail_carries = λ epoch s n k moment found. absurd moment.stands;
  tail_spared = λ epoch s n k g moment found keeps. absurd moment.stands;
  tail_passes = λ epoch s n from k moment found. absurd moment.stands;
  releases = λ epoch s n from moment none. absurd moment.stands;
  seals = λ before epoch s n moment whole bare. seals_to before epoch s n moment;
  same_reads = reads_carried;
  dram_drained = drain_carried;
  drained_rest = λ s k. refl;
  drained_dram = λ s. refl;
  drained_left = λ s from. omega arith;
  rests_of_any = λ before epoch s n moment. moment_of moment refl moment.stands moment.holds;
}
