-- Part of the claim.
-- The scheme thynvm as a scheme of parts. A position is an entry of the block table, whose version is copied, or,
-- after these, 64 times an entry of the page table and a block of its page, which is written from the frame.
use Rattle.std.specs.Prelude.{◌≡◌, ◌≢◌, ℕ, ◌+◌, ◌-◌, ◌*◌, ◌≤◌, nat_lt, Bool, true, false, not, if◌then◌else◌, List, map, Option, Some, None}
use Rattle.std.specs.List.{range_with_len}
use Rattle.thy_block.specs.declared.block.Block.{Block}
use Rattle.thy_block.specs.Device.{Device, block_at}
use Rattle.thy_block.specs.Geometry.{memory_blocks}
use Rattle.thy_table.specs.Listing.{free_count, mapped, with_entry}
use Rattle.thy_table.specs.PageEntry.{page_blocks}
use Rattle.thy_table.specs.LastBlocks.{last_block_of}
use Rattle.thy_table.specs.declared.place.Place.{Place}
use Rattle.thy_table.specs.declared.place.Place.TheVariants.{Home}
use Rattle.thy_table.specs.Places.{in_dram, number_of, table_blocks}
use Rattle.thy_table.specs.Cells.{seat_of, frame_at, target, last, work}
use Rattle.thy_table.specs.Checkpoint.{page_issued}
use Rattle.thy_table.specs.Rules.{after_copy, store_place}
use Rattle.thy_table.specs.Store.{put_by}
use Rattle.thy_layout.specs.declared.engine_step.EngineStep.TheVariants.{Copied, PageBlock}
use Rattle.thy_layout.specs.declared.layout_version.LayoutVersion.{LayoutVersion}
use Rattle.thy_layout.specs.declared.layout_version.LayoutVersion.TheVariants.{VersionTwo}
use Rattle.thy_layout.specs.Commit.{slot_of_epoch}
use Rattle.thy_record.specs.Images.{slot_in}
use Rattle.thy_record.specs.Issuing.{HoldsCheckpoint}
use Rattle.thy_record.specs.Slots.{counts_in}
use Rattle.thy_record.specs.TableBlocks.{table_block_of}
use Rattle.thy_computer.specs.Action.{Action, Rest, WriteAt}
use Rattle.thy_control.specs.CheckpointTables.{tables0, tables1}
use Rattle.thy_control.specs.Commit.{committed_state}
use Rattle.thy_control.specs.Copies.{next_copy, copies_left, block_listed}
use Rattle.thy_control.specs.Frees.{HasNoWork, settled}
use Rattle.thy_control.specs.Holding.{promoted, waiting}
use Rattle.thy_control.specs.Merges.{next_merge, overlays, after_merge}
use Rattle.thy_control.specs.Pages.{next_page, writes_left, block_to_write}
use Rattle.thy_control.specs.Positions.{next_position}
use Rattle.thy_control.specs.Promotions.{next_promotion, unfilled, after_promotion}
use Rattle.thy_control.specs.Rules.{rule_for, cell_before, state_after}
use Rattle.thy_control.specs.Seal.{sealed_state}
use Rattle.thy_control.specs.State.{State, AreSoundTables, cell_of, reads, penult_of, last_of, new_state}
use Rattle.thy_control.specs.Stays.{AreCopied, HoldAll, Stays as StaysControl}
use Rattle.thy_control.specs.StoredTables.{answer_of}
use Rattle.thy_thynvm_parts.specs.Filling.{filling_thynvm}
use Rattle.thy_checkpoint.specs.Items.{ItemsOf, Phase, Resting, Making, Made, Applying}
use Rattle.thy_scheme_parts.specs.Design.{PagesOf, PartsOf, DesignOf, design_of}

-- a block has still to be merged into its page, and a page is being promoted
abbrev pub is_overlaid : State → Bool
is_overlaid s = nat_lt 0 (overlays s)

abbrev pub is_promoting : State → Bool
is_promoting s = nat_lt 0 (promoted s.ptt)

-- ---- what is written before the slot

-- the block of memory that is written before the slot, and its source
abbrev pub block_by : State → Option ℕ → Option ℕ → ℕ
block_by s (Some i) page = block_listed i s
block_by s None (Some j) = block_to_write j s
block_by s None None = 0

abbrev pub source_by : State → Option ℕ → Option ℕ → Place
source_by s (Some i) page = last (cell_of s (block_listed i s))
source_by s None (Some j) = frame_at (seat_of (cell_of s (block_to_write j s)))
source_by s None None = Home 0

abbrev pub target_next : State → Place
target_next s = target (cell_of s (block_by s (next_copy s) (next_page s)))

abbrev pub source_next : State → Place
source_next s = source_by s (next_copy s) (next_page s)

abbrev pub action_next : State → Device → Action
action_next s n = WriteAt (number_of s.p (target_next s)) (reads s n (source_next s))

-- the controller after a block of the checkpoint was written: the copy is made, or one block more of the page is
-- written
abbrev pub with_copied : ℕ → State → State
with_copied b s = record s { btt = with_entry (cell_of s b).i (Some (after_copy (cell_of s b)).entry) s.btt }

abbrev pub with_issued : ℕ → State → State
with_issued b s = record s { ptt = with_entry (cell_of s b).j (Some (page_issued (cell_of s b).page)) s.ptt }

abbrev pub written_by : State → Option ℕ → Option ℕ → State
written_by s (Some i) page = with_copied (block_listed i s) s
written_by s None (Some j) = with_issued (block_to_write j s) s
written_by s None None = s

abbrev pub written_next : State → State
written_next s = written_by s (next_copy s) (next_page s)

-- ---- the slot after the processor's record: both tables of the checkpoint under way, and the counts of the epoch before

abbrev pub slot_rest : State → ℕ → Block
slot_rest s k =
    if nat_lt k (table_blocks s.p) then table_block_of (tables1 s) k
    else last_block_of s.counts.lasts (k - table_blocks s.p)

-- ---- the controller by phase

-- a controller's tables are sound, a checkpoint is under way or none, and while a page is being promoted no block has
-- work
pub record StandsAt (way : Bool) (s : State) : Type 0 where
  pub tables : AreSoundTables s
  pub way_is : s.under_way ≡ way
  pub promotes : is_promoting s ≡ true → HasNoWork s

-- a checkpoint is under way, and all is copied and written
pub record StandsMade (s : State) : Type 0 where
  pub at : StandsAt true s
  pub copied : AreCopied s

abbrev pub stands : Phase → State → Type 0
stands Resting s = StandsAt false s
stands (Making from) s = StandsAt true s
stands Made s = StandsMade s
stands (Applying from) s = ⊥

-- what its checkpoint writes: copies are action 1 in docs/CONTROLLER.md, blocks of busy pages action 2
abbrev pub items_thynvm : ItemsOf State
items_thynvm = record {
  stands = stands;
  body_next = λ s from. next_position s;
  body_place = λ epoch s k. number_of s.p (target_next s);
  body_block = λ s n k. reads s n (source_next s);
  body_after = λ s k. written_next s;
  step_of = λ p k. if nat_lt k p.btt then Copied else PageBlock;
  rest = slot_rest;
  committed = committed_state;
  has_tail = false;
  tail_next = λ s from. None;
  tail_place = λ s k. 0;
  tail_block = λ s n k. reads s n (Home 0);
  tail_after = λ s k. s;
  released = λ s. s;
  body_left = λ s from. copies_left s + writes_left s;
  tail_left = λ p from. 0;
  most_body = λ p. p.btt + page_blocks * p.ptt;
}

-- ---- memory

-- memory as the committed checkpoint has it, and as the one under way does
abbrev pub penults : State → Device → List Block
penults s n = map (penult_of s n) (range_with_len 0 (memory_blocks s.p))

abbrev pub lasts : State → Device → List Block
lasts s n = map (last_of s n) (range_with_len 0 (memory_blocks s.p))

-- ---- what images have

-- the next checkpoint is in another slot than the kept epoch's
abbrev pub IsOther : Phase → ℕ → ℕ → Type 0
IsOther (Making from) epoch kept = slot_of_epoch epoch ≢ slot_of_epoch kept
IsOther Made epoch kept = slot_of_epoch epoch ≢ slot_of_epoch kept
IsOther phase epoch kept = Unit {0}

-- between two checkpoints the image has the controller's counts
abbrev pub IsCounted : Phase → LayoutVersion → State → List Block → Type 0
IsCounted Resting version s g = counts_in version s.p (slot_in s.p g) ≡ s.counts.lasts
IsCounted phase version s g = Unit {0}

-- the image that is kept has the tables of the committed checkpoint, of either version
pub record IsKeptBy (phase : Phase) (epoch : ℕ) (s : State) (g : List Block) : Type 0 where
  pub version : LayoutVersion
  pub kept : ℕ
  pub meant : HoldsCheckpoint s.p g version kept (tables0 s)
  pub other : IsOther phase epoch kept
  pub counted : IsCounted phase version s g

-- the image that is made has the tables and the counts of the one under way
pub record IsMadeBy (epoch : ℕ) (s : State) (g : List Block) : Type 0 where
  pub meant : HoldsCheckpoint s.p g VersionTwo epoch (tables1 s)
  pub counted : counts_in VersionTwo s.p (slot_in s.p g) ≡ s.counts.lasts

-- ---- epochs without a store

-- the block table is as before, except that copies were made
abbrev pub IsButCopied : State → State → Type 0
IsButCopied s t = mapped settled t.btt ≡ mapped settled s.btt

-- the checkpoint under way is of an epoch that stored nothing, and nothing was stored since
pub record IsOfRest (s : State) : Type 0 where
  pub before : State
  pub tables : AreSoundTables before
  pub same_p : before.p ≡ s.p
  pub no_work : HasNoWork before
  pub copied : IsButCopied (sealed_state before) s

-- after an epoch that stored nothing there is room for an instruction, or will be with the commit
abbrev pub HasRoom : Phase → State → Type 0
HasRoom Resting s = 2 ≤ free_count s.btt
HasRoom phase s = IsOfRest s

-- if no block was stored since the last seal there is no work
pub record IsRest (sealed_storeless : Bool) (phase : Phase) (s : State) : Type 0 where
  pub no_work : HasNoWork s
  pub room : sealed_storeless ≡ true → HasRoom phase s

abbrev pub rests_at : Bool → Bool → Phase → State → Type 0
rests_at true sealed_storeless phase s = IsRest sealed_storeless phase s
rests_at false sealed_storeless phase s = Unit {0}

-- ---- loads and stores

-- the action of a store by its rule: the write of a place of the NVM, or nothing there
abbrev pub write_there : Bool → ℕ → Block → Action
write_there true x block = Rest
write_there false x block = WriteAt x block

abbrev pub store_action : ℕ → Block → State → Action
store_action b block s =
    let c = cell_before b s in
    let place = store_place (rule_for b s) c in
    write_there (in_dram place) (number_of s.p place)
    (put_by (rule_for b s) block (λ x. block_at s.dram.blocks (number_of s.p x)) c)

-- a page that is being promoted was so before, and the block table is as it was
pub record PromotesOn (s t : State) : Type 0 where
  pub before : is_promoting s ≡ true
  pub blocks : t.btt ≡ s.btt

-- what loads and stores keep, those that fail too
pub record StaysThynvm (s : State) (n : Device) (t : State) (m : Device) : Type 0 where
  pub control : StaysControl s n t m
  pub room : t.dram.room ≡ s.dram.room
  pub tables : AreSoundTables s → AreSoundTables t
  pub promotes : is_promoting t ≡ true → PromotesOn s t

-- what is left of the controller if no block was stored
pub record IsStill (s t : State) : Type 0 where
  pub same_p : t.p ≡ s.p
  pub blocks : t.btt ≡ s.btt

-- ---- merges and promotions, and the seal

-- a block is merged, and an epoch sealed, only while no checkpoint is under way: else nothing changes
abbrev pub merged : State → State
merged s = if s.under_way then s else after_merge (next_merge s) s

abbrev pub sealed : State → State
sealed s = if s.under_way then s else sealed_state s

abbrev pub thynvm_pages : PagesOf State
thynvm_pages = record {
  overlaid = is_overlaid;
  promoting = is_promoting;
  merged = merged;
  promoted = λ s n. after_promotion (next_promotion s) s n;
  merges_left = overlays;
  promotions_left = unfilled;
  most_merges = λ p. p.btt;
  most_promotions = λ p. page_blocks * p.ptt;
}

-- ---- all of it

abbrev pub thynvm_parts : PartsOf State
thynvm_parts = record {
  powered = new_state;
  sound = AreSoundTables;
  holds = λ phase epoch s n. HoldAll s n;
  keeps = IsKeptBy;
  makes = IsMadeBy;
  sealed = lasts;
  committed = λ phase s n. penults s n;
  seal = sealed;
  rests = rests_at;
  overlaps = true;
  agrees = λ s n. true;
  load_reads = λ s b. not (in_dram (work (cell_of s b)));
  committed_reads = λ phase s b. true;
  store_answer = λ b s. answer_of (rule_for b s);
  store_action = store_action;
  stored = state_after;
  storeless_after = λ stored storeless. false;
  still = IsStill;
  stays = StaysThynvm;
  free = λ s. free_count s.btt;
  open_page = λ s. None;
  owed = λ s. waiting s.btt;
  owed_later = λ phase s. 0;
  most_owed = λ p. p.btt;
  most_free = λ p. p.btt;
  pages = thynvm_pages;
}

abbrev pub thynvm_design : DesignOf State
thynvm_design = design_of filling_thynvm items_thynvm thynvm_parts
