-- Part of the claim.
-- Shadow paging as a scheme of parts. A position is a block of the frames, 64 to a frame.
use Rattle.std.specs.Prelude.{◌≡◌, ◌≢◌, ℕ, ◌+◌, ◌-◌, ◌*◌, ◌/◌, ◌%◌, ◌<◌, Bool, true, false, is_none, is_some, List, length, None}
use Rattle.thy_block.specs.declared.block.Block.{Block}
use Rattle.thy_block.specs.declared.store.Stored.{Stored}
use Rattle.thy_block.specs.declared.store.Stored.TheVariants.{Done, CopyFirst}
use Rattle.thy_block.specs.Device.{Device, newest}
use Rattle.thy_block.specs.Places.{header_place}
use Rattle.thy_block.specs.Store.{page_of}
use Rattle.thy_layout.specs.declared.engine_step.EngineStep.TheVariants.{PageBlock}
use Rattle.thy_layout.specs.Commit.{slot_of_epoch}
use Rattle.thy_layout.specs.TableSlots.{table_block_of}
use Rattle.thy_table.specs.Listing.{Listing, entry_at, free_count}
use Rattle.thy_images.specs.ShadowCheckpointParts.{HoldsCheckpoint}
use Rattle.thy_checkpoint.specs.Items.{ItemsOf, Phase, Resting, Making, Made, Applying}
use Rattle.thy_shadow_parts.specs.declared.entry.Framed.{Framed}
use Rattle.thy_shadow_parts.specs.Commit.{sealed_state, committed_state}
use Rattle.thy_shadow_parts.specs.Holding.{works, commits, copied_by, opened_by, copies_agree}
use Rattle.thy_shadow_parts.specs.Items.{next_block}
use Rattle.thy_shadow_parts.specs.State.{State, IsSoundState, committed_table, next_table, frame_of, frame_block, target_place}
use Rattle.thy_shadow_parts.specs.Stores.{after_store, new_state, store_action, store_case, stored_by}
use Rattle.thy_shadow_parts.specs.Filling.{filling_shadow}
use Rattle.thy_scheme_parts.specs.Design.{LeavesNvm, PartsOf, DesignOf, design_of, no_pages}

-- ---- what the engine writes

-- while a checkpoint is made no frame is begun
pub record IsUnbegun (s : State) : Type 0 where
  pub sound : IsSoundState s
  pub unbegun : s.begun ≡ None

-- what holds of a pool in each phase: nothing follows the commit
abbrev pub stands_at : Phase → State → Type 0
stands_at Resting s = IsSoundState s
stands_at (Making from) s = IsUnbegun s
stands_at Made s = IsUnbegun s
stands_at (Applying from) s = ⊥

-- The body writes each block of the filled frames into the frame's page of the pool. With the commit these pages take the
-- place of the old ones. No position of a tail is ever written; one would be the header, as it is.
abbrev pub items_shadow : ItemsOf State
items_shadow = record {
  stands = stands_at;
  body_next = λ s from. next_block from s;
  body_place = λ epoch s x. target_place s (x / 64) (x % 64);
  body_block = λ s n x. frame_block s (x / 64) (x % 64);
  body_after = λ s x. s;
  step_of = λ p x. PageBlock;
  rest = λ s k. table_block_of (next_table s) k;
  committed = committed_state;
  has_tail = false;
  tail_next = λ s from. None;
  tail_place = λ s x. header_place;
  tail_block = λ s n x. newest n header_place;
  tail_after = λ s x. s;
  released = λ s. s;
  body_left = λ s from. 64 * s.p.ptt - from;
  tail_left = λ p from. 0;
  most_body = λ p. 64 * p.ptt;
}

-- ---- what the NVM holds

-- the first x blocks of the frames are in the frames' pages of the pool, as far as these are filled
pub record ArePaged (s : State) (n : Device) (x : ℕ) : Type 0 where
  pub each : (j c : ℕ) → c < 64 → 64 * j + c < x → is_some (entry_at s.frames j) ≡ true
      → newest n (target_place s j c) ≡ frame_block s j c

-- all blocks of filled frames are in the frames' pages of the pool
pub record AllPaged (s : State) (n : Device) : Type 0 where
  pub each : (j c : ℕ) → c < 64 → is_some (entry_at s.frames j) ≡ true → newest n (target_place s j c) ≡ frame_block s j c

-- with none under way, what was copied into a frame that is begun is what the NVM has
abbrev pub holds : Phase → ℕ → State → Device → Type 0
holds Resting epoch s n = copies_agree s n ≡ true
holds (Making from) epoch s n = ArePaged s n from
holds Made epoch s n = AllPaged s n
holds (Applying from) epoch s n = Unit {0}

-- ---- what images have

-- the next checkpoint is in another slot than the kept epoch's
abbrev pub IsOther : Phase → ℕ → ℕ → Type 0
IsOther (Making from) epoch kept = slot_of_epoch epoch ≢ slot_of_epoch kept
IsOther Made epoch kept = slot_of_epoch epoch ≢ slot_of_epoch kept
IsOther phase epoch kept = Unit {0}

-- the image that is kept has the checkpoint of an epoch with the committed map
pub record IsKeptBy (phase : Phase) (epoch : ℕ) (s : State) (g : List Block) : Type 0 where
  pub kept : ℕ
  pub meant : HoldsCheckpoint s.p g kept (committed_table s)
  pub other : IsOther phase epoch kept

-- if nothing was stored since the last seal, and that is committed, every frame is free
abbrev pub rests_at : Phase → Bool → Listing Framed → Type 0
rests_at Resting true frames = free_count frames ≡ length frames.entries
rests_at phase storeless frames = Unit {0}

-- ---- loads and stores

-- no block was stored since the last seal, after a store that returned this: one that is done stored a block, a copy stores none
abbrev pub storeless_by : Stored → Bool → Bool
storeless_by Done storeless = false
storeless_by CopyFirst storeless = storeless

-- if no block was stored, frames and pool are as they were
pub record IsStill (s t : State) : Type 0 where
  pub frames : t.frames ≡ s.frames
  pub pool : t.pool ≡ s.pool

-- The copies of all frames that are not filled are owed. Once the checkpoint that is made is committed every frame is free.
abbrev pub owed_now : State → ℕ
owed_now s = 64 * free_count s.frames - copied_by s.begun

abbrev pub owed_then : Phase → State → ℕ
owed_then (Making from) s = 64 * s.p.ptt - owed_now s
owed_then Made s = 64 * s.p.ptt - owed_now s
owed_then phase s = 0

-- what loads and stores keep
pub record StaysPool (s : State) (m : Device) (t : State) (n : Device) : Type 0 where
  pub same_p : t.p ≡ s.p
  pub room : t.dram.room ≡ s.dram.room
  -- the committed map stays
  pub table : committed_table t ≡ committed_table s
  pub sound : IsSoundState s → IsSoundState t
  -- what was copied into a frame is what the NVM has, while that is up
  pub copies : copies_agree s m ≡ true → n.down ≡ false → copies_agree t n ≡ true
  pub nvm : LeavesNvm m n

abbrev pub shadow_parts : PartsOf State
shadow_parts = record {
  powered = new_state;
  sound = IsSoundState;
  holds = holds;
  keeps = IsKeptBy;
  makes = λ epoch s g. HoldsCheckpoint s.p g epoch (next_table s);
  sealed = works;
  committed = λ phase s n. commits s n;
  seal = sealed_state;
  rests = λ storeless sealed_storeless phase s. rests_at phase storeless s.frames;
  overlaps = false;
  agrees = copies_agree;
  load_reads = λ s b. is_none (frame_of s (page_of b));
  committed_reads = λ phase s b. true;
  store_answer = λ b s. stored_by (store_case b s);
  store_action = λ b block s. store_action (store_case b s) b s;
  stored = λ b block s n. after_store b block n s;
  storeless_after = storeless_by;
  still = IsStill;
  stays = StaysPool;
  free = λ s. free_count s.frames;
  open_page = λ s. opened_by s.begun;
  owed = owed_now;
  owed_later = owed_then;
  most_owed = λ p. 64 * p.ptt;
  most_free = λ p. p.ptt;
  pages = no_pages;
}

abbrev pub shadow_design : DesignOf State
shadow_design = design_of filling_shadow items_shadow shadow_parts
