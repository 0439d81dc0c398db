-- Part of the claim.
-- The journal as a scheme of parts. A position is an entry of the table.
use Rattle.std.specs.Prelude.{◌≡◌, ◌≢◌, ℕ, ◌-◌, ◌<◌, Bool, true, false, is_none, List, length, Option, None}
use Rattle.thy_block.specs.declared.block.Block.{Block}
use Rattle.thy_block.specs.declared.store.Stored.TheVariants.{Done}
use Rattle.thy_block.specs.Device.{Device, newest}
use Rattle.thy_layout.specs.declared.engine_step.EngineStep.TheVariants.{Copied}
use Rattle.thy_layout.specs.Commit.{slot_of_epoch}
use Rattle.thy_layout.specs.Entries.{Lists}
use Rattle.thy_layout.specs.TableSlots.{table_block_of}
use Rattle.thy_table.specs.Listing.{Listing, free_count}
use Rattle.thy_computer.specs.Action.{Rest}
use Rattle.thy_images.specs.JournalCheckpointParts.{HoldsCheckpoint}
use Rattle.thy_images.specs.JournalPlaces.{home_place, journal_place}
use Rattle.thy_checkpoint.specs.Items.{ItemsOf, Phase, Resting, Making, Made, Applying}
use Rattle.thy_journal_parts.specs.declared.entry.Listed.{Listed}
use Rattle.thy_journal_parts.specs.Holding.{works, homes}
use Rattle.thy_journal_parts.specs.Items.{next_live, block_listed}
use Rattle.thy_journal_parts.specs.State.{State, IsSoundState, table_of, entry_for, buffer_of, new_state}
use Rattle.thy_journal_parts.specs.Stores.{after_store, released}
use Rattle.thy_journal_parts.specs.Filling.{filling_journal}
use Rattle.thy_scheme_parts.specs.Design.{LeavesNvm, PartsOf, DesignOf, design_of, no_pages}

-- the body writes each live entry's buffer into the journal of the epoch, the tail to the home of its block; after that all
-- entries are free
abbrev pub items_journal : ItemsOf State
items_journal = record {
  stands = λ phase s. IsSoundState s;
  body_next = λ s from. next_live from s;
  body_place = λ epoch s i. journal_place s.p (slot_of_epoch epoch) i;
  body_block = λ s n i. buffer_of s i;
  body_after = λ s i. s;
  step_of = λ p i. Copied;
  rest = λ s k. table_block_of (table_of s) k;
  committed = λ s. s;
  has_tail = true;
  tail_next = λ s from. next_live from s;
  tail_place = λ s i. home_place s.p (block_listed i s);
  tail_block = λ s n i. buffer_of s i;
  tail_after = λ s i. s;
  released = released;
  body_left = λ s from. s.p.btt - from;
  tail_left = λ p from. p.btt - from;
  most_body = λ p. p.btt;
}

-- ---- what the NVM holds

-- the live entries below one have their buffers in the journal of an epoch; or at the homes of their blocks
pub record AreJournaled (epoch : ℕ) (s : State) (n : Device) (from : ℕ) : Type 0 where
  pub each : (i b : ℕ) → i < from → Lists (table_of s) i b → newest n (journal_place s.p (slot_of_epoch epoch) i) ≡ buffer_of s i

pub record AreHome (s : State) (n : Device) (from : ℕ) : Type 0 where
  pub each : (i b : ℕ) → i < from → Lists (table_of s) i b → newest n (home_place s.p b) ≡ buffer_of s i

abbrev pub holds : Phase → ℕ → State → Device → Type 0
holds Resting epoch s n = Unit {0}
holds (Making from) epoch s n = AreJournaled epoch s n from
holds Made epoch s n = AreJournaled epoch s n s.p.btt
holds (Applying from) epoch s n = AreHome s n from

-- ---- what images have

-- the next checkpoint is in another slot than the kept epoch's
abbrev pub IsOther : Phase → ℕ → ℕ → Type 0
IsOther (Making from) epoch kept = slot_of_epoch epoch ≢ slot_of_epoch kept
IsOther Made epoch kept = slot_of_epoch epoch ≢ slot_of_epoch kept
IsOther phase epoch kept = Unit {0}

-- while a journal is applied its table is the log's
abbrev pub IsApplied : Phase → List (Option ℕ) → List (Option ℕ) → Type 0
IsApplied (Applying from) own table = table ≡ own
IsApplied phase own table = Unit {0}

-- the image that is kept has the checkpoint of an epoch with a table
pub record IsKeptBy (phase : Phase) (epoch : ℕ) (s : State) (g : List Block) : Type 0 where
  pub kept : ℕ
  pub table : List (Option ℕ)
  pub meant : HoldsCheckpoint s.p g kept table
  pub other : IsOther phase epoch kept
  pub applied : IsApplied phase (table_of s) table

-- memory as the committed checkpoint has it: as it was stored last while that checkpoint is applied, else at home
abbrev pub committed_at : Phase → State → Device → List Block
committed_at (Applying from) s n = works s n
committed_at phase s n = homes s n

-- if nothing was stored since the last seal, and that is applied, every entry is free
abbrev pub rests_at : Phase → Bool → Listing Listed → Type 0
rests_at Resting true table = free_count table ≡ length table.entries
rests_at phase storeless table = Unit {0}

-- ---- loads and stores

-- a load of the committed version reads the NVM: while the journal is applied it is any other load, and else of a home
abbrev pub reads_committed : Phase → State → ℕ → Bool
reads_committed (Applying from) s b = is_none (entry_for s b)
reads_committed phase s b = true

-- what loads and stores keep
pub record StaysLog (s : State) (m : Device) (t : State) (n : Device) : Type 0 where
  pub same_p : t.p ≡ s.p
  pub room : t.dram.room ≡ s.dram.room
  pub sound : IsSoundState s → IsSoundState t
  pub nvm : LeavesNvm m n

abbrev pub journal_parts : PartsOf State
journal_parts = record {
  powered = new_state;
  sound = IsSoundState;
  holds = holds;
  keeps = IsKeptBy;
  makes = λ epoch s g. HoldsCheckpoint s.p g epoch (table_of s);
  sealed = works;
  committed = committed_at;
  seal = λ s. s;
  rests = λ storeless sealed_storeless phase s. rests_at phase storeless s.table;
  overlaps = false;
  agrees = λ s n. true;
  load_reads = λ s b. is_none (entry_for s b);
  committed_reads = reads_committed;
  store_answer = λ b s. Done;
  store_action = λ b block s. Rest;
  stored = λ b block s n. after_store b block s;
  storeless_after = λ stored storeless. false;
  still = λ s t. t.table ≡ s.table;
  stays = StaysLog;
  free = λ s. free_count s.table;
  open_page = λ s. None;
  owed = λ s. 0;
  owed_later = λ phase s. 0;
  most_owed = λ p. 0;
  most_free = λ p. p.btt;
  pages = no_pages;
}

abbrev pub journal_design : DesignOf State
journal_design = design_of filling_journal items_journal journal_parts
