-- Part of the claim.
-- What a commit makes of the controller: the checkpoint that was under way is the committed one.
use Rattle.std.specs.Prelude.{◌≡◌, ℕ, ◌<◌, false}
use Rattle.thy_block.specs.Device.{Device}
use Rattle.thy_block.specs.Geometry.{memory_blocks}
use Rattle.thy_table.specs.Listing.{mapped}
use Rattle.thy_table.specs.Cells.{target}
use Rattle.thy_table.specs.Checkpoint.{committed_entry, committed_page, committed}
use Rattle.thy_control.specs.State.{State, AreSoundTables, cell_of, reads, penult_of, last_of, work_of}
use Rattle.thy_control.specs.CheckpointTables.{tables0, tables1}
use Rattle.thy_control.specs.Stays.{HoldAll}

-- every version of the checkpoint under way becomes the committed version; pages that leave are cleared, and so are
-- entries that list nothing any more
unfoldable pub committed_state : State → State
committed_state s = record s {
  btt = mapped committed_entry s.btt;
  ptt = mapped committed_page s.ptt;
  under_way = false;
}

-- a block's cell after a commit is what the commit makes of its own
abbrev pub CommitMakesCells : Type 0
CommitMakesCells =
    (s : State) → AreSoundTables s → (b : ℕ) → cell_of (committed_state s) b ≡ committed (cell_of s b)

-- if the places hold what they have to, the committed version is what was the last one; a load gives what it gave
pub record Commits (s t : State) (n : Device) : Type 0 where
  pub penult_is : (b : ℕ) → b < memory_blocks s.p → penult_of t n b ≡ last_of s n b
  pub last_is : (b : ℕ) → b < memory_blocks s.p → last_of t n b ≡ last_of s n b
  pub work_same : (b : ℕ) → b < memory_blocks s.p → work_of t n b ≡ work_of s n b
  pub holds : HoldAll t n

-- whatever the places hold, the committed version is the block at the target of the checkpoint under way
pub record CommitsTargets (s t : State) (n : Device) : Type 0 where
  pub penult_is : (b : ℕ) → b < memory_blocks s.p → penult_of t n b ≡ reads s n (target (cell_of s b))

-- the committed checkpoint has the tables of the one that was under way, and none is under way
pub record CommitsTables (s t : State) : Type 0 where
  pub tables0_next : tables0 t ≡ tables1 s
  pub tables1_same : tables1 t ≡ tables1 s
