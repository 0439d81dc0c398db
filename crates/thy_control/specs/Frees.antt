-- Why an epoch that ran out of entries can continue: a seal without work frees the block table.
use Rattle.std.specs.Prelude.{◌≡◌, ℕ, ◌*◌, ◌≤◌, Option, Some}
use Rattle.thy_table.specs.Listing.{entry_at, free_count, mapped}
use Rattle.thy_table.specs.declared.block_entry.BttEntry.{BttEntry}
use Rattle.thy_table.specs.declared.block_entry.Pending.TheVariants.{Settled}
use Rattle.thy_table.specs.declared.block_entry.Working.TheVariants.{NoWork}
use Rattle.thy_control.specs.State.{State, AreSoundTables}
use Rattle.thy_control.specs.Seal.{sealed_state}
use Rattle.thy_control.specs.Commit.{committed_state}

-- no entry of the block table has work
pub record HasNoWork (s : State) : Type 0 where
  pub no_work : (i : ℕ) (e : BttEntry) → entry_at s.btt i ≡ Some e → e.work ≡ NoWork

-- a block's entry after its version was copied to its place
abbrev pub settled : BttEntry → Option BttEntry
settled e = Some (record e { pend = Settled })

-- if a seal finds no work and no store comes before the commit, but only the copies, at least half of the block table
-- is free after it
abbrev pub SealFrees : Type 0
SealFrees =
    (s t : State) → AreSoundTables s → HasNoWork s → t.btt ≡ mapped settled (sealed_state s).btt
    → s.p.btt ≤ 2 * free_count (committed_state t).btt
