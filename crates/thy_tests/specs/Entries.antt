-- What the tests make of the entries of a table.
use Rattle.std.specs.Prelude.{◌≡◌, ◌==◌, ℕ, Bool, true, false, Option, Some, None, if◌then◌else◌}
use Rattle.std.proofs.Common.{sym, ap}
use Rattle.thy_table.specs.declared.block_entry.BttEntry.{BttEntry}
use Rattle.thy_table.specs.declared.block_entry.Working.{Working}
use Rattle.thy_table.specs.declared.block_entry.Working.TheVariants.{NoWork, InNvm, InBuffer}

-- an entry that is stored into its buffer, or is cleared
abbrev pub stored_unless : Bool → BttEntry → Option BttEntry
stored_unless cleared e = if cleared then None else Some (record e { work = InBuffer })

-- the entry of one block is cleared, each other stored into its buffer
abbrev pub stored_but : ℕ → BttEntry → Option BttEntry
stored_but block e = stored_unless (e.block == block) e

-- an entry that is stored stays the same block's
pub stored_but-block : (block : ℕ) (e f : BttEntry) → stored_but block e ≡ Some f → f.block ≡ e.block
stored_but-block block e f h = by_test (e.block == block) h where
  by_test : (t : Bool) → stored_unless t e ≡ Some f → f.block ≡ e.block
  by_test true g = cc
  by_test false g = let same : record e { work = InBuffer } ≡ f = cc in sym (ap (λ (x : BttEntry). x.block) same)

-- the program's version is in its buffer
abbrev pub is_in_buffer : Working → Bool
is_in_buffer NoWork = false
is_in_buffer InNvm = false
is_in_buffer InBuffer = true
