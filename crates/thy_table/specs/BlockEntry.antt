-- Part of the claim.
-- Entries of the block translation table, as they are made.
use Rattle.std.specs.Prelude.{ℕ}
use Rattle.thy_table.specs.declared.block_entry.Version.{Version}
use Rattle.thy_table.specs.declared.block_entry.Version.TheVariants.{Out, Alt}
use Rattle.thy_table.specs.declared.block_entry.Pending.TheVariants.{Settled}
use Rattle.thy_table.specs.declared.block_entry.Working.TheVariants.{NoWork}
use Rattle.thy_table.specs.declared.block_entry.BttEntry.{BttEntry}

-- the other place
abbrev pub other_version : Version → Version
other_version Out = Alt
other_version Alt = Out

-- no checkpoint has the block in its entry's place, and it was not stored since
abbrev pub new_entry : ℕ → BttEntry
new_entry block = record { block = block; v0 = Out; v1 = Out; pend = Settled; work = NoWork }

-- a new entry of a block that the committed checkpoint has at the place `Alt`
abbrev pub listed_entry : ℕ → BttEntry
listed_entry block = record { block = block; v0 = Alt; v1 = Alt; pend = Settled; work = NoWork }
