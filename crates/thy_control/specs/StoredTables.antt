-- Part of the claim.
-- What a store makes of the tables and the counts, by its rule, and how it ends.
use Rattle.std.specs.Prelude.{ℕ, Some}
use Rattle.thy_block.specs.declared.store.Stored.{Stored}
use Rattle.thy_block.specs.declared.store.Stored.TheVariants.{Done, CopyFirst}
use Rattle.thy_table.specs.Listing.{Listing, with_entry}
use Rattle.thy_table.specs.declared.block_entry.BttEntry.{BttEntry}
use Rattle.thy_table.specs.declared.page_entry.PttEntry.{PttEntry}
use Rattle.thy_table.specs.BlockEntry.{new_entry}
use Rattle.thy_table.specs.Counts.{Tally, counted}
use Rattle.thy_table.specs.declared.cell.Cell.{Cell}
use Rattle.thy_table.specs.declared.cell.StoreRule.{StoreRule}
use Rattle.thy_table.specs.declared.cell.StoreRule.TheVariants.{ToFrame, PendingFirst}
use Rattle.thy_control.specs.Find.{with_entry_for}
use Rattle.thy_control.specs.Keys.{block_key}

-- the block table with an entry for a block, if the rule of its store names one
abbrev pub btt_with : StoreRule → ℕ → Listing BttEntry → Listing BttEntry
btt_with ToFrame b t = t
btt_with PendingFirst b t = t
btt_with rule b t = with_entry_for block_key new_entry b t

-- the tables with the entries of a cell, as far as a rule changes them
abbrev pub btt_after : StoreRule → Cell → Listing BttEntry → Listing BttEntry
btt_after ToFrame c t = t
btt_after rule c t = with_entry c.i (Some c.entry) t

abbrev pub ptt_after : StoreRule → Cell → Listing PttEntry → Listing PttEntry
ptt_after ToFrame c t = with_entry c.j (Some c.page) t
ptt_after rule c t = t

-- a store that was done counts for its page
abbrev pub counts_after : StoreRule → ℕ → Tally → Tally
counts_after PendingFirst page t = t
counts_after rule page t = counted page t

-- how the store ended
abbrev pub answer_of : StoreRule → Stored
answer_of PendingFirst = CopyFirst
answer_of rule = Done
