-- Part of the claim.
-- What a store makes of the log.
use Rattle.std.specs.Prelude.{ℕ, Option, Some, None, unwrap_or}
use Rattle.std.specs.Option.{option_or}
use Rattle.thy_block.specs.declared.block.Block.{Block}
use Rattle.thy_dram.specs.Contents.{written, drained}
use Rattle.thy_block.specs.Device.{Device, newest}
use Rattle.thy_table.specs.Listing.{Listing, free_index, with_entry, added, mapped}
use Rattle.thy_images.specs.JournalPlaces.{journal_place}
use Rattle.thy_journal_parts.specs.declared.entry.Listed.{Listed}
use Rattle.thy_journal_parts.specs.Keys.{listing_of, freed}
use Rattle.thy_journal_parts.specs.State.{State, entry_for}

-- the entry of a block's store: its own, else the lowest that is free
abbrev pub store_entry : ℕ → State → ℕ
store_entry b s = unwrap_or (option_or (entry_for s b) (free_index s.table)) 0

-- the table in which it lists the block, by the entry that did so before
abbrev pub with_listing : Option ℕ → ℕ → Listing Listed → Listing Listed
with_listing (Some i) b t = t
with_listing None b t = added (listing_of b) t

abbrev pub listing_for : ℕ → State → State
listing_for b s = record s { table = with_listing (entry_for s b) b s.table }

-- the log with a block in the buffer of an entry
abbrev pub put_into : ℕ → Block → State → State
put_into i block s = record s { dram = written s.dram i block }

-- the log after a store: the buffer of the block's entry holds the block
unfoldable pub after_store : ℕ → Block → State → State
after_store b block s = put_into (store_entry b s) block (listing_for b s)

-- a log in the boot, after an entry listed a block; and after its buffer got the block of a slot's journal
abbrev pub with_listing_at : ℕ → ℕ → State → State
with_listing_at i b s = record s { table = with_entry i (Some (listing_of b)) s.table }

abbrev pub filled : ℕ → ℕ → Device → State → State
filled slot i n s = put_into i (newest n (journal_place s.p slot i)) s

-- the oldest write that is queued in the DRAM landed
abbrev pub after_drain : State → State
after_drain s = record s { dram = drained s.dram }

-- the log with every entry freed
abbrev pub released : State → State
released s = record s { table = mapped freed s.table }
