-- Part of the claim.
-- Where a block is stored, and what a store, and a copy that may have to come first, make of its entries.
use Rattle.std.specs.Prelude.{Bool, true, false}
use Rattle.thy_table.specs.declared.place.Place.{Place}
use Rattle.thy_table.specs.declared.block_entry.Pending.{Pending}
use Rattle.thy_table.specs.declared.block_entry.Pending.TheVariants.{Settled, FromBuffer, FromAlternate}
use Rattle.thy_table.specs.declared.block_entry.Working.{Working}
use Rattle.thy_table.specs.declared.block_entry.Working.TheVariants.{NoWork, InNvm, InBuffer}
use Rattle.thy_table.specs.declared.page_entry.Site.TheVariants.{AtHome}
use Rattle.thy_table.specs.declared.cell.Cell.{Cell}
use Rattle.thy_table.specs.declared.cell.StoreRule.{StoreRule}
use Rattle.thy_table.specs.declared.cell.StoreRule.TheVariants.{ToFrame, ToBuffer, ToNvm, PendingFirst}
use Rattle.thy_table.specs.BlockEntry.{other_version}
use Rattle.thy_table.specs.PageEntry.{is_framed}
use Rattle.thy_table.specs.Cells.{seat_of, agree, frame_at, buffer_at, placed, target}

-- into the buffer, once that has nothing left to copy
abbrev pub into_buffer : Pending → StoreRule
into_buffer FromBuffer = PendingFirst
into_buffer FromAlternate = ToBuffer
into_buffer Settled = ToBuffer

-- by whether the page is framed, and busy; the block's work; whether both checkpoints have the block at one place; and
-- what has to be copied
abbrev pub rule_of : Bool → Bool → Working → Bool → Pending → StoreRule
-- rule 1 of a store
rule_of true false NoWork agrees pend = ToFrame
-- rule 2
rule_of true busy work agrees pend = into_buffer pend
-- rule 3
rule_of false busy InBuffer agrees pend = into_buffer pend
-- rule 4
rule_of false busy work true pend = ToNvm
-- rule 5
rule_of false busy work false pend = into_buffer pend

abbrev pub store_rule : Cell → StoreRule
store_rule c = rule_of (is_framed c.page) c.page.busy c.entry.work (agree c.entry.v0 c.entry.v1) c.entry.pend

-- the place that is written
abbrev pub store_place : StoreRule → Cell → Place
store_place ToFrame c = frame_at (seat_of c)
store_place ToBuffer c = buffer_at (seat_of c)
store_place ToNvm c = placed (other_version c.entry.v0) AtHome (seat_of c)
store_place PendingFirst c = target c

-- a cell after the copy of what was pending
abbrev pub after_copy : Cell → Cell
after_copy c = record c { entry = record c.entry { pend = Settled } }

abbrev pub after_store : StoreRule → Cell → Cell
after_store ToFrame c = record c { page = record c.page { dirty = true } }
after_store ToBuffer c = record c { entry = record c.entry { work = InBuffer } }
after_store ToNvm c = record c { entry = record c.entry { work = InNvm } }
after_store PendingFirst c = after_copy c
