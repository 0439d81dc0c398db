-- Part of the claim.
-- A block as both tables have it, and the places of its versions.
use Rattle.std.specs.Prelude.{ℕ, ◌%◌, Bool, true, false, if◌then◌else◌}
use Rattle.thy_table.specs.declared.place.Place.{Place}
use Rattle.thy_table.specs.declared.place.Place.TheVariants.{Home, AlternateBlock, AlternatePage, Buffer, Frame}
use Rattle.thy_table.specs.declared.block_entry.Version.{Version}
use Rattle.thy_table.specs.declared.block_entry.Version.TheVariants.{Out, Alt}
use Rattle.thy_table.specs.declared.block_entry.Pending.{Pending}
use Rattle.thy_table.specs.declared.block_entry.Pending.TheVariants.{Settled, FromBuffer, FromAlternate}
use Rattle.thy_table.specs.declared.block_entry.Working.{Working}
use Rattle.thy_table.specs.declared.block_entry.Working.TheVariants.{NoWork, InNvm, InBuffer}
use Rattle.thy_table.specs.declared.page_entry.Site.{Site}
use Rattle.thy_table.specs.declared.page_entry.Site.TheVariants.{AtHome, AtAlternate}
use Rattle.thy_table.specs.BlockEntry.{other_version}
use Rattle.thy_table.specs.PageEntry.{is_framed}
use Rattle.thy_table.specs.declared.cell.Cell.{Cell}

-- the numbers of which the places of a cell are made
pub record Seat : Type 0 where
  -- the entry of the block table, the entry of the page table, and the block
  pub i : ℕ
  pub j : ℕ
  pub block : ℕ

abbrev pub seat_of : Cell → Seat
seat_of c = record { i = c.i; j = c.j; block = c.entry.block }

abbrev pub buffer_at : Seat → Place
buffer_at x = Buffer x.i

abbrev pub alternate_at : Seat → Place
alternate_at x = AlternateBlock x.i

abbrev pub frame_at : Seat → Place
frame_at x = Frame x.j (x.block % 64)

-- the place of a block by what a checkpoint says of it and of its page
abbrev pub placed : Version → Site → Seat → Place
placed Alt page x = alternate_at x
placed Out AtAlternate x = AlternatePage x.j (x.block % 64)
placed Out AtHome x = Home x.block

-- the place of a block at the checkpoint under way, until that has copied it
abbrev pub pending_at : Pending → Version → Site → Seat → Place
pending_at Settled v page x = placed v page x
pending_at FromBuffer v page x = buffer_at x
pending_at FromAlternate v page x = alternate_at x

-- two checkpoints say the same of a block
abbrev pub agree : Version → Version → Bool
agree Out Out = true
agree Alt Alt = true
agree Out Alt = false
agree Alt Out = false

-- the place of a block's version now, by its work, with the frame of its page and its last version
abbrev pub worked_at : Working → Bool → Place → Version → Seat → Place
worked_at NoWork framed last v x = if framed then frame_at x else last
worked_at InNvm framed last v x = placed (other_version v) AtHome x
worked_at InBuffer framed last v x = buffer_at x

-- the version of the committed checkpoint
abbrev pub penult : Cell → Place
penult c = placed c.entry.v0 c.page.place (seat_of c)

-- the place at which the checkpoint under way is to have the block; the committed one's place if none is under way
abbrev pub target : Cell → Place
target c = placed c.entry.v1 c.page.target (seat_of c)

-- the version of the checkpoint under way
abbrev pub last : Cell → Place
last c = if c.page.busy then frame_at (seat_of c) else pending_at c.entry.pend c.entry.v1 c.page.target (seat_of c)

-- the working version, which a load gives
abbrev pub work : Cell → Place
work c = worked_at c.entry.work (is_framed c.page) (last c) c.entry.v0 (seat_of c)
