-- Part of the claim.
-- The tables of both checkpoints, by what the entries of the controller's tables say.
use Rattle.std.specs.Prelude.{◌≡◌, ℕ, ◌<◌, map, option_and_then, Option, Some, None}
use Rattle.thy_table.specs.declared.place.Place.{Place}
use Rattle.thy_block.specs.Geometry.{memory_blocks}
use Rattle.thy_record.specs.Tables.{Tables, IsTables, place_of}
use Rattle.thy_table.specs.declared.block_entry.BttEntry.{BttEntry}
use Rattle.thy_table.specs.declared.block_entry.Version.{Version}
use Rattle.thy_table.specs.declared.block_entry.Version.TheVariants.{Out, Alt}
use Rattle.thy_table.specs.declared.page_entry.PttEntry.{PttEntry}
use Rattle.thy_table.specs.declared.page_entry.Site.{Site}
use Rattle.thy_table.specs.declared.page_entry.Site.TheVariants.{AtHome, AtAlternate}
use Rattle.thy_table.specs.declared.cell.Cell.{Cell}
use Rattle.thy_table.specs.Cells.{penult, target}
use Rattle.thy_control.specs.State.{State, AreSoundTables, cell_of}

-- the number that a checkpoint lists at an entry, by the place at which it has the block or the page of that entry
abbrev pub entry_lists : Version → ℕ → Option ℕ
entry_lists Out n = None
entry_lists Alt n = Some n

abbrev pub page_lists : Site → ℕ → Option ℕ
page_lists AtHome n = None
page_lists AtAlternate n = Some n

abbrev pub tables_by : (BttEntry → Version) → (PttEntry → Site) → State → Tables
tables_by version site s = record {
  btt = map (option_and_then (λ (e : BttEntry). entry_lists (version e) e.block)) s.btt.entries;
  ptt = map (option_and_then (λ (e : PttEntry). page_lists (site e) e.page)) s.ptt.entries;
}

-- the tables of the committed checkpoint
abbrev pub tables0 : State → Tables
tables0 s = tables_by (λ e. e.v0) (λ e. e.place) s

-- the tables of the checkpoint under way, or of the committed one if none is under way
abbrev pub tables1 : State → Tables
tables1 s = tables_by (λ e. e.v1) (λ e. e.target) s

-- tables that a checkpoint may have, with each block of memory at the place that its cell gives
pub record AreTablesOf (s : State) (t : Tables) (place : Cell → Place) : Type 0 where
  pub valid : IsTables s.p t
  pub same_place : (b : ℕ) → b < memory_blocks s.p → place_of t b ≡ place (cell_of s b)

abbrev pub CommittedTables : Type 0
CommittedTables = (s : State) → AreSoundTables s → AreTablesOf s (tables0 s) penult

abbrev pub TablesUnderWay : Type 0
TablesUnderWay = (s : State) → AreSoundTables s → AreTablesOf s (tables1 s) target
