-- The tables of the checkpoint under way, eight entries a block.
use Rattle.std.specs.Prelude.{ℕ, ◌*◌, List, ◌++◌, take, drop, Option}
use Rattle.thy_record.specs.Tables.{Tables}
use Rattle.thy_table.specs.declared.block_entry.BttEntry.{BttEntry}
use Rattle.thy_table.specs.declared.page_entry.PttEntry.{PttEntry}
use Rattle.thy_control.specs.CheckpointTables.{entry_lists, page_lists}

-- the block that the checkpoint under way lists at an entry of the block table, and the page at one of the page table
abbrev pub block_due : BttEntry → Option ℕ
block_due e = entry_lists e.v1 e.block

abbrev pub page_due : PttEntry → Option ℕ
page_due e = page_lists e.target e.page

-- the entries of block k of tables
abbrev pub entries_of : Tables → ℕ → List (Option ℕ)
entries_of t k = take 8 (drop (8 * k) (t.btt ++ t.ptt))
