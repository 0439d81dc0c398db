-- Part of the claim.
-- The numbers that the entries of the tables list.
use Rattle.std.specs.Prelude.{ℕ}
use Rattle.thy_table.specs.declared.block_entry.BttEntry.{BttEntry}
use Rattle.thy_table.specs.declared.page_entry.PttEntry.{PttEntry}

abbrev pub block_key : BttEntry → ℕ
block_key e = e.block

abbrev pub page_key : PttEntry → ℕ
page_key e = e.page
