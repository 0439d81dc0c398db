-- Part of the claim.
-- The tables as words, eight entries a block: the block table, and after it the page table.
use Rattle.std.specs.Prelude.{◌≡◌, ℕ, ◌*◌, List, ◌++◌, length, map, take, drop}
use Rattle.thy_block.specs.declared.block.Block.{Block}
use Rattle.thy_block.specs.declared.parameters.Parameters.{Parameters}
use Rattle.thy_record.specs.Tables.{Tables}
use Rattle.thy_block.specs.Words.{block_of}
use Rattle.thy_layout.specs.Entries.{entry_word, HaveWords}

-- tables of which their blocks say all: they have the geometry's numbers of entries, each of which fits a word
pub record FitBlocks (p : Parameters) (t : Tables) : Type 0 where
  pub btt_length : length t.btt ≡ p.btt
  pub ptt_length : length t.ptt ≡ p.ptt
  pub btt : HaveWords t.btt
  pub ptt : HaveWords t.ptt

abbrev pub table_words : Tables → List ℕ
table_words t = map entry_word (t.btt ++ t.ptt)

-- block k of the tables
unfoldable pub table_block_of : Tables → ℕ → Block
table_block_of t k = block_of (take 8 (drop (8 * k) (table_words t)))
