-- Where an image has each block of memory, as one list of numbers: entry by entry of the table.
use Rattle.std.specs.Prelude.{ℕ, List, slice_set, Option, Some, None}
use Rattle.thy_block.specs.declared.parameters.Parameters.{Parameters}
use Rattle.thy_images.specs.JournalPlaces.{journal_place}

-- the block that entry i of the table lists stands in the journal of slot s
abbrev pub with_block : Parameters → ℕ → ℕ → Option ℕ → List ℕ → List ℕ
with_block p s i None index = index
with_block p s i (Some b) index = slice_set index b (journal_place p s i)
