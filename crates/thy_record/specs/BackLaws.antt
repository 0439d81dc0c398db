-- What is written reads back, block by block.
use Rattle.std.specs.Prelude.{◌≡◌, List}
use Rattle.thy_block.specs.declared.block.Block.{Block}
use Rattle.thy_block.specs.declared.parameters.Parameters.{Parameters}
use Rattle.thy_block.specs.Geometry.{IsInRange}
use Rattle.thy_record.specs.Slots.{HasTableBlocks, tables_in}
use Rattle.thy_record.specs.TableBlocks.{FitBlocks}
use Rattle.thy_record.specs.Tables.{Tables}

-- both tables read back from their blocks in a slot, whatever else the slot holds
abbrev pub TablesReadBack : Type 0
TablesReadBack =
    (p : Parameters) (t : Tables) (slot : List Block)
    → IsInRange p → FitBlocks p t → HasTableBlocks p t slot → tables_in p slot ≡ t
