-- Part of the claim.
-- Memory, as the log and the NVM hold it together.
use Rattle.std.specs.Prelude.{List, map}
use Rattle.std.specs.List.{range_with_len}
use Rattle.thy_block.specs.declared.block.Block.{Block}
use Rattle.thy_block.specs.Device.{Device}
use Rattle.thy_block.specs.Geometry.{memory_blocks}
use Rattle.thy_journal_parts.specs.State.{State, home_of, work_of}

-- every block as it was stored last, and every block at home
abbrev pub works : State → Device → List Block
works s n = map (work_of s n) (range_with_len 0 (memory_blocks s.p))

abbrev pub homes : State → Device → List Block
homes s n = map (home_of s n) (range_with_len 0 (memory_blocks s.p))
