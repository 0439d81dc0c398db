-- How a DRAM lies in memory: a ring, a mark for each of its blocks that was written since power was lost last, and the pick of
-- that loss. Of the blocks without a mark nothing is held: they are drawn when they are read.
use Rattle.std.specs.Prelude.{◌≡◌, ℕ, ◌<◌, Bool, List, length}
use Rattle.thy_block.specs.Device.{applied}
use Rattle.thy_dram.specs.Held.{Held}
use Rattle.thy_dram.specs.Merged.{merged}
use Rattle.thy_dram.specs.declared.jumps.Jump.{Jump}
use Rattle.thy_dram.specs.Contents.{Contents}
use Rattle.thy_dram.specs.Draws.{blocks_over}
use Rattle.thy_dram.specs.Jumps.{block_powers}

-- the contents that these parts stand for: the queued writes are read as if they had landed
abbrev pub contents_in : Held → List Bool → ℕ → Contents
contents_in held marks pick = record {
  blocks = merged marks (applied held.image held.queue) (blocks_over pick held.image);
  queued = length held.queue;
  room = held.room;
}

-- what holds of the parts
pub record IsSoundDram (held : Held) (marks : List Bool) (powers : List Jump) : Type 0 where
  -- the queue has room for a write
  pub some_room : 0 < held.room
  -- there is a mark for each block
  pub marked : length marks ≡ length held.image
  -- the table by which draws are found
  pub table : powers ≡ block_powers
