-- Part of the claim.
-- What every scheme has at the same places or in the same size: header and commit block of an image, the processor's
-- record, and the DRAM.
use Rattle.std.specs.Prelude.{ℕ, ◌+◌, ◌-◌, ◌*◌}
use Rattle.thy_block.specs.declared.parameters.Parameters.{Parameters}

-- the place of the header in an image of the NVM
abbrev pub header_place : ℕ
header_place = 0

-- the place of the commit block in an image of the NVM
abbrev pub commit_place : ℕ
commit_place = 1

-- how many blocks the record of one hart has
abbrev pub hart_blocks : ℕ
hart_blocks = 5

-- how many blocks the processor's record has: five for each hart
abbrev pub record_blocks : Parameters → ℕ
record_blocks p = hart_blocks + hart_blocks * (p.harts - 1)

-- how many blocks the DRAM has: the buffers, and after them the frames
abbrev pub dram_blocks : Parameters → ℕ
dram_blocks p = p.btt + 64 * p.ptt

-- the place of buffer i in the DRAM
abbrev pub buffer_place : Parameters → ℕ → ℕ
buffer_place p i = i

-- the place of block k of frame j in the DRAM
abbrev pub frame_place : Parameters → ℕ → ℕ → ℕ
frame_place p j k = p.btt + (64 * j + k)
