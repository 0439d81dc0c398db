-- A move of one line, on the inner device.
use Rattle.std.specs.Prelude.{ℕ, ◌+◌}
use Rattle.thy_block.specs.declared.block.Block.{Block}
use Rattle.thy_block.specs.Device.{Device, newest, at_rest, written_to}
use Rattle.thy_gap.specs.declared.registers.Registers.{Registers}
use Rattle.thy_gap.specs.Lines.{source, moved, registers_block}

-- a device after a write and a barrier, but for its counts
abbrev pub put_down : ℕ → Block → Device → Device
put_down at block n = at_rest (written_to n at block)

-- a device with the counts of another
abbrev pub with_counts_of : Device → Device → Device
with_counts_of m n = record n { writes = m.writes; wear = m.wear }

-- after a move: the line was copied to the gap first, then the registers were written
abbrev pub line_moved : Registers → Device → Device
line_moved r n = put_down (r.lines + 1) (registers_block (moved r)) (put_down r.gap (newest n (source r)) n)
