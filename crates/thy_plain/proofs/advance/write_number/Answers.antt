use Rattle.std.proofs.Common.{rules}
use Rattle.thy_block.specs.LittleEndian.{number_bytes}
use Rattle.thy_plain.proofs.advance.write_number.Goals as goal

pub returns-in-Byte : goal.returns-in-Byte
unfolding number_bytes
returns-in-Byte c = search rules

pub returns-in-Half : goal.returns-in-Half
unfolding number_bytes
returns-in-Half c = search rules

pub returns-in-Word : goal.returns-in-Word
unfolding number_bytes
returns-in-Word c = search rules

pub returns-in-Double : goal.returns-in-Double
unfolding number_bytes
returns-in-Double c = search rules
