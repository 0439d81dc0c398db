use Rattle.std.proofs.Common.{rules}
use Rattle.thy_isa.specs.Table.{instr_of}
use Rattle.thy_isa.proofs.decoding.decode_fence.Goals as goal

pub returns-in-1 : goal.returns-in-1
unfolding instr_of
returns-in-1 c = search rules
