use Rattle.std.proofs.Common.{rules}
use Rattle.thy_layout.specs.Cpu.{cpu_of_record}
use Rattle.thy_layout.proofs.slot.cpu_in.Goals as goal

pub returns : goal.returns
unfolding cpu_of_record
returns c = search rules
