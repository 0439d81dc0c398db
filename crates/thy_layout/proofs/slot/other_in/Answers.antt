use Rattle.std.proofs.Common.{rules}
use Rattle.thy_layout.specs.Cpu.{other_of_record}
use Rattle.thy_layout.proofs.slot.other_in.Goals as goal

pub returns : goal.returns
unfolding other_of_record
returns c = search rules
