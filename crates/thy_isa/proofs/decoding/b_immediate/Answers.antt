use Rattle.std.proofs.Common.{rules}
use Rattle.thy_isa.proofs.decoding.b_immediate.Goals as goal

pub returns : goal.returns
returns c = search rules
