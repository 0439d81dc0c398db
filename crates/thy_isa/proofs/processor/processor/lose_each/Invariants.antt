use Rattle.std.proofs.Common.{◌≡◌}
use Rattle.thy_isa.specs.Processor.{losing}
use Rattle.thy_isa.proofs.BankLaws.{changed_to}
use Rattle.thy_isa.proofs.processor.processor.lose_each.Given as goal

abbrev pub invariant-loop-k : goal.invariant-loop-k
invariant-loop-k l = l.banks ≡ changed_to (losing l.at l.len) l.k l.fn.banks
