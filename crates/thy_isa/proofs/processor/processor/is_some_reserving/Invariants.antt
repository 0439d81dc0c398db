use Rattle.std.proofs.Common.{◌≡◌, ℕ}
use Rattle.thy_isa.specs.Processor.{losing}
use Rattle.thy_isa.proofs.BankLaws.{changed_to}
use Rattle.thy_isa.proofs.processor.processor.is_some_reserving.Given as goal

abbrev pub invariant-loop-k : goal.invariant-loop-k
invariant-loop-k l = (at len : ℕ) → changed_to (losing at len) l.k l.fn.banks ≡ l.fn.banks
