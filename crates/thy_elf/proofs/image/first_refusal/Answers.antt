use Rattle.std.proofs.Common.{arith}
use Rattle.thy_elf.proofs.RefusalLemmas.{first_fault_after, first_fault_before}
use Rattle.thy_elf.proofs.image.first_refusal.Goals as goal

pub returns-then-some_needs_loader-clause-first : goal.returns-then-some_needs_loader-clause-first
returns-then-some_needs_loader-clause-first c = grind (arith, first_fault_after, first_fault_before)
