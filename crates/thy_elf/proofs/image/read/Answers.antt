use Rattle.std.proofs.Common.{arith}
use Rattle.thy_elf.proofs.RefusalLemmas.{cause_of}
use Rattle.thy_elf.proofs.image.read.Goals as goal

pub returns-in-Some-clause-cause : goal.returns-in-Some-clause-cause
returns-in-Some-clause-cause c = grind (arith, cause_of)
