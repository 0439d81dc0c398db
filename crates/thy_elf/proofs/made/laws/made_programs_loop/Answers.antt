use Rattle.thy_elf.proofs.ProgramLemmas.{loops}
use Rattle.thy_elf.proofs.made.laws.made_programs_loop.Goals as goal

pub returns : goal.returns
returns c = loops
