use Rattle.thy_elf.proofs.FileLemmas.{length-made_file}
use Rattle.thy_elf.proofs.ProgramLemmas.{length-made_program}
use Rattle.thy_elf.proofs.made.laws.made_files_are_long.Goals as goal

pub returns-clause-program : goal.returns-clause-program
returns-clause-program c = length-made_program

pub returns-clause-file : goal.returns-clause-file
returns-clause-file c = length-made_file
