use Rattle.thy_elf.proofs.DecodeLemmas.{words_mean_the_program}
use Rattle.thy_elf.proofs.made.laws.made_words_decode.Goals as goal

pub returns : goal.returns
returns c = words_mean_the_program
