use Rattle.std.proofs.Common.{◌*◌, ◌∙◌, arith}
use Rattle.thy_block.proofs.LittleEndianLemmas.{little_from-part}
use Rattle.thy_block.specs.Words.{word_of}
use Rattle.thy_block.proofs.words.word.Goals as goal

pub returns : goal.returns
unfolding word_of
returns c = c.read_u64.ensures ∙ little_from-part 8 _ (8 * c.args.i) c.args.block.now.0 (omega (arith, c.requires))
