use Rattle.std.proofs.Common.{◌*◌, ◌∙◌, sym, arith}
use Rattle.thy_block.proofs.LittleEndianLemmas.{little_from-part}
use Rattle.thy_layout.proofs.FileLemmas.{record_word-blocks_of}
use Rattle.thy_layout.proofs.slot.word_in.Goals as goal

pub returns : goal.returns
returns c =
    c.read_u64.ensures ∙ little_from-part 8 _ (8 * c.args.i) c.args.slot.now (omega (arith, c.requires))
    ∙ sym (record_word-blocks_of c.args.slot.now c.args.i c.requires)
