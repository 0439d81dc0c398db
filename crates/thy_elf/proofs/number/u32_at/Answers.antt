use Rattle.std.proofs.Common.{◌∙◌, arith}
use Rattle.thy_block.proofs.LittleEndianLemmas.{little_from-part}
use Rattle.thy_elf.proofs.number.u32_at.Goals as goal

pub returns : goal.returns
returns c = c.read_u32.ensures ∙ little_from-part 4 _ c.args.place c.args.file.now (omega arith)
