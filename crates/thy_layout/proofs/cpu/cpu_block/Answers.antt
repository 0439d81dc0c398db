use Rattle.std.proofs.Common.{◌∙◌, arith}
use Rattle.thy_layout.proofs.CpuLemmas.{same_block_words}
use Rattle.thy_layout.proofs.cpu.cpu_block.Goals as goal

pub returns : goal.returns
returns c =
    c.block_with.ensures
    ∙ same_block_words c.args.cpu.now c.args.epoch c.args.k c.loop-i.words c.requires.regs c.requires.block c.loop-i.invariant.0
    (λ j l. c.loop-i.invariant.1 j (omega arith))
