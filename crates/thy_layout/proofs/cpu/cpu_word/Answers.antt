use Rattle.std.proofs.Common.{arith}
use Rattle.thy_layout.proofs.CpuLemmas.{second_at}
use Rattle.thy_layout.proofs.cpu.cpu_word.Goals as goal

pub returns-else-i-lt40 : goal.returns-else-i-lt40
returns-else-i-lt40 c =
    second_at c.args.cpu.now c.args.epoch c.args.i c.other_word.result c.requires.regs (omega arith) c.other_word.ensures
