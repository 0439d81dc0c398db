use Rattle.std.proofs.Common.{length, take, ap, arith}
use Rattle.thy_layout.specs.Cpu.{record_words}
use Rattle.thy_layout.specs.Files.{blocks_of}
use Rattle.thy_layout.proofs.CpuLemmas.{regs_more}
use Rattle.thy_layout.proofs.slot.regs_in.Goals as goal

pub loop-r-init : goal.loop-r-init
unfolding record_words
loop-r-init c = (ap length c.new-regs.ensures, ap (take 1) c.new-regs.ensures)

pub loop-r-preserved : goal.loop-r-preserved
loop-r-preserved c =
    regs_more (blocks_of c.args.slot.now) c.args.first c.loop-r.regs c.set.new.self c.loop-r.r c.new.result c.word_in.result c.loop-r.invariant.0
    (omega arith) (omega arith) c.new.ensures c.loop-r.invariant.1 c.word_in.ensures c.set.ensures
