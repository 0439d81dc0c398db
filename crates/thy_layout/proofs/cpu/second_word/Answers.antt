use Rattle.std.proofs.Common.{arith}
use Rattle.thy_layout.proofs.CpuLemmas.{reserved_at, behind_reserved, second_reg}
use Rattle.thy_layout.proofs.cpu.second_word.Goals as goal

pub returns-in-32 : goal.returns-in-32
returns-in-32 c = reserved_at c.args.other.now c.args.i 0 c.width.result c.in-32.is c.width.ensures

pub returns-in-33 : goal.returns-in-33
returns-in-33 c = reserved_at c.args.other.now c.args.i 1 c.place.result c.in-33.is c.place.ensures

pub returns-in-34 : goal.returns-in-34
returns-in-34 c = reserved_at c.args.other.now c.args.i 2 c.width-in-34.result c.in-34.is c.width-in-34.ensures

pub returns-in-35 : goal.returns-in-35
returns-in-35 c = reserved_at c.args.other.now c.args.i 3 c.place-in-35.result c.in-35.is c.place-in-35.ensures

pub returns-then-r-lt32 : goal.returns-then-r-lt32
returns-then-r-lt32 c =
    second_reg c.args.other.now c.args.i c.new.result c.get.result (omega arith) (omega arith) (omega arith) c.get.ensures

pub returns-else-r-lt32 : goal.returns-else-r-lt32
returns-else-r-lt32 c = behind_reserved c.args.other.now c.args.i (omega arith)
