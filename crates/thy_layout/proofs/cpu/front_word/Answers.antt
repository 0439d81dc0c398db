use Rattle.std.proofs.Common.{refl, arith}
use Rattle.thy_layout.proofs.CpuLemmas.{rest_at, reg_word}
use Rattle.thy_layout.proofs.cpu.front_word.Goals as goal

pub returns-in-32 : goal.returns-in-32
returns-in-32 c = rest_at c.args.cpu.now c.args.epoch c.args.i 0 c.args.cpu.now.count c.requires.regs c.in-32.is refl

pub returns-in-33 : goal.returns-in-33
returns-in-33 c = rest_at c.args.cpu.now c.args.epoch c.args.i 1 c.args.cpu.now.cursor c.requires.regs c.in-33.is refl

pub returns-in-34 : goal.returns-in-34
returns-in-34 c = rest_at c.args.cpu.now c.args.epoch c.args.i 2 c.args.cpu.now.console_len c.requires.regs c.in-34.is refl

pub returns-in-35 : goal.returns-in-35
returns-in-35 c = rest_at c.args.cpu.now c.args.epoch c.args.i 3 c.args.cpu.now.brk c.requires.regs c.in-35.is refl

pub returns-in-36 : goal.returns-in-36
returns-in-36 c = rest_at c.args.cpu.now c.args.epoch c.args.i 4 c.tag.result c.requires.regs c.in-36.is c.tag.ensures

pub returns-in-37 : goal.returns-in-37
returns-in-37 c = rest_at c.args.cpu.now c.args.epoch c.args.i 5 c.value.result c.requires.regs c.in-37.is c.value.ensures

pub returns-in-38 : goal.returns-in-38
returns-in-38 c = rest_at c.args.cpu.now c.args.epoch c.args.i 6 c.args.epoch c.requires.regs c.in-38.is refl

pub returns-in-39 : goal.returns-in-39
returns-in-39 c = rest_at c.args.cpu.now c.args.epoch c.args.i 7 c.args.cpu.now.floor c.requires.regs c.in-39.is refl

pub returns-in_default : goal.returns-in_default
returns-in_default c =
    reg_word c.args.cpu.now c.args.epoch c.args.i c.new.result c.get.result c.requires.regs (omega arith) (omega arith) (omega arith) c.get.ensures
