use Rattle.std.proofs.Common.{◌≡◌, ◌++◌, map, take}
use Rattle.thy_elf.specs.Encode.{encoded}
use Rattle.thy_elf.proofs.made.program.push_all.Given as goal

abbrev pub invariant-loop-instr : goal.invariant-loop-instr
invariant-loop-instr l = l.words.items ≡ l.initial.words.items ++ map encoded (take l.instr-index l.instrs)
