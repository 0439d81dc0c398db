use Rattle.std.proofs.Common.{◌≡◌, ◌-◌, ◌∷◌, length, take}
use Rattle.thy_layout.specs.Cpu.{record_words}
use Rattle.thy_layout.specs.Files.{blocks_of}
use Rattle.thy_layout.proofs.slot.regs_in.Given as goal

abbrev pub invariant-loop-r : goal.invariant-loop-r
invariant-loop-r l = (length l.regs ≡ 32) × (take l.r l.regs ≡ 0 ∷ record_words (blocks_of l.slot) l.first (l.r - 1))
