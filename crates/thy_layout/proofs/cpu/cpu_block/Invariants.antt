use Rattle.std.proofs.Common.{◌≡◌, ℕ, ◌+◌, ◌*◌, ◌<◌, length, slice_index}
use Rattle.thy_layout.specs.Cpu.{cpu_words}
use Rattle.thy_layout.proofs.cpu.cpu_block.Given as goal

abbrev pub invariant-loop-i : goal.invariant-loop-i
invariant-loop-i l =
    (length l.words ≡ 8) × ((j : ℕ) → j < l.i → slice_index l.words j ≡ slice_index (cpu_words l.cpu l.epoch) (8 * l.k + j))
