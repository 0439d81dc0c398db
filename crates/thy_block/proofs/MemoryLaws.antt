-- Program memory and the console are bytes of the blocks of memory.
use Rattle.std.proofs.Common.{◌≡◌, ℕ, ◌+◌, ◌≤◌, List, length, drop, arith}
use Rattle.std.proofs.lemmas.List.{length-take-le, length-drop}
use Rattle.thy_block.specs.declared.block.Block.{Block}
use Rattle.thy_block.specs.declared.parameters.Parameters.{Parameters}
use Rattle.thy_block.specs.Geometry.{IsInRange, program_size, console_room, memory_blocks}
use Rattle.thy_block.specs.Flat.{flat, memory_bytes, console_bytes}
use Rattle.thy_block.proofs.FlatLemmas.{length-flat}
use Rattle.thy_block.proofs.RangeLemmas.{console_below}

module _ (p : Parameters) (blocks : List Block) where
  pub size_inside : length blocks ≡ memory_blocks p → program_size p ≤ length (flat blocks)
  size_inside h = omega (arith, length-flat blocks, h)

  pub room_inside : IsInRange p → length blocks ≡ memory_blocks p → program_size p + console_room p ≡ length (flat blocks)
  room_inside r h = omega (arith, length-flat blocks, h, console_below p r)

  pub length-memory_bytes : length blocks ≡ memory_blocks p → length (memory_bytes p blocks) ≡ program_size p
  length-memory_bytes h = length-take-le (program_size p) (flat blocks) (size_inside h)

  pub length-console_bytes : (n : ℕ) → IsInRange p → length blocks ≡ memory_blocks p → n ≤ console_room p
      → length (console_bytes p blocks n) ≡ n
  length-console_bytes n r h most =
      length-take-le n (drop (program_size p) (flat blocks)) (omega (arith, length-drop (program_size p) (flat blocks), room_inside r h))
