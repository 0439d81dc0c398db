-- Part of the claim.
-- The blocks that a start makes of memory: its bytes, and after them its console's pages.
use Rattle.std.specs.Prelude.{◌≡◌, ℕ, ◌-◌, ◌*◌, ◌≤◌, List, ◌++◌, length, map, take, drop, replicate}
use Rattle.std.specs.List.{range_with_len}
use Rattle.thy_block.specs.declared.block.Block.{Block}
use Rattle.thy_block.specs.declared.parameters.Parameters.{Parameters}
use Rattle.thy_block.specs.Geometry.{IsInRange, memory_blocks, program_size, console_room}
use Rattle.thy_isa.specs.Step.{State, cpu_of}
use Rattle.thy_layout.specs.Cpu.{IsRecordable}
use Rattle.thy_computer.specs.Safe.{ceiling}

-- a start has the registers, and its memory and console have the sizes of the geometry
pub record IsStartFor (p : Parameters) (s : State) : Type 0 where
  pub regs : length s.regs ≡ 32
  pub memory : length s.memory ≡ program_size p
  pub console : length s.console ≤ console_room p

-- a start has the sizes of the geometry, and can be recorded
pub record CanStart (p : Parameters) (s : State) : Type 0 where
  pub geometry : IsInRange p
  pub start : IsStartFor p s
  pub recordable : IsRecordable p ceiling (cpu_of s)

-- the bytes of a start: memory, and the console's pages filled up with zeros
abbrev pub start_bytes : Parameters → State → List ℕ
start_bytes p s = s.memory ++ (s.console ++ replicate (console_room p - length s.console) 0)

-- block b of a start, and all its blocks
abbrev pub start_block : Parameters → State → ℕ → Block
start_block p s b = record { 0 = take 64 (drop (64 * b) (start_bytes p s)) }

abbrev pub start_blocks : Parameters → State → List Block
start_blocks p s = map (start_block p s) (range_with_len 0 (memory_blocks p))
