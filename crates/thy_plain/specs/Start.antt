-- Part of the claim.
-- The state at which a program starts.
use Rattle.std.specs.Prelude.{ℕ, ◌-◌, ◌==◌, if◌then◌else◌, List, [], replicate, Option, Some, None}
use Rattle.thy_block.specs.declared.parameters.Parameters.{Parameters}
use Rattle.thy_block.specs.Geometry.{stack_top}
use Rattle.thy_elf.specs.Image.{Contents}
use Rattle.thy_isa.specs.declared.state.OtherHart.{OtherHart}
use Rattle.thy_isa.specs.declared.state.Reservation.TheVariants.{Nothing}
use Rattle.thy_isa.specs.declared.state.Status.TheVariants.{Running}
use Rattle.thy_isa.specs.Regs.{regs_with}
use Rattle.thy_isa.specs.Step.{State}

-- the registers: all 0 but the stack pointer, x2
unfoldable pub start_regs : Parameters → List ℕ
start_regs p = regs_with (replicate 32 0) 2 (stack_top p)

-- the registers of hart 1: its stack pointer is 2048 bytes below hart 0's, and its number is in a0, x10
unfoldable pub second_regs : Parameters → List ℕ
second_regs p = regs_with (regs_with (replicate 32 0) 2 (stack_top p - 2048)) 10 1

-- hart 1, at the same entry
abbrev pub second_hart : Parameters → ℕ → OtherHart
second_hart p entry = record { pc = entry; regs = second_regs p; front = Nothing 0; back = Nothing 0 }

-- hart 1 at the start, if there are two harts
abbrev pub start_other : Parameters → ℕ → Option OtherHart
start_other p entry = if p.harts == 2 then Some (second_hart p entry) else None

-- the state: at the image's entry, over its memory, with the break at its floor and an empty console
abbrev pub start_state : Parameters → Contents → State
start_state p image = record {
  pc = image.entry;
  regs = start_regs p;
  memory = image.memory;
  console = [];
  cursor = 0;
  brk = image.floor;
  floor = image.floor;
  count = 0;
  status = Running;
  other = start_other p image.entry;
}
