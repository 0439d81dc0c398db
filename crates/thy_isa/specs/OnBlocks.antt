-- Part of the claim.
-- One step over the blocks of memory: what an effect reads and writes are spans of them, each of at most two blocks.
use Rattle.std.specs.Prelude.{ℕ, ◌-◌, List, ◌++◌, length}
use Rattle.thy_block.specs.declared.block.Block.{Block}
use Rattle.thy_block.specs.declared.parameters.Parameters.{Parameters}
use Rattle.thy_block.specs.Geometry.{program_size, console_room}
use Rattle.thy_block.specs.LittleEndian.{number_at}
use Rattle.thy_block.specs.Flat.{memory_bytes, console_bytes}
use Rattle.thy_block.specs.Spans.{span, gathered, scattered}
use Rattle.thy_isa.specs.declared.state.CallState.{CallState}
use Rattle.thy_isa.specs.declared.state.CpuState.{CpuState}
use Rattle.thy_isa.specs.declared.state.Effect.{Effect}
use Rattle.thy_isa.specs.Effects.{word_effect}
use Rattle.thy_isa.specs.Moves.{moves_of, brings, number_in, outgoing}
use Rattle.thy_isa.specs.Step.{State, Setting, state_with, fetch_fault, fetched, within, finished}

-- what stays the same over a run in these numbers, with this input
abbrev pub setting_for : Parameters → List ℕ → Setting
setting_for p input = record { base = p.base; input = input; room = console_room p }

-- the state that a processor and the blocks of memory make
unfoldable pub state_from : Parameters → CpuState → List Block → State
state_from p cpu blocks = state_with cpu (memory_bytes p blocks) (console_bytes p blocks cpu.console_len)

-- what an environment call is decided by, with an input of this length
abbrev pub calls_in : Parameters → CpuState → ℕ → CallState
calls_in p cpu input_len = record {
  cursor = cpu.cursor;
  input_len = input_len;
  console_len = cpu.console_len;
  room = console_room p - cpu.console_len;
  base = p.base;
  size = program_size p;
  floor = cpu.floor;
  brk = cpu.brk;
}

-- what the instruction at the program counter does: its word is a span of four bytes
unfoldable pub effect_in : Parameters → CpuState → List Block → Effect
effect_in p cpu blocks =
    let word = number_at 4 (gathered blocks (span (cpu.pc - p.base) 4)) 0 in
    fetched (fetch_fault p.base (program_size p) cpu.pc) (within p.base (program_size p) cpu.other (word_effect word cpu.pc cpu.regs))

-- the bytes that an effect moves: those that it brings along, or those that it reads
unfoldable pub bytes_in : Parameters → List ℕ → CpuState → List Block → Effect → List ℕ
bytes_in p input cpu blocks e =
    let calls = calls_in p cpu (length input) in
    brings input cpu.regs calls e ++ gathered blocks (moves_of cpu.regs calls e).from

-- the processor after an effect that has moved these bytes
unfoldable pub cpu_after : Parameters → List ℕ → CpuState → Effect → List ℕ → CpuState
cpu_after p input cpu e bytes = finished cpu e (number_in e bytes) (calls_in p cpu (length input))

-- the blocks after an effect
unfoldable pub blocks_after : Parameters → List ℕ → CpuState → List Block → Effect → List ℕ → List Block
blocks_after p input cpu blocks e bytes =
    scattered blocks (moves_of cpu.regs (calls_in p cpu (length input)) e).to (outgoing e bytes)
