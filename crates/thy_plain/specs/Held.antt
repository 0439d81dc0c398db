-- A state as the plain machine keeps it: a processor, which is a list of harts, with memory and console; and the same with one of
-- the harts in front.
use Rattle.std.specs.Prelude.{◌≤◌, ℕ, ◌<◌, length}
use Rattle.thy_block.specs.Bytes.{bytes_of}
use Rattle.thy_isa.specs.declared.state.CallState.{CallState}
use Rattle.thy_isa.specs.declared.state.Effect.{Effect}
use Rattle.thy_isa.specs.Step.{State, cpu_of, state_with, finished}
use Rattle.thy_plain.specs.declared.held.Held.{Held}
use Rattle.thy_isa.specs.Processor.{ProcessorState, cpu_at}

-- the state with hart h in front
abbrev pub state_at : ℕ → Held → State
state_at h m = state_with (cpu_at h (length (bytes_of m.console)) m.processor) (bytes_of m.memory) (bytes_of m.console)

-- there is a hart of this number, and at most one other
abbrev pub IsSeat : ℕ → ProcessorState → Type 0
IsSeat h p = (h < length p.harts) × (length p.harts ≤ 2)

-- any numbers that decide a call
abbrev pub any_calls : CallState
any_calls = record { cursor = 0; input_len = 0; console_len = 0; room = 0; base = 0; size = 0; floor = 0; brk = 0 }

-- a state after an effect that is no environment call, memory aside, which has read this number
abbrev pub taken : State → Effect → ℕ → State
taken s e number = state_with (finished (cpu_of s) e number any_calls) s.memory s.console
