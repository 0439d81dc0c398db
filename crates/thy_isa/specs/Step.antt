-- Part of the claim.
-- One step of the plain machine, whose memory is one flat list of bytes, and k of them.
use Rattle.std.specs.Prelude.{◌≡◌, ℕ, zero, suc, ◌+◌, ◌-◌, ◌%◌, ◌^◌, ◌<◌, ◌==◌, Bool, true, false, if◌then◌else◌, List, ◌++◌, take, drop, length, replicate, Option, Some, None}
use Rattle.std.specs.Option.{option_map}
use Rattle.thy_block.specs.Bytes.{bytes_of, written}
use Rattle.thy_block.specs.Inside.{is_inside}
use Rattle.thy_block.specs.LittleEndian.{number_at, number_bytes}
use Rattle.thy_isa.specs.declared.state.Status.{Status}
use Rattle.thy_isa.specs.declared.state.Status.TheVariants.{Running, Exited, Trapped}
use Rattle.thy_isa.specs.declared.state.Cause.{Cause}
use Rattle.thy_isa.specs.declared.state.Cause.TheVariants.{FetchMisaligned, FetchAccess, Illegal, Breakpoint, LoadMisaligned, LoadAccess, StoreMisaligned, StoreAccess}
use Rattle.thy_isa.specs.declared.state.Effect.{Effect}
use Rattle.thy_isa.specs.declared.state.Effect.TheVariants.{Next, Set, Read, Write, Reserve, Conditional, Fail, Modify, Environment, Trap}
use Rattle.thy_isa.specs.declared.state.Call.{Call}
use Rattle.thy_isa.specs.declared.state.Call.TheVariants.{Answer, Exit, Break, Take, Give}
use Rattle.thy_isa.specs.declared.state.CallState.{CallState}
use Rattle.thy_isa.specs.declared.state.CpuState.{CpuState}
use Rattle.thy_isa.specs.declared.state.MachState.{MachState}
use Rattle.thy_isa.specs.declared.state.OtherHart.{OtherHart}
use Rattle.thy_isa.specs.declared.state.Reservation.TheVariants.{Nothing}
use Rattle.thy_isa.specs.declared.instr.Extend.TheVariants.{Sign}
use Rattle.thy_isa.specs.declared.instr.Width.{Width}
use Rattle.thy_isa.specs.Regs.{regs_with}
use Rattle.thy_isa.specs.Calls.{call_of}
use Rattle.thy_isa.specs.Extending.{extended}
use Rattle.thy_isa.specs.Atomics.{modified}
use Rattle.thy_isa.specs.Reservations.{reservation, is_reserved, written_past, reserving, front_of}
use Rattle.thy_isa.specs.Effects.{size_of, after, word_effect}

-- all that a program sees
pub record State : Type 0 where
  pub pc : ℕ
  pub regs : List ℕ
  pub memory : List ℕ
  pub console : List ℕ
  pub cursor : ℕ
  pub brk : ℕ
  pub floor : ℕ
  pub count : ℕ
  pub status : Status
  -- the hart that is not in front; none if there is one hart
  pub other : Option OtherHart

-- what stays the same over a run: the address of the first byte of program memory, the input, and how many
-- bytes the console takes at most
pub record Setting : Type 0 where
  pub base : ℕ
  pub input : List ℕ
  pub room : ℕ

-- the state that the program holds
abbrev pub state_of : MachState → State
state_of m = record {
  pc = m.pc;
  regs = m.regs;
  memory = bytes_of m.memory;
  console = bytes_of m.console;
  cursor = m.cursor;
  brk = m.brk;
  floor = m.floor;
  count = m.count;
  status = m.status;
  other = m.other;
}

-- a state without its memory, and with the length of its console
abbrev pub cpu_of : State → CpuState
cpu_of s = record {
  pc = s.pc;
  regs = s.regs;
  console_len = length s.console;
  cursor = s.cursor;
  brk = s.brk;
  floor = s.floor;
  count = s.count;
  status = s.status;
  other = s.other;
}

-- a state made of its rest, a memory and a console
abbrev pub state_with : CpuState → List ℕ → List ℕ → State
state_with c memory console = record {
  pc = c.pc;
  regs = c.regs;
  memory = memory;
  console = console;
  cursor = c.cursor;
  brk = c.brk;
  floor = c.floor;
  count = c.count;
  status = c.status;
  other = c.other;
}

-- a processor of one hart at address 0, which runs, with every number 0
abbrev pub zero_cpu : CpuState
zero_cpu = record {
  pc = 0;
  regs = replicate 32 0;
  console_len = 0;
  cursor = 0;
  brk = 0;
  floor = 0;
  count = 0;
  status = Running;
  other = None;
}

-- what an environment call is decided by
abbrev pub call_state_of : Setting → State → CallState
call_state_of g s = record {
  cursor = s.cursor;
  input_len = length g.input;
  console_len = length s.console;
  room = g.room - length s.console;
  base = g.base;
  size = length s.memory;
  floor = s.floor;
  brk = s.brk;
}

-- ---- traps

-- the number of a trap
abbrev pub cause_number : Cause → ℕ
cause_number FetchMisaligned = 0
cause_number FetchAccess = 1
cause_number Illegal = 2
cause_number Breakpoint = 3
cause_number LoadMisaligned = 4
cause_number LoadAccess = 5
cause_number StoreMisaligned = 6
cause_number StoreAccess = 7

-- why no word can be fetched at pc, None if one can
unfoldable pub fetch_fault : ℕ → ℕ → ℕ → Option Cause
fetch_fault base size pc =
    if pc % 4 == 0 then (if is_inside base size pc 4 then None else Some FetchAccess) else Some FetchMisaligned

-- an effect, or the trap if its address is no multiple of its width, or outside memory
abbrev pub aligned : ℕ → ℕ → Width → ℕ → Cause → Cause → Effect → Effect
aligned base size width at misaligned access e =
    if at % size_of width == 0
    then (if is_inside base size at (size_of width) then e else Trap access)
    else Trap misaligned

-- an effect that only one of two harts can have: with one hart its instruction is illegal
abbrev pub if_two : Option OtherHart → Effect → Effect
if_two None e = Trap Illegal
if_two (Some o) e = e

-- An effect as the hart in front has it, beside this other hart: a trap if it would read or write outside memory. An atomic
-- instruction is illegal with one hart, and its address has to be a multiple of its width. A store-conditional fails if its
-- bytes are not reserved.
unfoldable pub within : ℕ → ℕ → Option OtherHart → Effect → Effect
within base size other (Read rd width extend pc at) =
    if is_inside base size at (size_of width) then Read rd width extend pc at else Trap LoadAccess
within base size other (Write width pc at v) =
    if is_inside base size at (size_of width) then Write width pc at v else Trap StoreAccess
within base size other (Reserve rd width pc at) =
    if_two other (aligned base size width at LoadMisaligned LoadAccess (Reserve rd width pc at))
within base size other (Conditional rd width pc at v) =
    if_two other (aligned base size width at StoreMisaligned StoreAccess
    (if is_reserved (front_of other) width at then Conditional rd width pc at v else Fail rd pc))
within base size other (Modify op rd width pc at v) =
    if_two other (aligned base size width at StoreMisaligned StoreAccess (Modify op rd width pc at v))
within base size other e = e

abbrev pub fetched : Option Cause → Effect → Effect
fetched (Some c) e = Trap c
fetched None e = e

-- ---- one step

-- the word at pc
abbrev pub word_at : ℕ → State → ℕ
word_at base s = number_at 4 s.memory (s.pc - base)

-- what the instruction at pc does
unfoldable pub effect_at : ℕ → State → Effect
effect_at base s =
    let size = length s.memory in
    fetched (fetch_fault base size s.pc) (within base size s.other (word_effect (word_at base s) s.pc s.regs))

-- the number that an effect reads
unfoldable pub read_by : ℕ → List ℕ → Effect → ℕ
read_by base memory (Read rd width extend pc at) = number_at (size_of width) memory (at - base)
read_by base memory (Reserve rd width pc at) = number_at (size_of width) memory (at - base)
read_by base memory (Modify op rd width pc at v) = number_at (size_of width) memory (at - base)
read_by base memory e = 0

-- the environment call that the registers name
abbrev pub call_at : Setting → State → Call
call_at g s = call_of s.regs (call_state_of g s)

-- memory after a call: what is taken of the input is written there
unfoldable pub memory_served : Setting → State → Call → List ℕ
memory_served g s (Take at len) = written s.memory (at - g.base) (take len (drop s.cursor g.input))
memory_served g s call = s.memory

-- the console after a call: what is given is added at its end
unfoldable pub console_served : Setting → State → Call → List ℕ
console_served g s (Give at len) = s.console ++ take len (drop (at - g.base) s.memory)
console_served g s call = s.console

-- memory after an effect
unfoldable pub memory_by : Setting → State → Effect → List ℕ
memory_by g s (Write width pc at v) = written s.memory (at - g.base) (number_bytes (size_of width) v)
memory_by g s (Conditional rd width pc at v) = written s.memory (at - g.base) (number_bytes (size_of width) v)
memory_by g s (Modify op rd width pc at v) =
    let old = number_at (size_of width) s.memory (at - g.base) in
    written s.memory (at - g.base) (number_bytes (size_of width) (modified op width old v))
memory_by g s Environment = memory_served g s (call_at g s)
memory_by g s e = s.memory

-- the console after an effect
unfoldable pub console_by : Setting → State → Effect → List ℕ
console_by g s Environment = console_served g s (call_at g s)
console_by g s e = s.console

-- the rest of the state at the instruction after a call, with the call's result in a0, which is x10
abbrev pub answered : CpuState → ℕ → CpuState
answered c v = record c { pc = after c.pc; regs = regs_with c.regs 10 v; count = c.count + 1 }

-- the rest of the state after a call
unfoldable pub served : CpuState → Call → CpuState
served c (Answer v) = answered c v
served c (Exit v) = record c { count = c.count + 1; status = Exited v }
served c (Break at) = record (answered c at) { brk = at }
served c (Take at len) = record (answered c len) { cursor = c.cursor + len; other = written_past at len c.other }
served c (Give at len) = record (answered c len) { console_len = c.console_len + len }

-- the rest of the state after an effect, which has read this number
unfoldable pub finished : CpuState → Effect → ℕ → CallState → CpuState
finished c (Next pc) number calls = record c { pc = pc; count = c.count + 1 }
finished c (Set rd pc v) number calls = record c { pc = pc; regs = regs_with c.regs rd v; count = c.count + 1 }
finished c (Read rd width extend pc at) number calls =
    record c { pc = pc; regs = regs_with c.regs rd (extended width extend number); count = c.count + 1 }
finished c (Write width pc at v) number calls =
    record c { pc = pc; count = c.count + 1; other = written_past at (size_of width) c.other }
finished c (Reserve rd width pc at) number calls = record c {
  pc = pc;
  regs = regs_with c.regs rd (extended width Sign number);
  count = c.count + 1;
  other = reserving (reservation width at) c.other;
}
finished c (Conditional rd width pc at v) number calls = record c {
  pc = pc;
  regs = regs_with c.regs rd 0;
  count = c.count + 1;
  other = reserving (Nothing 0) (written_past at (size_of width) c.other);
}
finished c (Fail rd pc) number calls =
    record c { pc = pc; regs = regs_with c.regs rd 1; count = c.count + 1; other = reserving (Nothing 0) c.other }
finished c (Modify op rd width pc at v) number calls = record c {
  pc = pc;
  regs = regs_with c.regs rd (extended width Sign number);
  count = c.count + 1;
  other = written_past at (size_of width) c.other;
}
finished c Environment number calls = served c (call_of c.regs calls)
finished c (Trap cause) number calls = record c { count = c.count + 1; status = Trapped (cause_number cause) }

-- what decides an environment call fits this rest of a state: the cursor is the same, and with all of the room filled
-- the console's length is still a number of 64 bits
pub record AreCallsOf (c : CpuState) (calls : CallState) : Type 0 where
  pub cursor : calls.cursor ≡ c.cursor
  pub room : c.console_len + calls.room < 2 ^ 64

-- a state after an effect
unfoldable pub performed : Setting → State → Effect → State
performed g s e =
    state_with (finished (cpu_of s) e (read_by g.base s.memory e) (call_state_of g s)) (memory_by g s e) (console_by g s e)

-- a step of a state that runs: what the instruction at its program counter does
unfoldable pub advanced : Setting → State → State
advanced g s = performed g s (effect_at g.base s)

abbrev pub is_running : Status → Bool
is_running Running = true
is_running ended = false

-- a step: an ended state stays
unfoldable pub step : Setting → State → State
step g s = if is_running s.status then advanced g s else s

-- k steps
unfoldable pub steps : Setting → ℕ → State → State
steps g zero s = s
steps g (suc k) s = step g (steps g k s)

-- ---- two harts

-- the program counter and the registers that come to the front: the other hart's, if it is there
abbrev pub pc_behind : Option OtherHart → ℕ → ℕ
pc_behind None pc = pc
pc_behind (Some o) pc = o.pc

abbrev pub regs_behind : Option OtherHart → List ℕ → List ℕ
regs_behind None regs = regs
regs_behind (Some o) regs = o.regs

-- the hart that was in front, with this program counter and these registers, as the other one
abbrev pub exchanged : ℕ → List ℕ → OtherHart → OtherHart
exchanged pc regs o = record { pc = pc; regs = regs; front = o.back; back = o.front }

-- the other hart in front: with one hart nothing changes
abbrev pub crossed : State → State
crossed s = record s {
  pc = pc_behind s.other s.pc;
  regs = regs_behind s.other s.regs;
  other = option_map (exchanged s.pc s.regs) s.other;
}

-- the rest of a state with the other hart in front: with one hart nothing changes
abbrev pub cpu_crossed : CpuState → CpuState
cpu_crossed c = record c {
  pc = pc_behind c.other c.pc;
  regs = regs_behind c.other c.regs;
  other = option_map (exchanged c.pc c.regs) c.other;
}

-- a state with this hart in front, of one with hart 0 in front; and back again
abbrev pub fronted : ℕ → State → State
fronted zero s = s
fronted (suc hart) s = crossed s

-- a step of a hart. With one hart every hart is that one
unfoldable pub step_of : Setting → ℕ → State → State
step_of g hart s = fronted hart (step g (fronted hart s))
