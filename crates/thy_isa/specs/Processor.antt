-- A processor: a list of harts, and what they share; and what an effect of one of them makes of it. A hart's number is its
-- place in the list, and none ever changes its place.
use Rattle.std.specs.Prelude.{◌≡◌, ℕ, zero, suc, ◌+◌, ◌==◌, nat_lt, Bool, true, if◌then◌else◌, List, [], ◌∷◌, map, replicate, slice_index_or, slice_set, Option, Some, None}
use Rattle.thy_isa.specs.declared.state.Call.{Call}
use Rattle.thy_isa.specs.declared.state.Call.TheVariants.{Answer, Exit, Break, Take, Give}
use Rattle.thy_isa.specs.declared.state.CallState.{CallState}
use Rattle.thy_isa.specs.declared.state.CpuState.{CpuState}
use Rattle.thy_isa.specs.declared.state.Effect.{Effect}
use Rattle.thy_isa.specs.declared.state.Effect.TheVariants.{Next, Set, Read, Write, Reserve, Conditional, Fail, Modify, Environment, Trap}
use Rattle.thy_isa.specs.declared.state.OtherHart.{OtherHart}
use Rattle.thy_isa.specs.declared.state.Reservation.{Reservation}
use Rattle.thy_isa.specs.declared.state.Reservation.TheVariants.{Nothing}
use Rattle.thy_isa.specs.declared.state.Status.{Status}
use Rattle.thy_isa.specs.declared.state.Status.TheVariants.{Exited, Trapped}
use Rattle.thy_isa.specs.declared.instr.Extend.TheVariants.{Sign}
use Rattle.thy_isa.specs.declared.processor.processor.HartOf.{HartOf}
use Rattle.thy_isa.specs.Calls.{call_of}
use Rattle.thy_isa.specs.Effects.{size_of, after}
use Rattle.thy_isa.specs.Extending.{extended}
use Rattle.thy_isa.specs.Regs.{regs_with}
use Rattle.thy_isa.specs.Reservations.{reservation, left_by}
use Rattle.thy_isa.specs.Step.{cause_number}

-- the harts, and what they share
pub record ProcessorState : Type 0 where
  pub harts : List HartOf
  pub cursor : ℕ
  pub brk : ℕ
  pub floor : ℕ
  pub count : ℕ
  pub status : Status

-- what stands for a hart that is not there
abbrev pub no_hart : HartOf
no_hart = record { pc = 0; regs = replicate 32 0; reserved = Nothing 0 }

-- the hart of a number
abbrev pub hart_at : List HartOf → ℕ → HartOf
hart_at harts h = slice_index_or harts h no_hart

-- a hart after another one has written these bytes
abbrev pub losing : ℕ → ℕ → HartOf → HartOf
losing at len x = record x { reserved = left_by at len x.reserved }

-- hart h has written these bytes: each other one may lose its reservation
abbrev pub written_by : ℕ → ℕ → ℕ → List HartOf → List HartOf
written_by at len h harts = slice_set (map (losing at len) harts) h (hart_at harts h)

-- hart h of a processor becomes this one
abbrev pub with_hart : ℕ → HartOf → ProcessorState → ProcessorState
with_hart h x p = record p { harts = slice_set p.harts h x }

-- hart h of a processor has written these bytes
abbrev pub after_write : ℕ → ℕ → ℕ → ProcessorState → ProcessorState
after_write at len h p = record p { harts = written_by at len h p.harts }

-- hart h has retired an instruction, and is this one then
abbrev pub retiring : ℕ → HartOf → ProcessorState → ProcessorState
retiring h x p = record p { harts = slice_set p.harts h x; count = p.count + 1 }

-- hart h at the instruction after a call, with the call's result in a0, which is x10
abbrev pub hart_answered : HartOf → ℕ → HartOf
hart_answered x v = record x { pc = after x.pc; regs = regs_with x.regs 10 v }

-- the processor after a call of hart h
unfoldable pub processor_served : ℕ → ProcessorState → Call → ProcessorState
processor_served h p (Answer v) = retiring h (hart_answered (hart_at p.harts h) v) p
processor_served h p (Exit v) = record p { count = p.count + 1; status = Exited v }
processor_served h p (Break at) = record (retiring h (hart_answered (hart_at p.harts h) at) p) { brk = at }
processor_served h p (Take at len) =
    record (retiring h (hart_answered (hart_at p.harts h) len) (after_write at len h p)) { cursor = p.cursor + len }
processor_served h p (Give at len) = retiring h (hart_answered (hart_at p.harts h) len) p

-- the length of the console after a call
abbrev pub len_served : CallState → Call → ℕ
len_served c (Give at len) = c.console_len + len
len_served c call = c.console_len

-- The processor after an effect of hart h, which has read this number. A write removes the reservations of the other harts in
-- its block, and leaves its own; a store-conditional always gives its own up.
unfoldable pub processor_finished : ℕ → ProcessorState → Effect → ℕ → CallState → ProcessorState
processor_finished h p (Next pc) number calls = retiring h (record (hart_at p.harts h) { pc = pc }) p
processor_finished h p (Set rd pc v) number calls =
    let x = hart_at p.harts h in retiring h (record x { pc = pc; regs = regs_with x.regs rd v }) p
processor_finished h p (Read rd width extend pc at) number calls =
    let x = hart_at p.harts h in retiring h (record x { pc = pc; regs = regs_with x.regs rd (extended width extend number) }) p
processor_finished h p (Write width pc at v) number calls =
    retiring h (record (hart_at p.harts h) { pc = pc }) (after_write at (size_of width) h p)
processor_finished h p (Reserve rd width pc at) number calls =
    let x = hart_at p.harts h in
    retiring h (record { pc = pc; regs = regs_with x.regs rd (extended width Sign number); reserved = reservation width at }) p
processor_finished h p (Conditional rd width pc at v) number calls =
    let x = hart_at p.harts h in
    retiring h (record { pc = pc; regs = regs_with x.regs rd 0; reserved = Nothing 0 }) (after_write at (size_of width) h p)
processor_finished h p (Fail rd pc) number calls =
    let x = hart_at p.harts h in retiring h (record { pc = pc; regs = regs_with x.regs rd 1; reserved = Nothing 0 }) p
processor_finished h p (Modify op rd width pc at v) number calls =
    let x = hart_at p.harts h in
    retiring h (record x { pc = pc; regs = regs_with x.regs rd (extended width Sign number) }) (after_write at (size_of width) h p)
processor_finished h p Environment number calls = processor_served h p (call_of (hart_at p.harts h).regs calls)
processor_finished h p (Trap cause) number calls = record p { count = p.count + 1; status = Trapped (cause_number cause) }

-- the length of the console after an effect of a hart with these registers
abbrev pub len_after : List ℕ → Effect → CallState → ℕ
len_after x Environment c = len_served c (call_of x c)
len_after x e c = c.console_len

-- ---- the processor as one hart in front of at most one other

-- the harts of a processor that has hart 0 in front
abbrev pub harts_of : ℕ → List ℕ → Option OtherHart → List HartOf
harts_of pc regs None = record { pc = pc; regs = regs; reserved = Nothing 0 } ∷ []
harts_of pc regs (Some o) =
    record { pc = pc; regs = regs; reserved = o.front } ∷ record { pc = o.pc; regs = o.regs; reserved = o.back } ∷ []

-- that processor, without the length of its console
abbrev pub processor_of : CpuState → ProcessorState
processor_of c = record {
  harts = harts_of c.pc c.regs c.other;
  cursor = c.cursor;
  brk = c.brk;
  floor = c.floor;
  count = c.count;
  status = c.status;
}

-- this hart beside one in front that has reserved this
abbrev pub behind : Reservation → HartOf → OtherHart
behind front x = record { pc = x.pc; regs = x.regs; front = front; back = x.reserved }

-- what stands beside a hart of this number: with one hart nothing, and with more the first other one
abbrev pub other_of : ℕ → List HartOf → Option OtherHart
other_of h [] = None
other_of h (a ∷ []) = None
other_of zero (a ∷ b ∷ more) = Some (behind a.reserved b)
other_of (suc h) (a ∷ b ∷ more) = Some (behind b.reserved a)

-- the processor with hart h in front, with a console of this length
abbrev pub cpu_at : ℕ → ℕ → ProcessorState → CpuState
cpu_at h console_len p = record {
  pc = (hart_at p.harts h).pc;
  regs = (hart_at p.harts h).regs;
  console_len = console_len;
  cursor = p.cursor;
  brk = p.brk;
  floor = p.floor;
  count = p.count;
  status = p.status;
  other = other_of h p.harts;
}

-- the number of the hart that comes to the front next: with one hart it stays
abbrev pub front_after : ℕ → ℕ → ℕ
front_after harts h = if nat_lt harts 2 then h else if h == 0 then 1 else 0

-- if this says so, the hart in front is alone
abbrev pub IsAloneIf : Bool → CpuState → Type 0
IsAloneIf alone c = alone ≡ true → c.other ≡ None
