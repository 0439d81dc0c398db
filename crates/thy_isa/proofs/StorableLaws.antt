-- A step of a storable state is storable; the console only grows and stays within its room, the cursor stays within the
-- input, and the size of memory stays.
use Rattle.std.proofs.Common.{◌≡◌, ℕ, zero, suc, ◌+◌, ◌-◌, ◌%◌, ◌<◌, ◌≤◌, ◌==◌, ◌&&◌, ◌||◌, Bool, true, false, not, nat_le, if◌then◌else◌, List, [], ◌++◌, length, take, drop, get_or, set, Option, Some, None, refl, sym, ap, ◌∙◌, arith, lit<, length-append, length-drop, length-set, get_or-set_other, append-nil, append_assoc}
use Rattle.std.proofs.lemmas.List.{length-take-le}
use Rattle.std.specs.List.{All}
use Rattle.std.proofs.lemmas.Bool.Decides.{nat_tests}
use Rattle.std.proofs.lemmas.List.Elements.{All-set, All-take, All-drop, All-append}
use Rattle.thy_block.specs.Inside.{is_inside}
use Rattle.thy_block.specs.LittleEndian.{number_at, number_bytes}
use Rattle.thy_block.proofs.WrittenLemmas.{length-written}
use Rattle.thy_isa.specs.declared.state.Status.{Status}
use Rattle.thy_isa.specs.declared.state.Status.TheVariants.{Exited, Trapped}
use Rattle.thy_isa.specs.declared.state.Cause.{Cause}
use Rattle.thy_isa.specs.declared.state.Cause.TheVariants.{FetchMisaligned, FetchAccess, Illegal, Breakpoint, LoadMisaligned, LoadAccess, StoreMisaligned, StoreAccess}
use Rattle.thy_isa.specs.declared.state.Effect.{Effect}
use Rattle.thy_isa.specs.declared.state.Effect.TheVariants.{Next, Set, Read, Write, Reserve, Conditional, Fail, Modify, Environment, Trap}
use Rattle.thy_isa.specs.declared.state.Call.{Call}
use Rattle.thy_isa.specs.declared.state.Call.TheVariants.{Answer, Exit, Break, Take, Give}
use Rattle.thy_isa.specs.declared.state.CallState.{CallState}
use Rattle.thy_isa.specs.declared.state.CpuState.{CpuState}
use Rattle.thy_isa.specs.declared.state.OtherHart.{OtherHart}
use Rattle.thy_isa.specs.declared.state.Reservation.{Reservation}
use Rattle.thy_isa.specs.declared.state.Reservation.TheVariants.{Nothing, Word as WordAt, Double as DoubleAt}
use Rattle.thy_isa.specs.declared.instr.Extend.TheVariants.{Sign}
use Rattle.thy_isa.specs.declared.instr.Width.{Width}
use Rattle.thy_isa.specs.declared.instr.Width.TheVariants.{Byte, Half, Word, Double}
use Rattle.thy_isa.specs.Atomics.{modified}
use Rattle.thy_isa.specs.Regs.{regs_with}
use Rattle.thy_isa.specs.Reservations.{reservation, is_reserved, shares_block, left_by, written_past, reserving, front_of}
use Rattle.thy_isa.specs.Calls.{a0, a1, a2, a7, refusal, few, read_of, write_of, first_sp, break_of, call_of, IsFit}
use Rattle.thy_isa.specs.Console.{IsGrown}
use Rattle.thy_isa.specs.Effects.{size_of}
use Rattle.thy_isa.specs.Extending.{extended}
use Rattle.thy_isa.specs.Step.{State, Setting, cpu_of, call_state_of, cause_number, fetch_fault, aligned, if_two, within, fetched, word_at, effect_at, read_by, call_at, memory_served, console_served, memory_by, console_by, answered, served, finished, performed, advanced, is_running, step, steps}
use Rattle.thy_isa.specs.Storable.{IsNumber, IsByte, IsStatus, IsReservation, IsOtherOf, IsStorable, IsReadable}
use Rattle.thy_isa.specs.Access.{IsWithin}
use Rattle.thy_isa.proofs.AccessLaws.{effect_at-within}
use Rattle.thy_isa.proofs.CallLaws.{if_call, call_of-fit}
use Rattle.thy_isa.proofs.NumberBounds.{low64_number}
use Rattle.thy_isa.proofs.MemoryBounds.{anywhere, number_at-number, extended-number, length-number_bytes, number_bytes-bytes, written-bytes}
use Rattle.thy_isa.proofs.InstrBounds.{EffectNumbers, if_effect, word_effect-numbers}

-- ---- registers

length-regs_with : (x : List ℕ) (r v : ℕ) → length (regs_with x r v) ≡ length x
length-regs_with x r v = elim (r == 0) as (λ b. length (if b then x else set x r v) ≡ length x) [ true ↦ refl | false ↦ length-set x r v ]

regs_with-numbers : (x : List ℕ) (r v : ℕ) → All IsNumber x → IsNumber v → All IsNumber (regs_with x r v)
regs_with-numbers x r v h p = elim (r == 0) as (λ b. All IsNumber (if b then x else set x r v)) [ true ↦ h | false ↦ All-set IsNumber x r v p h ]

regs_with-zero : (x : List ℕ) (r v : ℕ) → get_or x 0 0 ≡ 0 → get_or (regs_with x r v) 0 0 ≡ 0
regs_with-zero x r v h = grind (arith, nat_tests, get_or-set_other)

-- ---- what the rest of a state keeps

-- the part of `IsStorable` that speaks of neither memory nor console
pub record IsCpu (c : CpuState) : Type 0 where
  pub pc : IsNumber c.pc
  pub registers : length c.regs ≡ 32
  pub numbers : All IsNumber c.regs
  pub zero_register : get_or c.regs 0 0 ≡ 0
  pub cursor : IsNumber c.cursor
  pub brk : IsNumber c.brk
  pub floor : IsNumber c.floor
  pub status : IsStatus c.status
  pub other : IsOtherOf c.other

with_pc : (c : CpuState) (pc : ℕ) → IsCpu c → IsNumber pc → IsCpu (record c { pc = pc; count = c.count + 1 })
with_pc c pc h p = record {
  pc = p;
  registers = h.registers;
  numbers = h.numbers;
  zero_register = h.zero_register;
  cursor = h.cursor;
  brk = h.brk;
  floor = h.floor;
  status = h.status;
  other = h.other;
}

with_register : (c : CpuState) (pc rd v : ℕ) → IsCpu c → IsNumber pc → IsNumber v
    → IsCpu (record c { pc = pc; regs = regs_with c.regs rd v; count = c.count + 1 })
with_register c pc rd v h p q = record {
  pc = p;
  registers = length-regs_with c.regs rd v ∙ h.registers;
  numbers = regs_with-numbers c.regs rd v h.numbers q;
  zero_register = regs_with-zero c.regs rd v h.zero_register;
  cursor = h.cursor;
  brk = h.brk;
  floor = h.floor;
  status = h.status;
  other = h.other;
}

with_status : (c : CpuState) (s : Status) → IsCpu c → IsStatus s → IsCpu (record c { count = c.count + 1; status = s })
with_status c s h p = record {
  pc = h.pc;
  registers = h.registers;
  numbers = h.numbers;
  zero_register = h.zero_register;
  cursor = h.cursor;
  brk = h.brk;
  floor = h.floor;
  status = p;
  other = h.other;
}

-- a step to another program counter keeps `IsCpu`, beside another hart too
with_pc_beside : (c : CpuState) (pc : ℕ) (o : Option OtherHart) → IsCpu c → IsNumber pc → IsOtherOf o
    → IsCpu (record c { pc = pc; count = c.count + 1; other = o })
with_pc_beside c pc o h p w = record {
  pc = p;
  registers = h.registers;
  numbers = h.numbers;
  zero_register = h.zero_register;
  cursor = h.cursor;
  brk = h.brk;
  floor = h.floor;
  status = h.status;
  other = w;
}

with_register_beside : (c : CpuState) (pc rd v : ℕ) (o : Option OtherHart) → IsCpu c → IsNumber pc → IsNumber v → IsOtherOf o
    → IsCpu (record c { pc = pc; regs = regs_with c.regs rd v; count = c.count + 1; other = o })
with_register_beside c pc rd v o h p q w = record {
  pc = p;
  registers = length-regs_with c.regs rd v ∙ h.registers;
  numbers = regs_with-numbers c.regs rd v h.numbers q;
  zero_register = regs_with-zero c.regs rd v h.zero_register;
  cursor = h.cursor;
  brk = h.brk;
  floor = h.floor;
  status = h.status;
  other = w;
}

-- ---- reservations

reservation-is : (width : Width) (at : ℕ) → IsNumber at → IsReservation (reservation width at)
reservation-is Byte at h = lit< tt
reservation-is Half at h = lit< tt
reservation-is Word at h = h
reservation-is Double at h = h

lost_if : (b : Bool) (r : Reservation) → IsReservation r → IsReservation (if b then Nothing 0 else r)
lost_if true r h = lit< tt
lost_if false r h = h

left_by-is : (at len : ℕ) (r : Reservation) → IsReservation r → IsReservation (left_by at len r)
left_by-is at len (Nothing a) h = h
left_by-is at len (WordAt a) h = lost_if (shares_block at len a) (WordAt a) h
left_by-is at len (DoubleAt a) h = lost_if (shares_block at len a) (DoubleAt a) h

written_past-is : (at len : ℕ) (o : Option OtherHart) → IsOtherOf o → IsOtherOf (written_past at len o)
written_past-is at len None h = tt
written_past-is at len (Some o) h = record {
  pc = h.pc;
  registers = h.registers;
  numbers = h.numbers;
  zero_register = h.zero_register;
  front = h.front;
  back = left_by-is at len o.back h.back;
}

reserving-is : (r : Reservation) (o : Option OtherHart) → IsReservation r → IsOtherOf o → IsOtherOf (reserving r o)
reserving-is r None p h = tt
reserving-is r (Some o) p h = record {
  pc = h.pc;
  registers = h.registers;
  numbers = h.numbers;
  zero_register = h.zero_register;
  front = p;
  back = h.back;
}

-- ---- calls

-- a result is a number of 64 bits, an exit's value a byte, and so few bytes are moved
abbrev CallNumbers : Call → Type 0
CallNumbers (Answer v) = IsNumber v
CallNumbers (Exit v) = v < 256
CallNumbers (Break at) = IsNumber at
CallNumbers (Take at len) = IsNumber len
CallNumbers (Give at len) = IsNumber len

few_number : (asked left : ℕ) → IsNumber (few asked left)
few_number asked left = omega arith

read_of-numbers : (descriptor at count : ℕ) (c : CallState) → CallNumbers (read_of descriptor at count c)
unfolding read_of
read_of-numbers descriptor at count c =
    let len = few count (c.input_len - c.cursor) in
    if_call CallNumbers (not (descriptor == 0)) _ _ (λ _. lit< tt) (λ _.
    if_call CallNumbers (count == 0) _ _ (λ _. lit< tt) (λ _.
    if_call CallNumbers (nat_le c.input_len c.cursor) _ _ (λ _. lit< tt) (λ _.
    if_call CallNumbers (is_inside c.base c.size at len) (Take at len) (Answer (refusal 14)) (λ _. few_number count (c.input_len - c.cursor)) (λ _. lit< tt))))

write_of-numbers : (descriptor at count : ℕ) (c : CallState) → CallNumbers (write_of descriptor at count c)
unfolding write_of
write_of-numbers descriptor at count c =
    let len = few count c.room in
    if_call CallNumbers (not (descriptor == 1 || descriptor == 2)) _ _ (λ _. lit< tt) (λ _.
    if_call CallNumbers (count == 0) _ _ (λ _. lit< tt) (λ _.
    if_call CallNumbers (c.room == 0) _ _ (λ _. lit< tt) (λ _.
    if_call CallNumbers (is_inside c.base c.size at len) (Give at len) (Answer (refusal 14)) (λ _. few_number count c.room) (λ _. lit< tt))))

break_of-numbers : (at : ℕ) (c : CallState) → IsNumber at → IsNumber c.brk → CallNumbers (break_of at c)
unfolding break_of
break_of-numbers at c h p =
    if_call CallNumbers (nat_le c.floor at && nat_le (at + 65536) (first_sp c)) (Break at) (Answer c.brk) (λ _. h) (λ _. p)

a0_number : (x : List ℕ) → All IsNumber x → IsNumber (a0 x)
a0_number x h = anywhere IsNumber (lit< tt) x h 10

call_of-numbers : (x : List ℕ) (c : CallState) → All IsNumber x → IsNumber c.brk → CallNumbers (call_of x c)
unfolding call_of
call_of-numbers x c h p =
    if_call CallNumbers (a7 x == 63) (read_of (a0 x) (a1 x) (a2 x) c) _ (λ _. read_of-numbers (a0 x) (a1 x) (a2 x) c) (λ _.
    if_call CallNumbers (a7 x == 64) (write_of (a0 x) (a1 x) (a2 x) c) _ (λ _. write_of-numbers (a0 x) (a1 x) (a2 x) c) (λ _.
    if_call CallNumbers (a7 x == 93 || a7 x == 94) (Exit (a0 x % 256)) _ (λ _. omega arith) (λ _.
    if_call CallNumbers (a7 x == 214) (break_of (a0 x) c) (Answer (refusal 38)) (λ _. break_of-numbers (a0 x) c (a0_number x h) p) (λ _. lit< tt))))

-- what a call is decided by: the cursor and the break of the state, and a length of the input of 64 bits
pub record AreCallNumbers (c : CpuState) (calls : CallState) : Type 0 where
  pub cursor : calls.cursor ≡ c.cursor
  pub input : IsNumber calls.input_len
  pub brk : IsNumber calls.brk

answered-keeps : (c : CpuState) (v : ℕ) → IsCpu c → IsNumber v → IsCpu (answered c v)
answered-keeps c v h p = with_register c _ 10 v h (low64_number (c.pc + 4)) p

served-keeps : (c : CpuState) (calls : CallState) (k : Call) → AreCallNumbers c calls → IsFit calls k → CallNumbers k → IsCpu c
    → IsCpu (served c k)
unfolding served
served-keeps c calls (Answer v) a f p h = answered-keeps c v h p
served-keeps c calls (Exit v) a f p h = with_status c (Exited v) h p
served-keeps c calls (Break at) a f p h =
    let n = answered-keeps c at h p in
    record {
      pc = n.pc;
      registers = n.registers;
      numbers = n.numbers;
      zero_register = n.zero_register;
      cursor = n.cursor;
      brk = p;
      floor = n.floor;
      status = n.status;
      other = n.other;
    }
served-keeps c calls (Take at len) a f p h =
    let n = answered-keeps c len h p in
    record {
      pc = n.pc;
      registers = n.registers;
      numbers = n.numbers;
      zero_register = n.zero_register;
      cursor = omega (arith, a.cursor, a.input, f.1);
      brk = n.brk;
      floor = n.floor;
      status = n.status;
      other = written_past-is at len c.other h.other;
    }
served-keeps c calls (Give at len) a f p h =
    let n = answered-keeps c len h p in
    record {
      pc = n.pc;
      registers = n.registers;
      numbers = n.numbers;
      zero_register = n.zero_register;
      cursor = n.cursor;
      brk = n.brk;
      floor = n.floor;
      status = n.status;
      other = n.other;
    }

cause_below : (c : Cause) → cause_number c < 8
cause_below FetchMisaligned = lit< tt
cause_below FetchAccess = lit< tt
cause_below Illegal = lit< tt
cause_below Breakpoint = lit< tt
cause_below LoadMisaligned = lit< tt
cause_below LoadAccess = lit< tt
cause_below StoreMisaligned = lit< tt
cause_below StoreAccess = lit< tt

pub finished-keeps : (c : CpuState) (e : Effect) (n : ℕ) (k : CallState) → IsCpu c → AreCallNumbers c k → EffectNumbers e → IsNumber n
    → IsCpu (finished c e n k)
unfolding finished
finished-keeps c (Next pc) n k h a p q = with_pc c pc h p
finished-keeps c (Set rd pc v) n k h a p q = with_register c pc rd v h p.0 p.1
finished-keeps c (Read rd width extend pc at) n k h a p q = with_register c pc rd _ h p (extended-number width extend n q)
finished-keeps c (Write width pc at v) n k h a p q =
    with_pc_beside c pc (written_past at (size_of width) c.other) h p (written_past-is at (size_of width) c.other h.other)
finished-keeps c (Reserve rd width pc at) n k h a p q =
    with_register_beside c pc rd (extended width Sign n) (reserving (reservation width at) c.other) h p.0 (extended-number width Sign n q)
    (reserving-is (reservation width at) c.other (reservation-is width at p.1) h.other)
finished-keeps c (Conditional rd width pc at v) n k h a p q =
    with_register_beside c pc rd 0 (reserving (Nothing 0) (written_past at (size_of width) c.other)) h p (lit< tt)
    (reserving-is (Nothing 0) (written_past at (size_of width) c.other) (lit< tt) (written_past-is at (size_of width) c.other h.other))
finished-keeps c (Fail rd pc) n k h a p q =
    with_register_beside c pc rd 1 (reserving (Nothing 0) c.other) h p (lit< tt) (reserving-is (Nothing 0) c.other (lit< tt) h.other)
finished-keeps c (Modify op rd width pc at v) n k h a p q =
    with_register_beside c pc rd (extended width Sign n) (written_past at (size_of width) c.other) h p (extended-number width Sign n q)
    (written_past-is at (size_of width) c.other h.other)
finished-keeps c Environment n k h a p q = served-keeps c k (call_of c.regs k) a (call_of-fit c.regs k) (call_of-numbers c.regs k h.numbers a.brk) h
finished-keeps c (Trap cause) n k h a p q = with_status c (Trapped (cause_number cause)) h (cause_below cause)

-- ---- what the instruction at pc does

aligned-numbers : (base size : ℕ) (width : Width) (at : ℕ) (misaligned access : Cause) (e : Effect) → EffectNumbers e
    → EffectNumbers (aligned base size width at misaligned access e)
aligned-numbers base size width at misaligned access e h =
    if_effect (at % size_of width == 0) (if is_inside base size at (size_of width) then e else Trap access) (Trap misaligned)
    (if_effect (is_inside base size at (size_of width)) e (Trap access) h tt) tt

two-numbers : (o : Option OtherHart) (e : Effect) → EffectNumbers e → EffectNumbers (if_two o e)
two-numbers None e h = tt
two-numbers (Some o) e h = h

within-numbers : (base size : ℕ) (o : Option OtherHart) (e : Effect) → EffectNumbers e → EffectNumbers (within base size o e)
unfolding within
within-numbers base size o (Next pc) h = h
within-numbers base size o (Set rd pc v) h = h
within-numbers base size o (Read rd width extend pc at) h =
    if_effect (is_inside base size at (size_of width)) (Read rd width extend pc at) (Trap LoadAccess) h tt
within-numbers base size o (Write width pc at v) h =
    if_effect (is_inside base size at (size_of width)) (Write width pc at v) (Trap StoreAccess) h tt
within-numbers base size o (Reserve rd width pc at) h =
    two-numbers o (aligned base size width at LoadMisaligned LoadAccess (Reserve rd width pc at))
    (aligned-numbers base size width at LoadMisaligned LoadAccess (Reserve rd width pc at) h)
within-numbers base size o (Conditional rd width pc at v) h =
    let e : Effect = if is_reserved (front_of o) width at then Conditional rd width pc at v else Fail rd pc in
    two-numbers o (aligned base size width at StoreMisaligned StoreAccess e)
    (aligned-numbers base size width at StoreMisaligned StoreAccess e
    (if_effect (is_reserved (front_of o) width at) (Conditional rd width pc at v) (Fail rd pc) h h))
within-numbers base size o (Fail rd pc) h = h
within-numbers base size o (Modify op rd width pc at v) h =
    two-numbers o (aligned base size width at StoreMisaligned StoreAccess (Modify op rd width pc at v))
    (aligned-numbers base size width at StoreMisaligned StoreAccess (Modify op rd width pc at v) h)
within-numbers base size o Environment h = tt
within-numbers base size o (Trap c) h = tt

fetched-numbers : (o : Option Cause) (e : Effect) → EffectNumbers e → EffectNumbers (fetched o e)
fetched-numbers None e h = h
fetched-numbers (Some c) e h = tt

pub effect_at-numbers : (base : ℕ) (s : State) → All IsNumber s.regs → EffectNumbers (effect_at base s)
unfolding effect_at
effect_at-numbers base s h =
    fetched-numbers (fetch_fault base (length s.memory) s.pc) _
    (within-numbers base (length s.memory) s.other _ (word_effect-numbers (word_at base s) s.pc s.regs h))

-- ---- memory

read_by-number : (base : ℕ) (memory : List ℕ) (e : Effect) → All IsByte memory → IsNumber (read_by base memory e)
unfolding read_by
read_by-number base memory (Next pc) h = lit< tt
read_by-number base memory (Set rd pc v) h = lit< tt
read_by-number base memory (Read rd width extend pc at) h = number_at-number width memory (at - base) h
read_by-number base memory (Write width pc at v) h = lit< tt
read_by-number base memory (Reserve rd width pc at) h = number_at-number width memory (at - base) h
read_by-number base memory (Conditional rd width pc at v) h = lit< tt
read_by-number base memory (Fail rd pc) h = lit< tt
read_by-number base memory (Modify op rd width pc at v) h = number_at-number width memory (at - base) h
read_by-number base memory Environment h = lit< tt
read_by-number base memory (Trap c) h = lit< tt

module _ (g : Setting) (s : State) where
  memory_served-bytes : (k : Call) → All IsByte g.input → All IsByte s.memory → All IsByte (memory_served g s k)
  unfolding memory_served
  memory_served-bytes (Answer v) i h = h
  memory_served-bytes (Exit v) i h = h
  memory_served-bytes (Break at) i h = h
  memory_served-bytes (Take at len) i h =
      written-bytes s.memory (at - g.base) (take len (drop s.cursor g.input)) h
      (All-take IsByte len (drop s.cursor g.input) (All-drop IsByte s.cursor g.input i))
  memory_served-bytes (Give at len) i h = h

  memory_by-bytes : (e : Effect) → All IsByte g.input → All IsByte s.memory → All IsByte (memory_by g s e)
  unfolding memory_by
  memory_by-bytes (Next pc) i h = h
  memory_by-bytes (Set rd pc v) i h = h
  memory_by-bytes (Read rd width extend pc at) i h = h
  memory_by-bytes (Write width pc at v) i h =
      written-bytes s.memory (at - g.base) (number_bytes (size_of width) v) h (number_bytes-bytes (size_of width) v)
  memory_by-bytes (Reserve rd width pc at) i h = h
  memory_by-bytes (Conditional rd width pc at v) i h =
      written-bytes s.memory (at - g.base) (number_bytes (size_of width) v) h (number_bytes-bytes (size_of width) v)
  memory_by-bytes (Fail rd pc) i h = h
  memory_by-bytes (Modify op rd width pc at v) i h =
      let new = modified op width (number_at (size_of width) s.memory (at - g.base)) v in
      written-bytes s.memory (at - g.base) (number_bytes (size_of width) new) h (number_bytes-bytes (size_of width) new)
  memory_by-bytes Environment i h = memory_served-bytes (call_at g s) i h
  memory_by-bytes (Trap c) i h = h

  -- what is taken is as long as the call says
  pub length-taken : (len : ℕ) → s.cursor + len ≤ length g.input → length (take len (drop s.cursor g.input)) ≡ len
  length-taken len h = length-take-le len (drop s.cursor g.input) (omega (arith, length-drop s.cursor g.input))

  length-memory_served : (k : Call) → IsFit (call_state_of g s) k → length (memory_served g s k) ≡ length s.memory
  unfolding memory_served
  length-memory_served (Answer v) f = refl
  length-memory_served (Exit v) f = refl
  length-memory_served (Break at) f = refl
  length-memory_served (Take at len) f =
      length-written s.memory (at - g.base) (take len (drop s.cursor g.input)) (omega (arith, length-taken len f.1, f.0.low, f.0.high))
  length-memory_served (Give at len) f = refl

  pub length-memory_by : (e : Effect) → IsWithin g.base (length s.memory) e → length (memory_by g s e) ≡ length s.memory
  unfolding memory_by
  length-memory_by (Next pc) h = refl
  length-memory_by (Set rd pc v) h = refl
  length-memory_by (Read rd width extend pc at) h = refl
  length-memory_by (Write width pc at v) h =
      length-written s.memory (at - g.base) (number_bytes (size_of width) v) (omega (arith, length-number_bytes width v, h.0, h.1))
  length-memory_by (Reserve rd width pc at) h = refl
  length-memory_by (Conditional rd width pc at v) h =
      length-written s.memory (at - g.base) (number_bytes (size_of width) v) (omega (arith, length-number_bytes width v, h.0, h.1))
  length-memory_by (Fail rd pc) h = refl
  length-memory_by (Modify op rd width pc at v) h =
      let new = modified op width (number_at (size_of width) s.memory (at - g.base)) v in
      length-written s.memory (at - g.base) (number_bytes (size_of width) new) (omega (arith, length-number_bytes width new, h.0, h.1))
  length-memory_by Environment h = length-memory_served (call_at g s) (call_of-fit s.regs (call_state_of g s))
  length-memory_by (Trap c) h = refl

  -- ---- the console

  console_served-bytes : (k : Call) → All IsByte s.memory → All IsByte s.console → All IsByte (console_served g s k)
  unfolding console_served
  console_served-bytes (Answer v) m h = h
  console_served-bytes (Exit v) m h = h
  console_served-bytes (Break at) m h = h
  console_served-bytes (Take at len) m h = h
  console_served-bytes (Give at len) m h =
      All-append IsByte s.console (take len (drop (at - g.base) s.memory)) h
      (All-take IsByte len (drop (at - g.base) s.memory) (All-drop IsByte (at - g.base) s.memory m))

  console_by-bytes : (e : Effect) → All IsByte s.memory → All IsByte s.console → All IsByte (console_by g s e)
  unfolding console_by
  console_by-bytes (Next pc) m h = h
  console_by-bytes (Set rd pc v) m h = h
  console_by-bytes (Read rd width extend pc at) m h = h
  console_by-bytes (Write width pc at v) m h = h
  console_by-bytes (Reserve rd width pc at) m h = h
  console_by-bytes (Conditional rd width pc at v) m h = h
  console_by-bytes (Fail rd pc) m h = h
  console_by-bytes (Modify op rd width pc at v) m h = h
  console_by-bytes Environment m h = console_served-bytes (call_at g s) m h
  console_by-bytes (Trap c) m h = h

IsGrown-same : (l : List ℕ) → IsGrown l l
IsGrown-same l = record { more = []; grown = sym (append-nil l) }

IsGrown-on : (a b c : List ℕ) → IsGrown a b → IsGrown b c → IsGrown a c
IsGrown-on a b c one two = record {
  more = one.more ++ two.more;
  grown = two.grown ∙ ap (λ (l : List ℕ). l ++ two.more) one.grown ∙ append_assoc a one.more two.more;
}

console_served-grows : (g : Setting) (s : State) (k : Call) → IsGrown s.console (console_served g s k)
unfolding console_served
console_served-grows g s (Answer v) = IsGrown-same s.console
console_served-grows g s (Exit v) = IsGrown-same s.console
console_served-grows g s (Break at) = IsGrown-same s.console
console_served-grows g s (Take at len) = IsGrown-same s.console
console_served-grows g s (Give at len) = record { more = take len (drop (at - g.base) s.memory); grown = refl }

console_by-grows : (g : Setting) (s : State) (e : Effect) → IsGrown s.console (console_by g s e)
unfolding console_by
console_by-grows g s (Next pc) = IsGrown-same s.console
console_by-grows g s (Set rd pc v) = IsGrown-same s.console
console_by-grows g s (Read rd width extend pc at) = IsGrown-same s.console
console_by-grows g s (Write width pc at v) = IsGrown-same s.console
console_by-grows g s (Reserve rd width pc at) = IsGrown-same s.console
console_by-grows g s (Conditional rd width pc at v) = IsGrown-same s.console
console_by-grows g s (Fail rd pc) = IsGrown-same s.console
console_by-grows g s (Modify op rd width pc at v) = IsGrown-same s.console
console_by-grows g s Environment = console_served-grows g s (call_at g s)
console_by-grows g s (Trap c) = IsGrown-same s.console

-- what is given is as long as the call says
pub length-given : (base at len : ℕ) (memory : List ℕ) → base ≤ at → at + len ≤ base + length memory
    → length (take len (drop (at - base) memory)) ≡ len
length-given base at len memory low high = length-take-le len (drop (at - base) memory) (omega (arith, length-drop (at - base) memory))

console_served-room : (g : Setting) (s : State) (k : Call) → IsFit (call_state_of g s) k → length s.console ≤ g.room
    → length (console_served g s k) ≤ g.room
unfolding console_served
console_served-room g s (Answer v) f h = h
console_served-room g s (Exit v) f h = h
console_served-room g s (Break at) f h = h
console_served-room g s (Take at len) f h = h
console_served-room g s (Give at len) f h =
    omega (arith, length-append s.console (take len (drop (at - g.base) s.memory)), length-given g.base at len s.memory f.0.low f.0.high, f.1)

console_by-room : (g : Setting) (s : State) (e : Effect) → length s.console ≤ g.room → length (console_by g s e) ≤ g.room
unfolding console_by
console_by-room g s (Next pc) h = h
console_by-room g s (Set rd pc v) h = h
console_by-room g s (Read rd width extend pc at) h = h
console_by-room g s (Write width pc at v) h = h
console_by-room g s (Reserve rd width pc at) h = h
console_by-room g s (Conditional rd width pc at v) h = h
console_by-room g s (Fail rd pc) h = h
console_by-room g s (Modify op rd width pc at v) h = h
console_by-room g s Environment h = console_served-room g s (call_at g s) (call_of-fit s.regs (call_state_of g s)) h
console_by-room g s (Trap c) h = h

served-room : (c : CpuState) (calls : CallState) (k : Call) (most : ℕ) → calls.room ≡ most - c.console_len → IsFit calls k
    → c.console_len ≤ most → (served c k).console_len ≤ most
unfolding served
served-room c calls (Answer v) most e f h = h
served-room c calls (Exit v) most e f h = h
served-room c calls (Break at) most e f h = h
served-room c calls (Take at len) most e f h = h
served-room c calls (Give at len) most e f h = omega (arith, e, f.1)

-- the length of a console stays within a room, if a call depends on what is left of it
pub finished-room : (c : CpuState) (e : Effect) (n : ℕ) (k : CallState) (most : ℕ) → k.room ≡ most - c.console_len → c.console_len ≤ most
    → (finished c e n k).console_len ≤ most
unfolding finished
finished-room c (Next pc) n k most e h = h
finished-room c (Set rd pc v) n k most e h = h
finished-room c (Read rd width extend pc at) n k most e h = h
finished-room c (Write width pc at v) n k most e h = h
finished-room c (Reserve rd width pc at) n k most e h = h
finished-room c (Conditional rd width pc at v) n k most e h = h
finished-room c (Fail rd pc) n k most e h = h
finished-room c (Modify op rd width pc at v) n k most e h = h
finished-room c Environment n k most e h = served-room c k (call_of c.regs k) most e (call_of-fit c.regs k) h
finished-room c (Trap cause) n k most e h = h

-- ---- the cursor

served-cursor : (c : CpuState) (calls : CallState) (k : Call) → calls.cursor ≡ c.cursor → IsFit calls k → c.cursor ≤ calls.input_len
    → (served c k).cursor ≤ calls.input_len
unfolding served
served-cursor c calls (Answer v) e f h = h
served-cursor c calls (Exit v) e f h = h
served-cursor c calls (Break at) e f h = h
served-cursor c calls (Take at len) e f h = omega (arith, e, f.1)
served-cursor c calls (Give at len) e f h = h

pub finished-cursor : (c : CpuState) (e : Effect) (n : ℕ) (k : CallState) → k.cursor ≡ c.cursor → c.cursor ≤ k.input_len
    → (finished c e n k).cursor ≤ k.input_len
unfolding finished
finished-cursor c (Next pc) n k e h = h
finished-cursor c (Set rd pc v) n k e h = h
finished-cursor c (Read rd width extend pc at) n k e h = h
finished-cursor c (Write width pc at v) n k e h = h
finished-cursor c (Reserve rd width pc at) n k e h = h
finished-cursor c (Conditional rd width pc at v) n k e h = h
finished-cursor c (Fail rd pc) n k e h = h
finished-cursor c (Modify op rd width pc at v) n k e h = h
finished-cursor c Environment n k e h = served-cursor c k (call_of c.regs k) e (call_of-fit c.regs k) h
finished-cursor c (Trap cause) n k e h = h

-- ---- steps

pub cpu_from_storable : (size : ℕ) (s : State) → IsStorable size s → IsCpu (cpu_of s)
cpu_from_storable size s h = record {
  pc = h.pc;
  registers = h.registers;
  numbers = h.numbers;
  zero_register = h.zero_register;
  cursor = h.cursor;
  brk = h.brk;
  floor = h.floor;
  status = h.status;
  other = h.other;
}

advanced-storable : (g : Setting) (size : ℕ) (s : State) → IsReadable g → IsStorable size s → IsStorable size (advanced g s)
unfolding advanced performed
advanced-storable g size s r h =
    let e = effect_at g.base s in
    let n = read_by g.base s.memory e in
    let calls : AreCallNumbers (cpu_of s) (call_state_of g s) = record { cursor = refl; input = r.size; brk = h.brk } in
    let c : IsCpu (finished (cpu_of s) e n (call_state_of g s)) =
    finished-keeps (cpu_of s) e n (call_state_of g s) (cpu_from_storable size s h) calls (effect_at-numbers g.base s h.numbers)
    (read_by-number g.base s.memory e h.memory) in
    record {
      pc = c.pc;
      registers = c.registers;
      numbers = c.numbers;
      zero_register = c.zero_register;
      memory_size = length-memory_by g s e (effect_at-within g.base s) ∙ h.memory_size;
      memory = memory_by-bytes g s e r.bytes h.memory;
      console = console_by-bytes g s e h.memory h.console;
      cursor = c.cursor;
      brk = c.brk;
      floor = c.floor;
      status = c.status;
      other = c.other;
    }

-- a fact of a state that took a step or stays
pub if_state : (P : State → Type 0) (b : Bool) (s t : State) → P s → P t → P (if b then s else t)
if_state P true s t p q = p
if_state P false s t p q = q

-- a step of a storable state is storable
pub step-storable : (g : Setting) (size : ℕ) (s : State) → IsReadable g → IsStorable size s → IsStorable size (step g s)
unfolding step
step-storable g size s r h = if_state (IsStorable size) (is_running s.status) (advanced g s) s (advanced-storable g size s r h) h

pub steps-storable : (g : Setting) (size k : ℕ) (s : State) → IsReadable g → IsStorable size s → IsStorable size (steps g k s)
unfolding steps
steps-storable g size zero s r h = h
steps-storable g size (suc k) s r h = step-storable g size (steps g k s) r (steps-storable g size k s r h)

-- ---- what every step keeps

advanced-console : (g : Setting) (s : State) → IsGrown s.console (advanced g s).console
unfolding advanced performed
advanced-console g s = console_by-grows g s (effect_at g.base s)

-- the console only grows
pub step-console : (g : Setting) (s : State) → IsGrown s.console (step g s).console
unfolding step
step-console g s = if_state (λ t. IsGrown s.console t.console) (is_running s.status) (advanced g s) s (advanced-console g s) (IsGrown-same s.console)

pub steps-console : (g : Setting) (k : ℕ) (s : State) → IsGrown s.console (steps g k s).console
unfolding steps
steps-console g zero s = IsGrown-same s.console
steps-console g (suc k) s = IsGrown-on s.console (steps g k s).console (step g (steps g k s)).console (steps-console g k s)
    (step-console g (steps g k s))

advanced-room : (g : Setting) (s : State) → length s.console ≤ g.room → length (advanced g s).console ≤ g.room
unfolding advanced performed
advanced-room g s h = console_by-room g s (effect_at g.base s) h

-- the console stays within its room
pub step-room : (g : Setting) (s : State) → length s.console ≤ g.room → length (step g s).console ≤ g.room
unfolding step
step-room g s h = if_state (λ t. length t.console ≤ g.room) (is_running s.status) (advanced g s) s (advanced-room g s h) h

pub steps-room : (g : Setting) (k : ℕ) (s : State) → length s.console ≤ g.room → length (steps g k s).console ≤ g.room
unfolding steps
steps-room g zero s h = h
steps-room g (suc k) s h = step-room g (steps g k s) (steps-room g k s h)

advanced-cursor : (g : Setting) (s : State) → s.cursor ≤ length g.input → (advanced g s).cursor ≤ length g.input
unfolding advanced performed
advanced-cursor g s h =
    finished-cursor (cpu_of s) (effect_at g.base s) (read_by g.base s.memory (effect_at g.base s)) (call_state_of g s) refl h

-- the cursor stays within the input
pub step-cursor : (g : Setting) (s : State) → s.cursor ≤ length g.input → (step g s).cursor ≤ length g.input
unfolding step
step-cursor g s h = if_state (λ t. t.cursor ≤ length g.input) (is_running s.status) (advanced g s) s (advanced-cursor g s h) h
