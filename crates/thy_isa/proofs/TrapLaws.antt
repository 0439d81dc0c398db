-- No step traps for a misaligned load or store, except for an atomic instruction with two harts.
use Rattle.std.proofs.Common.{◌≡◌, ◌+◌, ◌%◌, ◌==◌, ℕ, Bool, true, false, if◌then◌else◌, List, length, Option, Some, None}
use Rattle.std.specs.Option.{option_map_or}
use Rattle.thy_block.specs.Inside.{is_inside}
use Rattle.thy_isa.specs.declared.instr.Instr.{Instr}
use Rattle.thy_isa.specs.declared.instr.Instr.TheVariants.{Lui, Auipc, Jal, Jalr, Branch, Load, Store, OpImm, Op, Fence, FenceI, Ecall, Ebreak, LoadReserved, StoreConditional, AtomicOp}
use Rattle.thy_isa.specs.declared.state.Status.{Status}
use Rattle.thy_isa.specs.declared.state.Status.TheVariants.{Running, Exited, Trapped}
use Rattle.thy_isa.specs.declared.state.Cause.TheVariants.{FetchMisaligned, FetchAccess, Illegal, LoadMisaligned, LoadAccess, StoreMisaligned, StoreAccess}
use Rattle.thy_isa.specs.declared.state.Call.{Call}
use Rattle.thy_isa.specs.declared.state.Call.TheVariants.{Answer, Exit, Break, Take, Give}
use Rattle.thy_isa.specs.declared.state.CallState.{CallState}
use Rattle.thy_isa.specs.declared.state.CpuState.{CpuState}
use Rattle.thy_isa.specs.declared.state.Effect.{Effect}
use Rattle.thy_isa.specs.declared.state.Effect.TheVariants.{Next, Set, Read, Write, Reserve, Conditional, Fail, Modify, Environment, Trap}
use Rattle.thy_isa.specs.declared.state.OtherHart.{OtherHart}
use Rattle.thy_isa.specs.Access.{IsAtomic}
use Rattle.thy_isa.specs.Arith.{low64}
use Rattle.thy_isa.specs.Calls.{call_of}
use Rattle.thy_isa.specs.Effects.{size_of, holds, after, even, linked, branched, effect_of, word_effect}
use Rattle.thy_isa.specs.Laws.{IsNotMisaligned, MisalignedIsServed, AccessesAreServed}
use Rattle.thy_isa.specs.Regs.{reg_at}
use Rattle.thy_isa.specs.Reservations.{is_reserved, front_of}
use Rattle.thy_isa.specs.Step.{State, Setting, cpu_of, call_state_of, cause_number, fetch_fault, aligned, if_two, within, fetched, word_at, effect_at, read_by, served, finished, performed, advanced, is_running, step}
use Rattle.thy_isa.specs.Table.{instr_of}
use Rattle.thy_isa.proofs.StepLaws.{step-running}

-- an effect does not trap with the number of a misaligned load or store
abbrev Spares : Effect → Type 0
Spares (Next pc) = Unit {0}
Spares (Set rd pc v) = Unit {0}
Spares (Read rd width extend pc at) = Unit {0}
Spares (Write width pc at v) = Unit {0}
Spares (Reserve rd width pc at) = Unit {0}
Spares (Conditional rd width pc at v) = Unit {0}
Spares (Fail rd pc) = Unit {0}
Spares (Modify op rd width pc at v) = Unit {0}
Spares Environment = Unit {0}
Spares (Trap cause) = IsNotMisaligned (Trapped (cause_number cause))

if_spares : (b : Bool) (e f : Effect) → Spares e → Spares f → Spares (if b then e else f)
if_spares true e f p q = p
if_spares false e f p q = q

fetch-spares : Spares (Trap FetchMisaligned)
fetch-spares = ((λ h. cc), (λ h. cc))

linked-spares : (target rd pc : ℕ) → Spares (linked target rd pc)
linked-spares target rd pc = if_spares (target % 4 == 0) (Set rd target (after pc)) (Trap FetchMisaligned) tt fetch-spares

branched-spares : (taken : Bool) (target pc : ℕ) → Spares (branched taken target pc)
branched-spares true target pc = if_spares (target % 4 == 0) (Next target) (Trap FetchMisaligned) tt fetch-spares
branched-spares false target pc = tt

effect_of-spares : (i : Instr) (pc : ℕ) (x : List ℕ) → Spares (effect_of i pc x)
unfolding effect_of
effect_of-spares (Lui rd imm) pc x = tt
effect_of-spares (Auipc rd imm) pc x = tt
effect_of-spares (Jal rd imm) pc x = linked-spares (low64 (pc + imm)) rd pc
effect_of-spares (Jalr rd rs1 imm) pc x = linked-spares (even (low64 (reg_at x rs1 + imm))) rd pc
effect_of-spares (Branch cond rs1 rs2 imm) pc x = branched-spares (holds cond (reg_at x rs1) (reg_at x rs2)) (low64 (pc + imm)) pc
effect_of-spares (Load width extend rd rs1 imm) pc x = tt
effect_of-spares (Store width rs1 rs2 imm) pc x = tt
effect_of-spares (OpImm op rd rs1 imm) pc x = tt
effect_of-spares (Op op rd rs1 rs2) pc x = tt
effect_of-spares Fence pc x = tt
effect_of-spares FenceI pc x = tt
effect_of-spares Ecall pc x = tt
effect_of-spares Ebreak pc x = ((λ h. cc), (λ h. cc))
effect_of-spares (LoadReserved width rd rs1) pc x = tt
effect_of-spares (StoreConditional width rd rs1 rs2) pc x = tt
effect_of-spares (AtomicOp op width rd rs1 rs2) pc x = tt

word-spares : (o : Option Instr) (pc : ℕ) (x : List ℕ) → Spares (option_map_or (λ i. effect_of i pc x) o (Trap Illegal))
word-spares None pc x = ((λ h. cc), (λ h. cc))
word-spares (Some i) pc x = effect_of-spares i pc x

-- with one hart an atomic instruction is illegal
alone-spares : (o : Option OtherHart) (e : Effect) → o ≡ None → Spares (if_two o e)
alone-spares None e alone = ((λ h. cc), (λ h. cc))
alone-spares (Some o) e alone = cc alone

within-spares : (base size : ℕ) (o : Option OtherHart) (e : Effect) → (IsAtomic e → o ≡ None) → Spares e → Spares (within base size o e)
unfolding within
within-spares base size o (Next pc) alone h = tt
within-spares base size o (Set rd pc v) alone h = tt
within-spares base size o (Read rd width extend pc at) alone h =
    if_spares (is_inside base size at (size_of width)) (Read rd width extend pc at) (Trap LoadAccess) tt ((λ h. cc), (λ h. cc))
within-spares base size o (Write width pc at v) alone h =
    if_spares (is_inside base size at (size_of width)) (Write width pc at v) (Trap StoreAccess) tt ((λ h. cc), (λ h. cc))
within-spares base size o (Reserve rd width pc at) alone h =
    alone-spares o (aligned base size width at LoadMisaligned LoadAccess (Reserve rd width pc at)) (alone tt)
within-spares base size o (Conditional rd width pc at v) alone h =
    let e : Effect = if is_reserved (front_of o) width at then Conditional rd width pc at v else Fail rd pc in
    alone-spares o (aligned base size width at StoreMisaligned StoreAccess e) (alone tt)
within-spares base size o (Fail rd pc) alone h = tt
within-spares base size o (Modify op rd width pc at v) alone h =
    alone-spares o (aligned base size width at StoreMisaligned StoreAccess (Modify op rd width pc at v)) (alone tt)
within-spares base size o Environment alone h = tt
within-spares base size o (Trap cause) alone h = h

fault-spares : (a b : Bool) (e : Effect) → Spares e
    → Spares (fetched (if a then (if b then None else Some FetchAccess) else Some FetchMisaligned) e)
fault-spares true true e h = h
fault-spares true false e h = ((λ h. cc), (λ h. cc))
fault-spares false b e h = fetch-spares

-- the instruction at the program counter is no atomic one, or has no other hart beside it
abbrev pub IsServed : ℕ → State → Type 0
IsServed base s = IsAtomic (word_effect (word_at base s) s.pc s.regs) → s.other ≡ None

effect_at-spares : (base : ℕ) (s : State) → IsServed base s → Spares (effect_at base s)
unfolding effect_at fetch_fault
effect_at-spares base s served =
    let size = length s.memory in
    fault-spares (s.pc % 4 == 0) (is_inside base size s.pc 4) (within base size s.other (word_effect (word_at base s) s.pc s.regs))
    (within-spares base size s.other (word_effect (word_at base s) s.pc s.regs) served (word-spares (instr_of (word_at base s)) s.pc s.regs))

-- ---- the status after an effect

served-spares : (c : CpuState) (k : Call) → IsNotMisaligned c.status → IsNotMisaligned (served c k).status
unfolding served
served-spares c (Answer v) h = h
served-spares c (Exit v) h = ((λ h. cc), (λ h. cc))
served-spares c (Break at) h = h
served-spares c (Take at len) h = h
served-spares c (Give at len) h = h

finished-spares : (c : CpuState) (e : Effect) (n : ℕ) (k : CallState) → IsNotMisaligned c.status → Spares e
    → IsNotMisaligned (finished c e n k).status
unfolding finished
finished-spares c (Next pc) n k h p = h
finished-spares c (Set rd pc v) n k h p = h
finished-spares c (Read rd width extend pc at) n k h p = h
finished-spares c (Write width pc at v) n k h p = h
finished-spares c (Reserve rd width pc at) n k h p = h
finished-spares c (Conditional rd width pc at v) n k h p = h
finished-spares c (Fail rd pc) n k h p = h
finished-spares c (Modify op rd width pc at v) n k h p = h
finished-spares c Environment n k h p = served-spares c (call_of c.regs k) h
finished-spares c (Trap cause) n k h p = p

running-spares : (s : Status) → is_running s ≡ true → IsNotMisaligned s
running-spares Running h = ((λ h. cc), (λ h. cc))
running-spares (Exited v) h = cc
running-spares (Trapped v) h = cc

advanced-spares : (g : Setting) (s : State) → IsServed g.base s → is_running s.status ≡ true → IsNotMisaligned (advanced g s).status
unfolding advanced performed
advanced-spares g s served h =
    let e = effect_at g.base s in
    finished-spares (cpu_of s) e (read_by g.base s.memory e) (call_state_of g s) (running-spares s.status h) (effect_at-spares g.base s served)

-- a step of a state that runs
step-spares : (g : Setting) (s : State) → IsServed g.base s → is_running s.status ≡ true → IsNotMisaligned (step g s).status
step-spares g s served h = rw (step-running g s h) (advanced-spares g s served h)

pub step-alone_spares : MisalignedIsServed
step-alone_spares g s alone h = step-spares g s (λ _. alone) h

pub step-plain_spares : AccessesAreServed
step-plain_spares g s plain h = step-spares g s (λ atomic. absurd (plain atomic)) h
