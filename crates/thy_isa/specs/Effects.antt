-- Part of the claim.
-- What an instruction does, given the program counter and the registers.
use Rattle.std.specs.Prelude.{ℕ, ◌+◌, ◌-◌, ◌%◌, Bool, not, ◌==◌, nat_lt, int_lt, if◌then◌else◌, List}
use Rattle.std.specs.Option.{option_map_or}
use Rattle.std.specs.Int.{w64, cast_signed}
use Rattle.thy_isa.specs.declared.instr.Instr.{Instr}
use Rattle.thy_isa.specs.declared.instr.Instr.TheVariants.{Lui, Auipc, Jal, Jalr, Branch, Load, Store, OpImm, Op, Fence, FenceI, Ecall, Ebreak, LoadReserved, StoreConditional, AtomicOp}
use Rattle.thy_isa.specs.declared.instr.Cond.{Cond}
use Rattle.thy_isa.specs.declared.instr.Cond.TheVariants.{Equal, NotEqual, Less, GreaterEqual, LessUnsigned, GreaterEqualUnsigned}
use Rattle.thy_isa.specs.declared.instr.Width.{Width}
use Rattle.thy_isa.specs.declared.instr.Width.TheVariants.{Byte, Half, Word, Double}
use Rattle.thy_isa.specs.declared.state.Effect.{Effect}
use Rattle.thy_isa.specs.declared.state.Effect.TheVariants.{Next, Set, Read, Write, Reserve, Conditional, Modify, Environment, Trap}
use Rattle.thy_isa.specs.declared.state.Cause.TheVariants.{FetchMisaligned, Illegal, Breakpoint}
use Rattle.thy_isa.specs.Arith.{low64, alu_of}
use Rattle.thy_isa.specs.Regs.{reg_at}
use Rattle.thy_isa.specs.Table.{instr_of}

-- how many bytes a load or a store moves
abbrev pub size_of : Width → ℕ
size_of Byte = 1
size_of Half = 2
size_of Word = 4
size_of Double = 8

-- the condition of a branch holds for a and b
abbrev pub holds : Cond → ℕ → ℕ → Bool
holds Equal a b = a == b
holds NotEqual a b = not (a == b)
holds Less a b = int_lt (cast_signed w64 a) (cast_signed w64 b)
holds GreaterEqual a b = not (int_lt (cast_signed w64 a) (cast_signed w64 b))
holds LessUnsigned a b = nat_lt a b
holds GreaterEqualUnsigned a b = not (nat_lt a b)

-- the address after the instruction at pc
abbrev pub after : ℕ → ℕ
after pc = low64 (pc + 4)

-- an address with bit 0 cleared
abbrev pub even : ℕ → ℕ
even at = at - at % 2

-- a jump that leaves the address after it in rd: if the target is not a multiple of four it traps, and rd stays
abbrev pub linked : ℕ → ℕ → ℕ → Effect
linked target rd pc = if target % 4 == 0 then Set rd target (after pc) else Trap FetchMisaligned

-- a branch: if it is taken and the target is not a multiple of four it traps
abbrev pub branched : Bool → ℕ → ℕ → Effect
branched taken target pc =
    if taken then (if target % 4 == 0 then Next target else Trap FetchMisaligned) else Next (after pc)

-- an operation on two registers, or on one and an immediate
abbrev pub IsOperation : Instr → Type 0
IsOperation (OpImm op rd rs1 imm) = Unit {0}
IsOperation (Op op rd rs1 rs2) = Unit {0}
IsOperation i = ⊥

-- what an instruction does at pc; a load, a store or an atomic instruction may have any address
unfoldable pub effect_of : Instr → ℕ → List ℕ → Effect
effect_of (Lui rd imm) pc x = Set rd (after pc) imm
effect_of (Auipc rd imm) pc x = Set rd (after pc) (low64 (pc + imm))
effect_of (Jal rd imm) pc x = linked (low64 (pc + imm)) rd pc
effect_of (Jalr rd rs1 imm) pc x = linked (even (low64 (reg_at x rs1 + imm))) rd pc
effect_of (Branch cond rs1 rs2 imm) pc x = branched (holds cond (reg_at x rs1) (reg_at x rs2)) (low64 (pc + imm)) pc
effect_of (Load width extend rd rs1 imm) pc x = Read rd width extend (after pc) (low64 (reg_at x rs1 + imm))
effect_of (Store width rs1 rs2 imm) pc x = Write width (after pc) (low64 (reg_at x rs1 + imm)) (reg_at x rs2)
effect_of (OpImm op rd rs1 imm) pc x = Set rd (after pc) (alu_of op (reg_at x rs1) imm)
effect_of (Op op rd rs1 rs2) pc x = Set rd (after pc) (alu_of op (reg_at x rs1) (reg_at x rs2))
effect_of Fence pc x = Next (after pc)
effect_of FenceI pc x = Next (after pc)
effect_of Ecall pc x = Environment
effect_of Ebreak pc x = Trap Breakpoint
effect_of (LoadReserved width rd rs1) pc x = Reserve rd width (after pc) (reg_at x rs1)
effect_of (StoreConditional width rd rs1 rs2) pc x = Conditional rd width (after pc) (reg_at x rs1) (reg_at x rs2)
effect_of (AtomicOp op width rd rs1 rs2) pc x = Modify op rd width (after pc) (reg_at x rs1) (reg_at x rs2)

-- what a word does: it is illegal if it means no instruction
abbrev pub word_effect : ℕ → ℕ → List ℕ → Effect
word_effect w pc x = option_map_or (λ i. effect_of i pc x) (instr_of w) (Trap Illegal)
