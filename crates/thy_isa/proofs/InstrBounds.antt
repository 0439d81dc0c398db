-- The immediates of every word, and what every instruction gives, are numbers of 64 bits.
use Rattle.std.proofs.Common.{ℕ, ◌+◌, ◌*◌, ◌%◌, ◌^◌, ◌==◌, Bool, true, false, if◌then◌else◌, nat_lt, List, [], ◌∷◌, Option, Some, None, arith, lit<, get_or}
use Rattle.std.specs.List.{All}
use Rattle.std.specs.Option.{option_map_or}
use Rattle.std.specs.Prelude.{IfSome}
use Rattle.thy_isa.specs.declared.instr.Instr.{Instr}
use Rattle.thy_isa.specs.declared.instr.Instr.TheVariants.{Lui, Auipc, Jal, Jalr, Branch, Load, Store, OpImm, Op, Fence, FenceI, Ecall, Ebreak, LoadReserved, StoreConditional, AtomicOp}
use Rattle.thy_isa.specs.declared.state.Effect.{Effect}
use Rattle.thy_isa.specs.declared.state.Effect.TheVariants.{Next, Set, Read, Write, Reserve, Conditional, Fail, Modify, Environment, Trap}
use Rattle.thy_isa.specs.declared.state.Cause.TheVariants.{FetchMisaligned, Illegal}
use Rattle.thy_isa.specs.Words.{bits_of, imm_i, imm_u, shamt_of, shamt_w_of}
use Rattle.thy_isa.specs.Table.{Row, has_row, table, first_row, instr_of}
use Rattle.thy_isa.specs.Arith.{low64}
use Rattle.thy_isa.specs.Regs.{reg_at}
use Rattle.thy_isa.specs.Effects.{after, even, linked, branched, holds, effect_of, word_effect}
use Rattle.thy_isa.specs.Storable.{IsNumber}
use Rattle.thy_isa.proofs.NumberBounds.{if_number, low64_number, alu_of-number}
use Rattle.thy_isa.proofs.MemoryBounds.{anywhere}

-- the immediates that go into a register or an operation as they are, are numbers of 64 bits
abbrev pub HasNumbers : Instr → Type 0
HasNumbers (Lui rd imm) = IsNumber imm
HasNumbers (OpImm op rd rs1 imm) = IsNumber imm
HasNumbers _ = Unit {0}

imm_i-number : (w : ℕ) → IsNumber (imm_i w)
imm_i-number w = if_number (nat_lt (bits_of w 20 12) 2048) _ _ (omega arith) (omega arith)

imm_u-number : (w : ℕ) → IsNumber (imm_u w)
imm_u-number w = if_number (nat_lt (bits_of w 12 20 * 2 ^ 12) 2147483648) _ _ (omega arith) (omega arith)

shamt-number : (w : ℕ) → IsNumber (shamt_of w)
shamt-number w = omega arith

shamt_w-number : (w : ℕ) → IsNumber (shamt_w_of w)
shamt_w-number w = omega arith

-- each row's instruction has such immediates, whatever the word
abbrev EachRow : List Row → Type 0
EachRow [] = Unit {0}
EachRow (r ∷ rows) = ((w : ℕ) → HasNumbers (r.instr w)) × EachRow rows

table-numbers : EachRow table
table-numbers =
    (imm_u-number, ((λ w. tt), ((λ w. tt), ((λ w. tt), ((λ w. tt), ((λ w. tt), ((λ w. tt), ((λ w. tt), ((λ w. tt), ((λ w. tt), ((λ w. tt), ((λ w. tt), ((λ w. tt), ((λ w. tt), ((λ w. tt), ((λ w. tt), ((λ w. tt), ((λ w. tt), ((λ w. tt), ((λ w. tt), ((λ w. tt), (imm_i-number, (imm_i-number, (imm_i-number, (imm_i-number, (imm_i-number, (imm_i-number, (shamt-number, (shamt-number, (shamt-number, ((λ w. tt), ((λ w. tt), ((λ w. tt), ((λ w. tt), ((λ w. tt), ((λ w. tt), ((λ w. tt), ((λ w. tt), ((λ w. tt), ((λ w. tt), (imm_i-number, (shamt_w-number, (shamt_w-number, (shamt_w-number, ((λ w. tt), ((λ w. tt), ((λ w. tt), ((λ w. tt), ((λ w. tt), ((λ w. tt), ((λ w. tt), ((λ w. tt), ((λ w. tt), ((λ w. tt), ((λ w. tt), ((λ w. tt), ((λ w. tt), ((λ w. tt), ((λ w. tt), ((λ w. tt), ((λ w. tt), ((λ w. tt), ((λ w. tt), ((λ w. tt), ((λ w. tt), ((λ w. tt), ((λ w. tt), ((λ w. tt), ((λ w. tt), ((λ w. tt), ((λ w. tt), ((λ w. tt), ((λ w. tt), ((λ w. tt), ((λ w. tt), ((λ w. tt), ((λ w. tt), ((λ w. tt), ((λ w. tt), ((λ w. tt), ((λ w. tt), ((λ w. tt), ((λ w. tt), ((λ w. tt), ((λ w. tt), ((λ w. tt), ((λ w. tt), ((λ w. tt), tt))))))))))))))))))))))))))))))))))))))))))))))))))))))))))))))))))))))))))))))))))))))))

if_some : (b : Bool) (i : Instr) (o : Option Instr) → HasNumbers i → IfSome o HasNumbers → IfSome (if b then Some i else o) HasNumbers
if_some true i o p q = p
if_some false i o p q = q

first_row-numbers : (rows : List Row) (w : ℕ) → EachRow rows → IfSome (first_row rows w) HasNumbers
first_row-numbers [] w h = tt
first_row-numbers (r ∷ rows) w h = if_some (has_row r w) (r.instr w) (first_row rows w) (h.0 w) (first_row-numbers rows w h.1)

pub instr_of-numbers : (w : ℕ) → IfSome (instr_of w) HasNumbers
unfolding instr_of
instr_of-numbers w = first_row-numbers table w table-numbers

-- ---- effects

-- the next program counter, the number written to a register and the address that is reserved are numbers of 64 bits
abbrev pub EffectNumbers : Effect → Type 0
EffectNumbers (Next pc) = IsNumber pc
EffectNumbers (Set rd pc v) = IsNumber pc × IsNumber v
EffectNumbers (Read rd width extend pc at) = IsNumber pc
EffectNumbers (Write width pc at v) = IsNumber pc
EffectNumbers (Reserve rd width pc at) = IsNumber pc × IsNumber at
EffectNumbers (Conditional rd width pc at v) = IsNumber pc
EffectNumbers (Fail rd pc) = IsNumber pc
EffectNumbers (Modify op rd width pc at v) = IsNumber pc
EffectNumbers Environment = Unit {0}
EffectNumbers (Trap c) = Unit {0}

pub if_effect : (b : Bool) (e f : Effect) → EffectNumbers e → EffectNumbers f → EffectNumbers (if b then e else f)
if_effect true e f p q = p
if_effect false e f p q = q

reg_at-number : (x : List ℕ) (r : ℕ) → All IsNumber x → IsNumber (reg_at x r)
reg_at-number x r h = if_number (r == 0) 0 (get_or x r 0) (lit< tt) (anywhere IsNumber (lit< tt) x h r)

linked-numbers : (target rd pc : ℕ) → IsNumber target → EffectNumbers (linked target rd pc)
linked-numbers target rd pc h = if_effect (target % 4 == 0) (Set rd target (after pc)) (Trap FetchMisaligned) (h, low64_number (pc + 4)) tt

branched-numbers : (taken : Bool) (target pc : ℕ) → IsNumber target → EffectNumbers (branched taken target pc)
branched-numbers true target pc h = if_effect (target % 4 == 0) (Next target) (Trap FetchMisaligned) h tt
branched-numbers false target pc h = low64_number (pc + 4)

pub effect_of-numbers : (i : Instr) (pc : ℕ) (x : List ℕ) → HasNumbers i → All IsNumber x → EffectNumbers (effect_of i pc x)
unfolding effect_of
effect_of-numbers (Lui rd imm) pc x h q = (low64_number (pc + 4), h)
effect_of-numbers (Auipc rd imm) pc x h q = (low64_number (pc + 4), low64_number (pc + imm))
effect_of-numbers (Jal rd imm) pc x h q = linked-numbers (low64 (pc + imm)) rd pc (low64_number (pc + imm))
effect_of-numbers (Jalr rd rs1 imm) pc x h q =
    linked-numbers (even (low64 (reg_at x rs1 + imm))) rd pc (omega (arith, low64_number (reg_at x rs1 + imm)))
effect_of-numbers (Branch cond rs1 rs2 imm) pc x h q =
    branched-numbers (holds cond (reg_at x rs1) (reg_at x rs2)) (low64 (pc + imm)) pc (low64_number (pc + imm))
effect_of-numbers (Load width extend rd rs1 imm) pc x h q = low64_number (pc + 4)
effect_of-numbers (Store width rs1 rs2 imm) pc x h q = low64_number (pc + 4)
effect_of-numbers (OpImm op rd rs1 imm) pc x h q =
    (low64_number (pc + 4), alu_of-number op (reg_at x rs1) imm (reg_at-number x rs1 q) h)
effect_of-numbers (Op op rd rs1 rs2) pc x h q =
    (low64_number (pc + 4), alu_of-number op (reg_at x rs1) (reg_at x rs2) (reg_at-number x rs1 q) (reg_at-number x rs2 q))
effect_of-numbers Fence pc x h q = low64_number (pc + 4)
effect_of-numbers FenceI pc x h q = low64_number (pc + 4)
effect_of-numbers Ecall pc x h q = tt
effect_of-numbers Ebreak pc x h q = tt
effect_of-numbers (LoadReserved width rd rs1) pc x h q = (low64_number (pc + 4), reg_at-number x rs1 q)
effect_of-numbers (StoreConditional width rd rs1 rs2) pc x h q = low64_number (pc + 4)
effect_of-numbers (AtomicOp op width rd rs1 rs2) pc x h q = low64_number (pc + 4)

effect_or_illegal-numbers : (o : Option Instr) (pc : ℕ) (x : List ℕ) → IfSome o HasNumbers → All IsNumber x
    → EffectNumbers (option_map_or (λ i. effect_of i pc x) o (Trap Illegal))
effect_or_illegal-numbers None pc x h q = tt
effect_or_illegal-numbers (Some i) pc x h q = effect_of-numbers i pc x h q

pub word_effect-numbers : (w pc : ℕ) (x : List ℕ) → All IsNumber x → EffectNumbers (word_effect w pc x)
word_effect-numbers w pc x q = effect_or_illegal-numbers (instr_of w) pc x (instr_of-numbers w) q
