-- Part of the claim.
-- The instructions of RV64I 2.1, M 2.0, A 2.1 and Zifencei 2.0, in the order of the RISC-V unprivileged ISA manual's
-- listings.
use Rattle.std.specs.Prelude.{ℕ, suc, Bool, true, ◌==◌, ◌&&◌, if◌then◌else◌, List, [], ◌∷◌, Option, Some, None}
use Rattle.thy_isa.specs.declared.instr.Instr.{Instr}
use Rattle.thy_isa.specs.declared.instr.Instr.TheVariants.{Lui, Auipc, Jal, Jalr, Branch, Load, Store, OpImm, Op, Fence, FenceI, Ecall, Ebreak, LoadReserved, StoreConditional, AtomicOp}
use Rattle.thy_isa.specs.declared.instr.Amo.{Amo}
use Rattle.thy_isa.specs.declared.instr.Amo.TheVariants.{Swap, Add as AmoAdd, Xor as AmoXor, And as AmoAnd, Or as AmoOr, Min, Max, Minu, Maxu}
use Rattle.thy_isa.specs.declared.instr.Alu.{Alu}
use Rattle.thy_isa.specs.declared.instr.Alu.TheVariants.{Add, Sub, Sll, Slt, Sltu, Xor, Srl, Sra, Or, And, Mul, Mulh, Mulhsu, Mulhu, Div, Divu, Rem, Remu, Addw, Subw, Sllw, Srlw, Sraw, Mulw, Divw, Divuw, Remw, Remuw}
use Rattle.thy_isa.specs.declared.instr.Cond.{Cond}
use Rattle.thy_isa.specs.declared.instr.Cond.TheVariants.{Equal, NotEqual, Less, GreaterEqual, LessUnsigned, GreaterEqualUnsigned}
use Rattle.thy_isa.specs.declared.instr.Width.{Width}
use Rattle.thy_isa.specs.declared.instr.Width.TheVariants.{Byte, Half, Word, Double}
use Rattle.thy_isa.specs.declared.instr.Extend.{Extend}
use Rattle.thy_isa.specs.declared.instr.Extend.TheVariants.{Sign, Zero}
use Rattle.thy_isa.specs.Words.{opcode_of, rd_of, funct3_of, rs1_of, rs2_of, funct7_of, funct6_of, funct5_of, imm_i, imm_s, imm_b, imm_u, imm_j, shamt_of, shamt_w_of}

-- what a row asks of a word in addition to its opcode. Bits 26 and 25 of an atomic instruction, which order accesses, are
-- ignored; `Lone` asks that bits 24:20 are 0 too
pub data Pattern : Type 0 where
  Any : Pattern
  F3 : (f3 : ℕ) → Pattern
  F37 : (f3 f7 : ℕ) → Pattern
  F36 : (f3 f6 : ℕ) → Pattern
  F35 : (f3 f5 : ℕ) → Pattern
  Lone : (f3 f5 : ℕ) → Pattern
  Whole : (w : ℕ) → Pattern

-- a word has the pattern
abbrev pub has_pattern : Pattern → ℕ → Bool
has_pattern Any w = true
has_pattern (F3 f3) w = funct3_of w == f3
has_pattern (F37 f3 f7) w = (funct3_of w == f3) && (funct7_of w == f7)
has_pattern (F36 f3 f6) w = (funct3_of w == f3) && (funct6_of w == f6)
has_pattern (F35 f3 f5) w = (funct3_of w == f3) && (funct5_of w == f5)
has_pattern (Lone f3 f5) w = ((funct3_of w == f3) && (funct5_of w == f5)) && (rs2_of w == 0)
has_pattern (Whole v) w = w == v

-- an opcode, a pattern, and the instruction of each word that has both
pub record Row : Type 0 where
  pub opcode : ℕ
  pub pattern : Pattern
  pub instr : ℕ → Instr

-- a word has the row
abbrev pub has_row : Row → ℕ → Bool
has_row r w = (opcode_of w == r.opcode) && has_pattern r.pattern w

abbrev pub row : ℕ → Pattern → (ℕ → Instr) → Row
row op p build = record { opcode = op; pattern = p; instr = build }

-- the instruction formats
abbrev pub branch : Cond → ℕ → Instr
branch c w = Branch c (rs1_of w) (rs2_of w) (imm_b w)

abbrev pub load : Width → Extend → ℕ → Instr
load n e w = Load n e (rd_of w) (rs1_of w) (imm_i w)

abbrev pub store : Width → ℕ → Instr
store n w = Store n (rs1_of w) (rs2_of w) (imm_s w)

abbrev pub immediate : Alu → ℕ → Instr
immediate f w = OpImm f (rd_of w) (rs1_of w) (imm_i w)

abbrev pub shift : Alu → ℕ → Instr
shift f w = OpImm f (rd_of w) (rs1_of w) (shamt_of w)

abbrev pub shift_w : Alu → ℕ → Instr
shift_w f w = OpImm f (rd_of w) (rs1_of w) (shamt_w_of w)

abbrev pub register : Alu → ℕ → Instr
register f w = Op f (rd_of w) (rs1_of w) (rs2_of w)

abbrev pub reserve : Width → ℕ → Instr
reserve n w = LoadReserved n (rd_of w) (rs1_of w)

abbrev pub conditional : Width → ℕ → Instr
conditional n w = StoreConditional n (rd_of w) (rs1_of w) (rs2_of w)

abbrev pub atomic : Amo → Width → ℕ → Instr
atomic f n w = AtomicOp f n (rd_of w) (rs1_of w) (rs2_of w)

-- the table
abbrev pub table : List Row
table =
    -- RV64I 2.1: jumps, branches, loads and stores
    row 0b0110111 Any (λ w. Lui (rd_of w) (imm_u w))
    ∷ row 0b0010111 Any (λ w. Auipc (rd_of w) (imm_u w))
    ∷ row 0b1101111 Any (λ w. Jal (rd_of w) (imm_j w))
    ∷ row 0b1100111 (F3 0b000) (λ w. Jalr (rd_of w) (rs1_of w) (imm_i w))
    ∷ row 0b1100011 (F3 0b000) (branch Equal)
    ∷ row 0b1100011 (F3 0b001) (branch NotEqual)
    ∷ row 0b1100011 (F3 0b100) (branch Less)
    ∷ row 0b1100011 (F3 0b101) (branch GreaterEqual)
    ∷ row 0b1100011 (F3 0b110) (branch LessUnsigned)
    ∷ row 0b1100011 (F3 0b111) (branch GreaterEqualUnsigned)
    ∷ row 0b0000011 (F3 0b000) (load Byte Sign)
    ∷ row 0b0000011 (F3 0b001) (load Half Sign)
    ∷ row 0b0000011 (F3 0b010) (load Word Sign)
    ∷ row 0b0000011 (F3 0b011) (load Double Sign)
    ∷ row 0b0000011 (F3 0b100) (load Byte Zero)
    ∷ row 0b0000011 (F3 0b101) (load Half Zero)
    ∷ row 0b0000011 (F3 0b110) (load Word Zero)
    ∷ row 0b0100011 (F3 0b000) (store Byte)
    ∷ row 0b0100011 (F3 0b001) (store Half)
    ∷ row 0b0100011 (F3 0b010) (store Word)
    ∷ row 0b0100011 (F3 0b011) (store Double)
    -- RV64I 2.1: operations on the whole registers
    ∷ row 0b0010011 (F3 0b000) (immediate Add)
    ∷ row 0b0010011 (F3 0b010) (immediate Slt)
    ∷ row 0b0010011 (F3 0b011) (immediate Sltu)
    ∷ row 0b0010011 (F3 0b100) (immediate Xor)
    ∷ row 0b0010011 (F3 0b110) (immediate Or)
    ∷ row 0b0010011 (F3 0b111) (immediate And)
    ∷ row 0b0010011 (F36 0b001 0b000000) (shift Sll)
    ∷ row 0b0010011 (F36 0b101 0b000000) (shift Srl)
    ∷ row 0b0010011 (F36 0b101 0b010000) (shift Sra)
    ∷ row 0b0110011 (F37 0b000 0b0000000) (register Add)
    ∷ row 0b0110011 (F37 0b000 0b0100000) (register Sub)
    ∷ row 0b0110011 (F37 0b001 0b0000000) (register Sll)
    ∷ row 0b0110011 (F37 0b010 0b0000000) (register Slt)
    ∷ row 0b0110011 (F37 0b011 0b0000000) (register Sltu)
    ∷ row 0b0110011 (F37 0b100 0b0000000) (register Xor)
    ∷ row 0b0110011 (F37 0b101 0b0000000) (register Srl)
    ∷ row 0b0110011 (F37 0b101 0b0100000) (register Sra)
    ∷ row 0b0110011 (F37 0b110 0b0000000) (register Or)
    ∷ row 0b0110011 (F37 0b111 0b0000000) (register And)
    -- RV64I 2.1: operations on the low 32 bits
    ∷ row 0b0011011 (F3 0b000) (immediate Addw)
    ∷ row 0b0011011 (F37 0b001 0b0000000) (shift_w Sllw)
    ∷ row 0b0011011 (F37 0b101 0b0000000) (shift_w Srlw)
    ∷ row 0b0011011 (F37 0b101 0b0100000) (shift_w Sraw)
    ∷ row 0b0111011 (F37 0b000 0b0000000) (register Addw)
    ∷ row 0b0111011 (F37 0b000 0b0100000) (register Subw)
    ∷ row 0b0111011 (F37 0b001 0b0000000) (register Sllw)
    ∷ row 0b0111011 (F37 0b101 0b0000000) (register Srlw)
    ∷ row 0b0111011 (F37 0b101 0b0100000) (register Sraw)
    -- RV64I 2.1 and Zifencei 2.0: fences, whose other fields are ignored, and calls of the environment
    ∷ row 0b0001111 (F3 0b000) (λ w. Fence)
    ∷ row 0b0001111 (F3 0b001) (λ w. FenceI)
    ∷ row 0b1110011 (Whole 0x00000073) (λ w. Ecall)
    ∷ row 0b1110011 (Whole 0x00100073) (λ w. Ebreak)
    -- M 2.0
    ∷ row 0b0110011 (F37 0b000 0b0000001) (register Mul)
    ∷ row 0b0110011 (F37 0b001 0b0000001) (register Mulh)
    ∷ row 0b0110011 (F37 0b010 0b0000001) (register Mulhsu)
    ∷ row 0b0110011 (F37 0b011 0b0000001) (register Mulhu)
    ∷ row 0b0110011 (F37 0b100 0b0000001) (register Div)
    ∷ row 0b0110011 (F37 0b101 0b0000001) (register Divu)
    ∷ row 0b0110011 (F37 0b110 0b0000001) (register Rem)
    ∷ row 0b0110011 (F37 0b111 0b0000001) (register Remu)
    ∷ row 0b0111011 (F37 0b000 0b0000001) (register Mulw)
    ∷ row 0b0111011 (F37 0b100 0b0000001) (register Divw)
    ∷ row 0b0111011 (F37 0b101 0b0000001) (register Divuw)
    ∷ row 0b0111011 (F37 0b110 0b0000001) (register Remw)
    ∷ row 0b0111011 (F37 0b111 0b0000001) (register Remuw)
    -- A 2.1
    ∷ row 0b0101111 (Lone 0b010 0b00010) (reserve Word)
    ∷ row 0b0101111 (F35 0b010 0b00011) (conditional Word)
    ∷ row 0b0101111 (F35 0b010 0b00001) (atomic Swap Word)
    ∷ row 0b0101111 (F35 0b010 0b00000) (atomic AmoAdd Word)
    ∷ row 0b0101111 (F35 0b010 0b00100) (atomic AmoXor Word)
    ∷ row 0b0101111 (F35 0b010 0b01100) (atomic AmoAnd Word)
    ∷ row 0b0101111 (F35 0b010 0b01000) (atomic AmoOr Word)
    ∷ row 0b0101111 (F35 0b010 0b10000) (atomic Min Word)
    ∷ row 0b0101111 (F35 0b010 0b10100) (atomic Max Word)
    ∷ row 0b0101111 (F35 0b010 0b11000) (atomic Minu Word)
    ∷ row 0b0101111 (F35 0b010 0b11100) (atomic Maxu Word)
    ∷ row 0b0101111 (Lone 0b011 0b00010) (reserve Double)
    ∷ row 0b0101111 (F35 0b011 0b00011) (conditional Double)
    ∷ row 0b0101111 (F35 0b011 0b00001) (atomic Swap Double)
    ∷ row 0b0101111 (F35 0b011 0b00000) (atomic AmoAdd Double)
    ∷ row 0b0101111 (F35 0b011 0b00100) (atomic AmoXor Double)
    ∷ row 0b0101111 (F35 0b011 0b01100) (atomic AmoAnd Double)
    ∷ row 0b0101111 (F35 0b011 0b01000) (atomic AmoOr Double)
    ∷ row 0b0101111 (F35 0b011 0b10000) (atomic Min Double)
    ∷ row 0b0101111 (F35 0b011 0b10100) (atomic Max Double)
    ∷ row 0b0101111 (F35 0b011 0b11000) (atomic Minu Double)
    ∷ row 0b0101111 (F35 0b011 0b11100) (atomic Maxu Double) ∷ []

-- the instruction of the first of these rows that a word has
abbrev pub first_row : List Row → ℕ → Option Instr
first_row [] w = None
first_row (r ∷ rows) w = if has_row r w then Some (r.instr w) else first_row rows w

-- what a word means: the instruction of its row, or none
unfoldable pub instr_of : ℕ → Option Instr
instr_of w = first_row table w

-- how many of these rows a word has
abbrev pub count_rows : List Row → ℕ → ℕ
count_rows [] w = 0
count_rows (r ∷ rows) w = if has_row r w then suc (count_rows rows w) else count_rows rows w

-- how many rows of the table a word has
unfoldable pub rows_of : ℕ → ℕ
rows_of w = count_rows table w
