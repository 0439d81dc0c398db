-- Part of the claim.
-- What the operations compute. A number of 64 bits in two's complement is a number below 2 ^ 64; it is
-- converted to the signed number that it represents only if an operation is one of signed numbers.
use Rattle.std.specs.Prelude.{ℕ, ℤ, ◌+◌, ◌-◌, ◌*◌, ◌/◌, ◌%◌, ◌^◌, ◌==◌, nat_lt, if◌then◌else◌, pos, ◌*ℤ◌, bit_and, bit_or, bit_xor, int_lt, int_div, int_rem}
use Rattle.std.specs.Int.{w32, w64, w128, cast_signed, cast_unsigned, int_shr}
use Rattle.thy_isa.specs.declared.instr.Alu.{Alu}
use Rattle.thy_isa.specs.declared.instr.Alu.TheVariants.{Add, Sub, Sll, Slt, Sltu, Xor, Srl, Sra, Or, And, Mul, Mulh, Mulhsu, Mulhu, Div, Divu, Rem, Remu, Addw, Subw, Sllw, Srlw, Sraw, Mulw, Divw, Divuw, Remw, Remuw}
use Rattle.thy_isa.specs.Words.{sign_extended}

-- the low 64 bits
abbrev pub low64 : ℕ → ℕ
low64 v = v % 2 ^ 64

-- the low 32 bits
abbrev pub low32 : ℕ → ℕ
low32 v = v % 2 ^ 32

-- the low 32 bits, extended to 64 by their sign
abbrev pub sx32 : ℕ → ℕ
sx32 v = sign_extended 32 (low32 v)

-- all bits set, the quotient of a division by zero
abbrev pub all_ones : ℕ
all_ones = 2 ^ 64 - 1

-- the signed number that a number of 64 bits represents, and the signed number in its low 32 bits
abbrev pub signed : ℕ → ℤ
signed a = cast_signed w64 a

abbrev pub signed32 : ℕ → ℤ
signed32 a = cast_signed w32 (low32 a)

-- What an operation gives for a and b. Mulh, Mulhsu and Mulhu give bits 127 to 64 of the exact product, each operand signed
-- or not. Quotients round toward zero, and a remainder has the dividend's sign.
unfoldable pub alu_of : Alu → ℕ → ℕ → ℕ
alu_of Add a b = low64 (a + b)
alu_of Sub a b = low64 (a + (2 ^ 64 - b))
alu_of Sll a b = low64 (a * 2 ^ (b % 64))
alu_of Slt a b = if int_lt (signed a) (signed b) then 1 else 0
alu_of Sltu a b = if nat_lt a b then 1 else 0
alu_of Xor a b = bit_xor a b
alu_of Srl a b = a / 2 ^ (b % 64)
alu_of Sra a b = cast_unsigned w64 (int_shr (signed a) (b % 64))
alu_of Or a b = bit_or a b
alu_of And a b = bit_and a b
alu_of Mul a b = low64 (a * b)
alu_of Mulh a b = cast_unsigned w128 (signed a *ℤ signed b) / 2 ^ 64
alu_of Mulhsu a b = cast_unsigned w128 (signed a *ℤ pos b) / 2 ^ 64
alu_of Mulhu a b = a * b / 2 ^ 64
alu_of Div a b = if b == 0 then all_ones else cast_unsigned w64 (int_div (signed a) (signed b))
alu_of Divu a b = if b == 0 then all_ones else a / b
alu_of Rem a b = if b == 0 then a else cast_unsigned w64 (int_rem (signed a) (signed b))
alu_of Remu a b = if b == 0 then a else a % b
alu_of Addw a b = sx32 (a + b)
alu_of Subw a b = sx32 (a + (2 ^ 64 - b))
alu_of Sllw a b = sx32 (a * 2 ^ (b % 32))
alu_of Srlw a b = sx32 (low32 a / 2 ^ (b % 32))
alu_of Sraw a b = cast_unsigned w64 (int_shr (signed32 a) (b % 32))
alu_of Mulw a b = sx32 (a * b)
alu_of Divw a b =
    if low32 b == 0 then all_ones else sx32 (cast_unsigned w32 (int_div (signed32 a) (signed32 b)))
alu_of Divuw a b = if low32 b == 0 then all_ones else sx32 (low32 a / low32 b)
alu_of Remw a b =
    if low32 b == 0 then sx32 (low32 a) else sx32 (cast_unsigned w32 (int_rem (signed32 a) (signed32 b)))
alu_of Remuw a b = if low32 b == 0 then sx32 (low32 a) else sx32 (low32 a % low32 b)
