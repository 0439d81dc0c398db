-- Part of the claim.
-- The fields of a word of 32 bits and its immediates, as the RISC-V unprivileged ISA manual lays them out.
use Rattle.std.specs.Prelude.{ℕ, ◌+◌, ◌-◌, ◌*◌, ◌/◌, ◌%◌, ◌^◌, nat_lt, if◌then◌else◌}

-- the `count` bits of w from bit `low` upward
abbrev pub bits_of : ℕ → ℕ → ℕ → ℕ
bits_of w low count = w / 2 ^ low % 2 ^ count

-- bits 6:0
abbrev pub opcode_of : ℕ → ℕ
opcode_of w = w % 2 ^ 7

-- bits 11:7
abbrev pub rd_of : ℕ → ℕ
rd_of w = bits_of w 7 5

-- bits 14:12
abbrev pub funct3_of : ℕ → ℕ
funct3_of w = bits_of w 12 3

-- bits 19:15
abbrev pub rs1_of : ℕ → ℕ
rs1_of w = bits_of w 15 5

-- bits 24:20
abbrev pub rs2_of : ℕ → ℕ
rs2_of w = bits_of w 20 5

-- bits 31:25
abbrev pub funct7_of : ℕ → ℕ
funct7_of w = bits_of w 25 7

-- bits 31:26, which distinguish the shifts by six bits
abbrev pub funct6_of : ℕ → ℕ
funct6_of w = bits_of w 26 6

-- bits 31:27, which distinguish the atomic instructions
abbrev pub funct5_of : ℕ → ℕ
funct5_of w = bits_of w 27 5

-- a number of n bits, extended to 64 bits by its highest bit
abbrev pub sign_extended : ℕ → ℕ → ℕ
sign_extended n v = if nat_lt v (2 ^ (n - 1)) then v else v + (2 ^ 64 - 2 ^ n)

-- bits 31:20
abbrev pub imm_i : ℕ → ℕ
imm_i w = sign_extended 12 (bits_of w 20 12)

-- bits 31:25, 11:7
abbrev pub imm_s : ℕ → ℕ
imm_s w = sign_extended 12 (bits_of w 25 7 * 2 ^ 5 + bits_of w 7 5)

-- bits 31, 7, 30:25, 11:8 and a zero
abbrev pub imm_b : ℕ → ℕ
imm_b w = sign_extended 13 (bits_of w 31 1 * 2 ^ 12 + bits_of w 7 1 * 2 ^ 11 + bits_of w 25 6 * 2 ^ 5 + bits_of w 8 4 * 2)

-- bits 31:12 and twelve zeros
abbrev pub imm_u : ℕ → ℕ
imm_u w = sign_extended 32 (bits_of w 12 20 * 2 ^ 12)

-- bits 31, 19:12, 20, 30:21 and a zero
abbrev pub imm_j : ℕ → ℕ
imm_j w = sign_extended 21 (bits_of w 31 1 * 2 ^ 20 + bits_of w 12 8 * 2 ^ 12 + bits_of w 20 1 * 2 ^ 11 + bits_of w 21 10 * 2)

-- how many places a shift by an immediate moves: six bits, and five for the W forms
abbrev pub shamt_of : ℕ → ℕ
shamt_of w = bits_of w 20 6

abbrev pub shamt_w_of : ℕ → ℕ
shamt_w_of w = bits_of w 20 5
