-- Part of the claim.
-- Instructions as words of 32 bits, field by field, as the RISC-V unprivileged ISA manual lays them out.
use Rattle.std.specs.Prelude.{ℕ, ◌+◌, ◌*◌, ◌^◌}
use Rattle.thy_isa.specs.declared.instr.Alu.TheVariants.{Add}
use Rattle.thy_isa.specs.declared.instr.Cond.TheVariants.{Equal}
use Rattle.thy_isa.specs.declared.instr.Instr.{Instr}
use Rattle.thy_isa.specs.declared.instr.Instr.TheVariants.{Lui, Jal, Branch, Store, OpImm, Ecall}
use Rattle.thy_isa.specs.declared.instr.Width.TheVariants.{Double}
use Rattle.thy_isa.specs.Words.{bits_of}

-- LUI: bits 31:12 of the immediate, rd, the opcode
abbrev pub lui_word : ℕ → ℕ → ℕ
lui_word rd imm = bits_of imm 12 20 * 2 ^ 12 + rd * 2 ^ 7 + 0b0110111

-- JAL: bits 20, 10:1, 11 and 19:12 of the immediate, rd, the opcode
abbrev pub jal_word : ℕ → ℕ → ℕ
jal_word rd imm =
    bits_of imm 20 1 * 2 ^ 31 + bits_of imm 1 10 * 2 ^ 21 + bits_of imm 11 1 * 2 ^ 20 + bits_of imm 12 8 * 2 ^ 12
    + rd * 2 ^ 7 + 0b1101111

-- BEQ: bits 12 and 10:5 of the immediate, rs2, rs1, bits 4:1 and 11 of the immediate, the opcode
abbrev pub beq_word : ℕ → ℕ → ℕ → ℕ
beq_word rs1 rs2 imm =
    bits_of imm 12 1 * 2 ^ 31 + bits_of imm 5 6 * 2 ^ 25 + rs2 * 2 ^ 20 + rs1 * 2 ^ 15 + bits_of imm 1 4 * 2 ^ 8
    + bits_of imm 11 1 * 2 ^ 7 + 0b1100011

-- SD: bits 11:5 of the immediate, rs2, rs1, funct3 3, bits 4:0 of the immediate, the opcode
abbrev pub sd_word : ℕ → ℕ → ℕ → ℕ
sd_word rs1 rs2 imm =
    bits_of imm 5 7 * 2 ^ 25 + rs2 * 2 ^ 20 + rs1 * 2 ^ 15 + 3 * 2 ^ 12 + bits_of imm 0 5 * 2 ^ 7 + 0b0100011

-- ADDI: bits 11:0 of the immediate, rs1, rd, the opcode
abbrev pub addi_word : ℕ → ℕ → ℕ → ℕ
addi_word rd rs1 imm = bits_of imm 0 12 * 2 ^ 20 + rs1 * 2 ^ 15 + rd * 2 ^ 7 + 0b0010011

-- the word of an instruction of these kinds, or of an ECALL; of any other 0, which means none
abbrev pub encoded : Instr → ℕ
encoded (Lui rd imm) = lui_word rd imm
encoded (Jal rd imm) = jal_word rd imm
encoded (Branch Equal rs1 rs2 imm) = beq_word rs1 rs2 imm
encoded (Store Double rs1 rs2 imm) = sd_word rs1 rs2 imm
encoded (OpImm Add rd rs1 imm) = addi_word rd rs1 imm
encoded Ecall = 0x00000073
encoded _ = 0
