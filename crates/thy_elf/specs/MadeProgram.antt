-- Part of the claim.
-- The made program: its instructions, whose stores are drawn.
use Rattle.std.specs.Prelude.{ℕ, zero, suc, ◌+◌, ◌-◌, ◌*◌, ◌/◌, ◌%◌, ◌^◌, ◌==◌, if◌then◌else◌, List, [], ◌∷◌, ◌++◌, map}
use Rattle.std.specs.List.{flat_map}
use Rattle.thy_block.specs.Lcg.{lcg_next, lcg_draw}
use Rattle.thy_isa.specs.declared.instr.Alu.TheVariants.{Add}
use Rattle.thy_isa.specs.declared.instr.Cond.TheVariants.{Equal}
use Rattle.thy_isa.specs.declared.instr.Instr.{Instr}
use Rattle.thy_isa.specs.declared.instr.Instr.TheVariants.{Lui, Jal, Branch, Store, OpImm, Ecall}
use Rattle.thy_isa.specs.declared.instr.Width.TheVariants.{Double}
use Rattle.thy_elf.specs.Encode.{encoded}

-- a number below 0 as an immediate holds it, in two's complement
abbrev pub minus : ℕ → ℕ
minus k = 2 ^ 64 - k

-- `addi xRD, xRS1, IMM`
abbrev pub addi : ℕ → ℕ → ℕ → Instr
addi rd rs1 imm = OpImm Add rd rs1 imm

-- the first draws of a generator in this state, this many
unfoldable pub draws : ℕ → ℕ → List ℕ
draws zero state = []
draws (suc k) state = lcg_draw (lcg_next state) ∷ draws k (lcg_next state)

-- the page that the store of a draw writes: if the draw is odd, one of 16, which are stored to often; else one of 128
abbrev pub page_of : ℕ → ℕ
page_of r = if r % 2 == 1 then 64 + r / 2 % 16 else 80 + r / 2 % 128

-- the byte of the page at which the store begins: the address of one of the 256 words in its first half
abbrev pub offset_of : ℕ → ℕ
offset_of r = 8 * (r / 256 % 256)

-- the instructions of a draw: x5 is stored, and then incremented
abbrev pub store_of : ℕ → List Instr
store_of r = Lui 6 (page_of r * 2 ^ 12) ∷ Store Double 6 5 (offset_of r) ∷ addi 5 5 1 ∷ []

-- the instructions before the stores: x7 gets the number of rounds
abbrev pub opening : List Instr
opening = addi 7 0 8 ∷ []

-- the instructions after the stores: back to the first store while a round is left, and then an exit with the count in x5
abbrev pub closing : List Instr
closing =
    addi 7 7 (minus 1) ∷ Branch Equal 7 0 8 ∷ Jal 0 (minus 24008) ∷ addi 10 5 0 ∷ addi 17 0 93 ∷ Ecall ∷ []

-- the program of number n
unfoldable pub made_program : ℕ → List Instr
made_program n = opening ++ (flat_map store_of (draws 2000 n) ++ closing)

-- the words of the program of number n
abbrev pub made_words : ℕ → List ℕ
made_words n = map encoded (made_program n)
