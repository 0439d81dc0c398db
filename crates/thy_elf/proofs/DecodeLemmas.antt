-- The words of a program, read as the instruction table does.
use Rattle.std.proofs.Common.{◌≡◌, ℕ, ◌+◌, ◌-◌, ◌*◌, ◌/◌, ◌%◌, ◌^◌, ◌<◌, List, [], ◌∷◌, ◌++◌, Some, refl, ◌∙◌, ap, arith}
use Rattle.std.proofs.lemmas.Bool.Decides.{nat_tests}
use Rattle.std.proofs.lemmas.List.Elements.{All-nil, All-append, All-from_recursion}
use Rattle.std.specs.List.{All, flat_map}
use Rattle.thy_isa.specs.declared.instr.Instr.TheVariants.{Lui, Store}
use Rattle.thy_isa.specs.declared.instr.Width.TheVariants.{Double}
use Rattle.thy_isa.specs.Table.{instr_of}
use Rattle.thy_isa.specs.Words.{bits_of, opcode_of, rd_of, rs1_of, rs2_of, funct3_of, imm_u, imm_s, sign_extended}
use Rattle.thy_elf.specs.Encode.{lui_word, sd_word}
use Rattle.thy_elf.specs.MadeLaws.{MeansItself}
use Rattle.thy_elf.specs.MadeProgram.{draws, page_of, offset_of, store_of, opening, closing, made_program, addi}
use Rattle.thy_elf.proofs.ReachLemmas.{page_of-high}

-- a number whose highest bit is 0 stays as it is
sign_extended-low : (n v : ℕ) → v < 2 ^ (n - 1) → sign_extended n v ≡ v
sign_extended-low n v l = grind (arith, nat_tests)

-- ---- the rows of the table

lui-row : (w : ℕ) → opcode_of w ≡ 0b0110111 → instr_of w ≡ Some (Lui (rd_of w) (imm_u w))
unfolding instr_of
lui-row w op = rw op

sd-row : (w : ℕ) → opcode_of w ≡ 0b0100011 → funct3_of w ≡ 3 → instr_of w ≡ Some (Store Double (rs1_of w) (rs2_of w) (imm_s w))
unfolding instr_of
sd-row w op f3 = rw (op, f3)

-- ---- the words of a store

lui-at : (w page : ℕ) → page < 2 ^ 19 → w ≡ page * 2 ^ 12 + 823 → instr_of w ≡ Some (Lui 6 (page * 2 ^ 12))
lui-at w page l e =
    let op : opcode_of w ≡ 0b0110111 = omega arith in
    let rd : rd_of w ≡ 6 = omega arith in
    let top : bits_of w 12 20 * 2 ^ 12 ≡ page * 2 ^ 12 = omega arith in
    let imm : imm_u w ≡ page * 2 ^ 12 = ap (sign_extended 32) top ∙ sign_extended-low 32 (page * 2 ^ 12) (omega arith) in
    lui-row w op ∙ cc

sd-at : (w high low : ℕ) → high < 64 → low < 32 → w ≡ high * 2 ^ 25 + low * 2 ^ 7 + 5451811
    → instr_of w ≡ Some (Store Double 6 5 (high * 32 + low))
sd-at w high low h l e =
    let op : opcode_of w ≡ 0b0100011 = omega arith in
    let f3 : funct3_of w ≡ 3 = omega arith in
    let rs1 : rs1_of w ≡ 6 = omega arith in
    let rs2 : rs2_of w ≡ 5 = omega arith in
    let bits : bits_of w 25 7 * 2 ^ 5 + bits_of w 7 5 ≡ high * 32 + low = omega arith in
    let imm : imm_s w ≡ high * 32 + low = ap (sign_extended 12) bits ∙ sign_extended-low 12 (high * 32 + low) (omega arith) in
    sd-row w op f3 ∙ cc

lui-means : (page : ℕ) → page < 208 → MeansItself (Lui 6 (page * 2 ^ 12))
lui-means page l = lui-at (lui_word 6 (page * 2 ^ 12)) page (omega arith) (omega arith)

sd-means : (imm : ℕ) → imm < 2048 → MeansItself (Store Double 6 5 imm)
sd-means imm l =
    let whole : imm / 32 * 32 + imm % 32 ≡ imm = omega arith in
    sd-at (sd_word 6 5 imm) (imm / 32) (imm % 32) (omega arith) (omega arith) (omega arith)
    ∙ ap (λ (n : ℕ). Some (Store Double 6 5 n)) whole

-- ---- the fixed words

count-means : MeansItself (addi 5 5 1)
unfolding instr_of
count-means = refl

opening-means : All MeansItself opening
unfolding instr_of
opening-means = All-from_recursion MeansItself opening (refl, tt)

closing-means : All MeansItself closing
unfolding instr_of
closing-means = All-from_recursion MeansItself closing (refl, (refl, (refl, (refl, (refl, (refl, tt))))))

-- ---- the program

store-means : (r : ℕ) → All MeansItself (store_of r)
store-means r =
    All-from_recursion MeansItself (store_of r)
    (lui-means (page_of r) (page_of-high r), (sd-means (offset_of r) (omega arith), (count-means, tt)))

stores-mean : (rs : List ℕ) → All MeansItself (flat_map store_of rs)
stores-mean [] = All-nil MeansItself
stores-mean (r ∷ rs) = All-append MeansItself (store_of r) (flat_map store_of rs) (store-means r) (stores-mean rs)

pub words_mean_the_program : (n : ℕ) → All MeansItself (made_program n)
unfolding made_program
words_mean_the_program n =
    All-append MeansItself opening (flat_map store_of (draws 2000 n) ++ closing) opening-means
    (All-append MeansItself (flat_map store_of (draws 2000 n)) closing (stores-mean (draws 2000 n)) closing-means)
