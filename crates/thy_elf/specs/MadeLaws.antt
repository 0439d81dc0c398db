-- What made programs are.
use Rattle.std.specs.Prelude.{◌≡◌, ℕ, ◌+◌, ◌*◌, ◌^◌, ◌%◌, ◌-◌, ◌≤◌, ◌++◌, length, replicate, slice_get, Some, Ok}
use Rattle.std.specs.List.{All, flat_map}
use Rattle.thy_block.specs.LittleEndian.{number_bytes}
use Rattle.thy_elf.specs.Image.{Contents, read_of}
use Rattle.thy_isa.specs.declared.instr.Instr.{Instr}
use Rattle.thy_isa.specs.declared.instr.Instr.TheVariants.{Jal}
use Rattle.thy_isa.specs.Table.{instr_of}
use Rattle.thy_elf.specs.Encode.{encoded}
use Rattle.thy_elf.specs.MadeFile.{made_file}
use Rattle.thy_elf.specs.MadeProgram.{minus, page_of, offset_of, opening, made_program, made_words}

-- how many instructions a program has
abbrev pub ProgramsHaveOneLength : Type 0
ProgramsHaveOneLength = (n : ℕ) → length (made_program n) ≡ 6007

-- instruction 6003, from 0, jumps back to the first store, which is the first one after the opening
abbrev pub ProgramsLoop : Type 0
ProgramsLoop = (n : ℕ) → slice_get (made_program n) 6003 ≡ Some (Jal 0 (minus (4 * (6003 - length opening))))

-- how many bytes a file has
abbrev pub FilesHaveOneLength : Type 0
FilesHaveOneLength = (n : ℕ) → length (made_file n) ≡ 24148

-- what a file is an image of: its words from the first byte of memory on, zeros after them, and a heap that begins at
-- the first multiple of 16 after the words
abbrev pub made_contents : ℕ → ℕ → Contents
made_contents n size = record {
  entry = 65536;
  floor = 89568;
  memory = flat_map (number_bytes 4) (made_words n) ++ replicate (size - 24028) 0;
}

-- if program memory begins at 65536 and has room for the words, the file is an image of them
abbrev pub FilesAreImages : Type 0
FilesAreImages =
    (n size : ℕ) → 24028 ≤ size → read_of (made_file n) 65536 size ≡ Ok (made_contents n size)

-- the encoded word of an instruction means the instruction
abbrev pub MeansItself : Instr → Type 0
MeansItself instr = instr_of (encoded instr) ≡ Some instr

-- each word of a program means the instruction that it stands for
abbrev pub WordsMeanTheProgram : Type 0
WordsMeanTheProgram = (n : ℕ) → All MeansItself (made_program n)

-- the address of the eight bytes that the store of a draw writes
abbrev pub address_of : ℕ → ℕ
address_of r = page_of r * 2 ^ 12 + offset_of r

-- the eight bytes of a store are aligned, and lie after the code and within 192 pages from 65536 on
pub record IsInReach (r : ℕ) : Type 0 where
  pub aligned : address_of r % 8 ≡ 0
  pub behind : 65536 + 24028 ≤ address_of r
  pub within : address_of r + 8 ≤ 65536 + 192 * 2 ^ 12

abbrev pub StoresAreInReach : Type 0
StoresAreInReach = (r : ℕ) → IsInReach r
