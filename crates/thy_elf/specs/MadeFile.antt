-- Part of the claim.
-- Program files of one segment, and the file of the made program.
use Rattle.std.specs.Prelude.{ℕ, ◌*◌, List, [], ◌∷◌, ◌++◌, length}
use Rattle.std.specs.List.{flat_map}
use Rattle.thy_block.specs.LittleEndian.{number_bytes}
use Rattle.thy_elf.specs.declared.made.one_segment.HeaderField.{HeaderField}
use Rattle.thy_elf.specs.declared.made.one_segment.HeaderField.TheVariants.{U8, U16, U32, U64}
use Rattle.thy_elf.specs.MadeProgram.{made_words}

-- the bytes of a header's field of one, two, four or eight bytes, the lowest first
abbrev pub field_bytes : HeaderField → List ℕ
field_bytes (U8 v) = v ∷ []
field_bytes (U16 v) = number_bytes 2 v
field_bytes (U32 v) = number_bytes 4 v
field_bytes (U64 v) = number_bytes 8 v

-- the file's header (System V ABI, "ELF Header"): 7F "ELF", 64-bit, little-endian, version 1, nine zeros; an executable
-- (2) for RISC-V (243), version 1. It starts at 65536, has its one program header from byte 64 on, no sections and no
-- flags. This header has 64 bytes, and a program header 56.
abbrev pub file_header : List HeaderField
file_header =
    U32 0x464C457F ∷ U8 2 ∷ U8 1 ∷ U8 1 ∷ U8 0 ∷ U64 0
    ∷ U16 2 ∷ U16 243 ∷ U32 1 ∷ U64 65536 ∷ U64 64 ∷ U64 0 ∷ U32 0
    ∷ U16 64 ∷ U16 56 ∷ U16 1 ∷ U16 0 ∷ U16 0 ∷ U16 0 ∷ []

-- the program header: a segment to be loaded (1), to be read, written and executed (7), from byte 120 on, at 65536, of this
-- many bytes in the file and in memory, aligned to 4 (System V ABI, "Program Header")
abbrev pub segment_header : ℕ → List HeaderField
segment_header size =
    U32 1 ∷ U32 7 ∷ U64 120 ∷ U64 65536 ∷ U64 65536 ∷ U64 size ∷ U64 size ∷ U64 4 ∷ []

-- the file whose segment is these words
abbrev pub file_of : List ℕ → List ℕ
file_of words =
    flat_map field_bytes (file_header ++ segment_header (4 * length words)) ++ flat_map (number_bytes 4) words

-- the file of the made program of number n
unfoldable pub made_file : ℕ → List ℕ
made_file n = file_of (made_words n)
