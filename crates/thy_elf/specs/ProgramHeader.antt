-- Part of the claim.
-- The program headers of a file, and what is asked of each.
use Rattle.std.specs.Prelude.{ℕ, ◌+◌, ◌*◌, ◌<◌, ◌≤◌, Bool, not, ◌&&◌, ◌||◌, List, [], ◌∷◌, length, nat_le, ◌==◌}
use Rattle.std.specs.List.{range_with_len}
use Rattle.thy_block.specs.Demands.{Demand, asked}
use Rattle.thy_block.specs.Inside.{is_inside}
use Rattle.thy_block.specs.LittleEndian.{number_at}
use Rattle.thy_elf.specs.declared.error.ElfError.{ElfError}
use Rattle.thy_elf.specs.declared.error.ElfError.TheVariants.{FileOverMemory, SegmentOutsideFile, SegmentOutsideMemory}
use Rattle.thy_elf.specs.declared.program_header.ProgramHeader.{ProgramHeader}
use Rattle.thy_elf.specs.Header.{header_of}

-- the place of program header k in the file: each has 56 bytes
abbrev pub place_of : List ℕ → ℕ → ℕ
place_of file k = (header_of file).table + 56 * k

-- the fields of program header k that matter here, by size and place: p_type, p_offset, p_vaddr,
-- p_filesz, p_memsz (System V ABI, "Program Header")
unfoldable pub program_header : List ℕ → ℕ → ProgramHeader
program_header file k = record {
  kind = number_at 4 file (place_of file k);
  offset = number_at 8 file (place_of file k + 8);
  address = number_at 8 file (place_of file k + 16);
  file_size = number_at 8 file (place_of file k + 32);
  memory_size = number_at 8 file (place_of file k + 40);
}

-- the indices of the program headers, in the table's order
abbrev pub indices_of : List ℕ → List ℕ
indices_of file = range_with_len 0 (header_of file).count

-- the header asks for a dynamic loader: PT_DYNAMIC or PT_INTERP
abbrev pub needs_loader : ProgramHeader → Bool
needs_loader p = p.kind == 2 || p.kind == 3

-- the header is of a segment to be loaded: PT_LOAD
abbrev pub is_load : ProgramHeader → Bool
is_load p = p.kind == 1

-- the header is of a segment to be loaded that takes up memory
abbrev pub takes_memory : ProgramHeader → Bool
takes_memory p = is_load p && not (p.memory_size == 0)

-- what is asked of program header k, in order: of one to be loaded, and of one that takes up memory
abbrev pub segment_demands : List ℕ → ℕ → ℕ → ℕ → List (Demand ElfError)
segment_demands file base size k =
    let p = program_header file k in
    asked (not (is_load p) || nat_le p.file_size p.memory_size) (FileOverMemory k)
    ∷ asked (not (is_load p) || (p.file_size == 0 || nat_le (p.offset + p.file_size) (length file))) (SegmentOutsideFile k)
    ∷ asked (not (takes_memory p) || is_inside base size p.address p.memory_size) (SegmentOutsideMemory k) ∷ []

-- the file is long enough for its header and all its program headers
pub record HasHeaders (file : List ℕ) : Type 0 where
  pub header : 64 ≤ length file
  pub table : 0 < (header_of file).count → place_of file (header_of file).count ≤ length file
