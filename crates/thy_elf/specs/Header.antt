-- Part of the claim.
-- The header of an ELF-64 file, and what is asked of it.
use Rattle.std.specs.Prelude.{ℕ, ◌+◌, ◌*◌, Bool, not, ◌&&◌, ◌||◌, List, [], ◌∷◌, length, slice_index, nat_eq, nat_le, ◌==◌, bit_and}
use Rattle.std.specs.List.{starts_with}
use Rattle.thy_block.specs.Demands.{Demand, asked}
use Rattle.thy_block.specs.LittleEndian.{number_at}
use Rattle.thy_elf.specs.declared.error.ElfError.{ElfError}
use Rattle.thy_elf.specs.declared.error.ElfError.TheVariants.{TooShort, NotElf, NotClass64, NotLittle, BadVersion, NotExec, NotRiscv, NeedsCompressed, NeedsFloat, IsRve, BadHeaderSize, TooManyHeaders, HeadersOutside}
use Rattle.thy_elf.specs.declared.header.Header.{Header}

-- the fields of the header that matter here, by size and place: e_type, e_machine, e_version,
-- e_entry, e_phoff, e_flags, e_ehsize, e_phentsize, e_phnum (System V ABI, "ELF Header")
abbrev pub header_of : List ℕ → Header
header_of file = record {
  kind = number_at 2 file 16;
  machine = number_at 2 file 18;
  version = number_at 4 file 20;
  entry = number_at 8 file 24;
  table = number_at 8 file 32;
  flags = number_at 4 file 48;
  size = number_at 2 file 52;
  entry_size = number_at 2 file 54;
  count = number_at 2 file 56;
}

-- the first four bytes of an ELF file: 7F and "ELF"
abbrev pub begins_as_elf : List ℕ → Bool
begins_as_elf file = starts_with nat_eq file (0x7F ∷ 0x45 ∷ 0x4C ∷ 0x46 ∷ [])

-- what is asked of the header, in order: bytes 4 to 6 are the class (64-bit), the byte order (little)
-- and the version; the flags are RISC-V's, 1 for compressed code, 6 for a float ABI, 8 for RVE
unfoldable pub header_demands : List ℕ → List (Demand ElfError)
header_demands file =
    let h = header_of file in
    asked (nat_le 64 (length file)) TooShort
    ∷ asked (begins_as_elf file) NotElf
    ∷ asked (slice_index file 4 == 2) NotClass64
    ∷ asked (slice_index file 5 == 1) NotLittle
    ∷ asked (slice_index file 6 == 1 && h.version == 1) BadVersion
    ∷ asked (h.kind == 2) NotExec
    ∷ asked (h.machine == 243) NotRiscv
    ∷ asked (bit_and h.flags 1 == 0) NeedsCompressed
    ∷ asked (bit_and h.flags 6 == 0) NeedsFloat
    ∷ asked (bit_and h.flags 8 == 0) IsRve
    ∷ asked (h.size == 64 && (h.count == 0 || h.entry_size == 56)) BadHeaderSize
    ∷ asked (not (h.count == 0xFFFF)) TooManyHeaders
    ∷ asked (h.count == 0 || nat_le (h.table + 56 * h.count) (length file)) HeadersOutside ∷ []
