-- Part of the claim.
-- The refusals of a file, and what reports call them.
use Rattle.std.specs.Prelude.{ℕ, List, Option, Some, None}
use lib.Chars.{codes}
use Rattle.thy_elf.specs.declared.error.ElfError.{ElfError}
use Rattle.thy_elf.specs.declared.error.ElfError.TheVariants.{TooShort, NotElf, NotClass64, NotLittle, BadVersion, NotExec, NotRiscv, NeedsCompressed, NeedsFloat, IsRve, BadHeaderSize, TooManyHeaders, HeadersOutside, NeedsLoader, FileOverMemory, SegmentOutsideFile, SegmentOutsideMemory, Memory}

-- the error is about the file, and not about memory
abbrev pub IsRefusal : ElfError → Type 0
IsRefusal (Memory e) = ⊥
IsRefusal _ = Unit {0}

-- the numbers and the names by which reports call the refusals
abbrev pub called : ElfError → ℕ × List ℕ
called TooShort = (1, codes "TooShort")
called NotElf = (2, codes "NotElf")
called NotClass64 = (3, codes "NotClass64")
called NotLittle = (4, codes "NotLittle")
called BadVersion = (5, codes "BadVersion")
called NotExec = (6, codes "NotExec")
called NotRiscv = (7, codes "NotRiscv")
called NeedsCompressed = (8, codes "NeedsCompressed")
called NeedsFloat = (9, codes "NeedsFloat")
called IsRve = (10, codes "IsRve")
called BadHeaderSize = (11, codes "BadHeaderSize")
called TooManyHeaders = (12, codes "TooManyHeaders")
called HeadersOutside = (13, codes "HeadersOutside")
called NeedsLoader = (14, codes "NeedsLoader")
called (FileOverMemory k) = (15, codes "FileOverMemory")
called (SegmentOutsideFile k) = (16, codes "SegmentOutsideFile")
called (SegmentOutsideMemory k) = (17, codes "SegmentOutsideMemory")
called (Memory e) = (0, codes "Memory")

abbrev pub number_of : ElfError → ℕ
number_of e = (called e).0

abbrev pub name_of : ElfError → List ℕ
name_of e = (called e).1

-- the program header that a refusal names
abbrev pub index_of : ElfError → Option ℕ
index_of (FileOverMemory k) = Some k
index_of (SegmentOutsideFile k) = Some k
index_of (SegmentOutsideMemory k) = Some k
index_of _ = None
