-- What is said of a file that is refused, and how it is to be made.
use Rattle.std.specs.Prelude.{ℕ, List}
use lib.Chars.{codes}
use Rattle.thy_elf.specs.declared.error.ElfError.{ElfError}
use Rattle.thy_elf.specs.declared.error.ElfError.TheVariants.{TooShort, NotElf, NotClass64, NotLittle, BadVersion, NotExec, NotRiscv, NeedsCompressed, NeedsFloat, IsRve, BadHeaderSize, TooManyHeaders, HeadersOutside, NeedsLoader, FileOverMemory, SegmentOutsideFile, SegmentOutsideMemory, Memory}

abbrev pub text_of : ElfError → List ℕ
text_of TooShort = codes "the file has fewer than 64 bytes, too few for an ELF header"
text_of NotElf = codes "the file does not begin with 7F 45 4C 46: it is not an ELF file"
text_of NotClass64 = codes "the file is not of the 64-bit class: build it for rv64 (-mabi=lp64)"
text_of NotLittle = codes "the file is not little-endian: build it with -mlittle-endian"
text_of BadVersion = codes "the file's ELF version is not 1"
text_of NotExec = codes "the file is not an executable at fixed addresses: link it with -static -no-pie, and not with -c or -shared"
text_of NotRiscv = codes "the file is not for RISC-V: build it with riscv64-unknown-elf-gcc"
text_of NeedsCompressed = codes "the file has compressed instructions: build it, and all that is linked to it, with -march=rv64im"
text_of NeedsFloat = codes "the file passes floating-point numbers in registers: build it, and all that is linked to it, with -mabi=lp64"
text_of IsRve = codes "the file is built for the sixteen registers of RVE: build it, and all that is linked to it, with -march=rv64im -mabi=lp64"
text_of BadHeaderSize = codes "the file's ELF header is not of 64 bytes, or its program headers are not of 56"
text_of TooManyHeaders = codes "the file has 65535 program headers or more"
text_of HeadersOutside = codes "the file ends before its last program header: it was cut short"
text_of NeedsLoader = codes "the file is to be loaded by a dynamic loader: link it with -static -no-pie"
text_of (FileOverMemory k) = codes "more bytes in the file than in memory"
text_of (SegmentOutsideFile k) = codes "the file ends before the segment's last byte: it was cut short"
text_of (SegmentOutsideMemory k) = codes "the segment is not within program memory: link it there (-Wl,-Ttext-segment=ADDRESS), or give more pages"
text_of (Memory e) = codes "there is no memory for the image"
