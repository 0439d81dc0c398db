-- Part of the claim.
-- What a file means: an image, or the first refusal that is due.
use Rattle.std.specs.Prelude.{◌≡◌, ℕ, ◌+◌, ◌-◌, ◌*◌, ◌/◌, max, not, List, ◌∷◌, ◌++◌, take, drop, replicate, Option, Some, None, Result, Ok, Err, IsOk, if◌then◌else◌}
use Rattle.std.specs.List.{flat_map, fold, list_any}
use Rattle.thy_block.specs.Bytes.{bytes_of, written}
use Rattle.thy_block.specs.Demands.{Demand, asked, first_fault}
use Rattle.thy_elf.specs.declared.error.ElfError.{ElfError}
use Rattle.thy_elf.specs.declared.error.ElfError.TheVariants.{NeedsLoader, Memory}
use Rattle.thy_elf.specs.declared.image.Image.{Image}
use Rattle.thy_elf.specs.declared.program_header.ProgramHeader.{ProgramHeader}
use Rattle.thy_elf.specs.Header.{header_of, header_demands}
use Rattle.thy_elf.specs.ProgramHeader.{program_header, indices_of, needs_loader, takes_memory, segment_demands, HasHeaders}

-- what is asked of a file: of its header, then of all program headers together, then of each by rising index
abbrev pub demands_of : List ℕ → ℕ → ℕ → List (Demand ElfError)
demands_of file base size =
    header_demands file
    ++ (asked (not (list_any (λ k. needs_loader (program_header file k)) (indices_of file))) NeedsLoader
    ∷ flat_map (segment_demands file base size) (indices_of file))

-- the bytes of a segment: its bytes in the file, then zeros
abbrev pub segment_bytes : List ℕ → ProgramHeader → List ℕ
segment_bytes file p = take p.file_size (drop p.offset file) ++ replicate (p.memory_size - p.file_size) 0

-- memory with the segment of program header k written over it
abbrev pub with_segment : List ℕ → ℕ → List ℕ → ℕ → List ℕ
with_segment file base memory k =
    let p = program_header file k in
    if takes_memory p then written memory (p.address - base) (segment_bytes file p) else memory

-- memory: zeros, with the segments written over them in the table's order
abbrev pub memory_of : List ℕ → ℕ → ℕ → List ℕ
memory_of file base size = fold (with_segment file base) (replicate size 0) (indices_of file)

-- the end of the segment of program header k, or the greatest end so far if that is greater
abbrev pub reached : List ℕ → ℕ → ℕ → ℕ
reached file end k =
    let p = program_header file k in
    if takes_memory p then max end (p.address + p.memory_size) else end

-- the greatest end of a segment, or base if there is none, rounded up to a multiple of 16
abbrev pub floor_of : List ℕ → ℕ → ℕ
floor_of file base = (fold (reached file) base (indices_of file) + 15) / 16 * 16

-- the contents of an image: the address at which the run starts, the address at which the heap starts, and memory
pub record Contents : Type 0 where
  pub entry : ℕ
  pub floor : ℕ
  pub memory : List ℕ

-- the contents of an image
abbrev pub contents_of : Image → Contents
contents_of image = record { entry = image.entry; floor = image.floor; memory = bytes_of image.memory }

-- the refusal, or else the contents
abbrev pub refused_or : Option ElfError → Contents → Result Contents ElfError
refused_or None contents = Ok contents
refused_or (Some e) contents = Err e

-- what a file means if program memory is `size` bytes from `base` on
abbrev pub read_of : List ℕ → ℕ → ℕ → Result Contents ElfError
read_of file base size =
    refused_or (first_fault (demands_of file base size))
    (record { entry = (header_of file).entry; floor = floor_of file base; memory = memory_of file base size })

-- an error is the file's refusal; out of memory is reported only if the file is an image
abbrev pub IsCause : Result Contents ElfError → ElfError → Type 0
IsCause meaning (Memory e) = IsOk meaning
IsCause meaning e = meaning ≡ Err e

-- a file is not refused
pub record IsAccepted (file : List ℕ) (base size : ℕ) : Type 0 where
  pub headers : HasHeaders file
  pub segments : first_fault (flat_map (segment_demands file base size) (indices_of file)) ≡ None
