-- Part of the claim.
-- The source of a run's program, and what its bytes mean.
use Rattle.std.specs.Prelude.{◌≡◌, ◌⊎◌, ℕ, ◌<◌, ◌≤◌, ◌^◌, nat_le, if◌then◌else◌, List, [], length, Option, Some, None, Result, Ok, Err, MatchOption}
use Rattle.std.specs.List.{All}
use Rattle.thy_block.specs.declared.block.Block.{Block}
use Rattle.thy_block.specs.declared.parameters.Parameters.{Parameters}
use Rattle.thy_block.specs.declared.mark.Mark.{Mark}
use Rattle.thy_block.specs.declared.outside.FetchError.{FetchError}
use Rattle.thy_block.specs.declared.outside.FetchError.TheVariants.{Failed as FetchFailed, NotThere, TooLong, Memory as FetchMemory}
use Rattle.thy_base.specs.Config.{parameters_of}
use Rattle.thy_block.specs.Geometry.{program_size}
use Rattle.thy_block.specs.Marks.{mark}
use Rattle.thy_block.specs.Outside.{Stock, Files, HasNotFailed, HasFailedUnder, MayHaveFailed}
use Rattle.thy_elf.specs.declared.error.ElfError.{ElfError}
use Rattle.thy_elf.specs.declared.error.ElfError.TheVariants.{Memory as ElfMemory}
use Rattle.thy_elf.specs.Image.{Contents, read_of}
use Rattle.thy_isa.specs.Step.{State}
use Rattle.thy_isa.specs.Storable.{IsByte}
use Rattle.thy_elf.specs.MadeFile.{made_file}
use Rattle.thy_plain.specs.Start.{start_state}
use Rattle.thy_layout.specs.declared.bad_image.BadImage.TheVariants.{Empty}
use Rattle.thy_layout.specs.Decoded.{Decoded, Nothing, Refused, At}
use Rattle.thy_layout.specs.Files.{blocks_of}
use Rattle.thy_outcome.specs.Meaning.{decode_bytes}
use Rattle.thy_computer.specs.Origin.{Origin}
use Rattle.thy_base.specs.Settings.{Job}
use Rattle.thy_outcome.specs.declared.refusal.Refusal.{Refusal}
use Rattle.thy_outcome.specs.declared.refusal.Refusal.TheVariants.{Words, Fetch, File, Image, Input, Device as DeviceRefusal, Memory as MemoryRefusal}

-- ---- what a shelf holds

-- the most bytes that a program file or an input may have
abbrev pub most_bytes : ℕ
most_bytes = 67108864

-- the most bytes that a saved image may have
abbrev pub most_image_bytes : ℕ
most_image_bytes = 536870912

-- bytes, at most this many, that may be under a name: they are, if the shelf's contents are known
abbrev pub IsHeld : ℕ → Stock → List ℕ → List ℕ → Type 0
IsHeld most stock name bytes =
    (length bytes ≤ most) × ((files : Files) → stock.held ≡ Some files → files name ≡ Some bytes)

-- a file has more bytes than this number
abbrev pub IsTooLong : ℕ → Option (List ℕ) → Type 0
IsTooLong most there = (bytes : List ℕ) × (there ≡ Some bytes) × (most < length bytes)

-- Why a file of at most `most` bytes could not be read: the shelf failed under its name, or its contents are known and
-- it has nothing there, or too much. If an allocation failed the shelf may have failed under it. A failed fetch of the
-- input cannot be reported under the program's name.
abbrev pub FetchDue : ℕ → Stock → Stock → List ℕ → FetchError → Type 0
FetchDue most old new name FetchFailed = HasFailedUnder name old new
FetchDue most old new name NotThere =
    MatchOption old.held (HasFailedUnder name old new) (λ files. (files name ≡ None) × HasNotFailed old new)
FetchDue most old new name TooLong =
    MatchOption old.held (HasFailedUnder name old new) (λ files. IsTooLong most (files name) × HasNotFailed old new)
FetchDue most old new name (FetchMemory e) = MayHaveFailed name old new

-- the bytes of an input: those under its name, or none if there is no name
abbrev pub IsInput : Stock → Option (List ℕ) → List ℕ → Type 0
IsInput stock None bytes = bytes ≡ []
IsInput stock (Some name) bytes = IsHeld most_bytes stock name bytes

-- ---- sources

-- a program file of this name, the one that is made from this number, or a saved image of this name
pub data ProgramSource : Type 0 where
  file : List ℕ → ProgramSource
  made : ℕ → ProgramSource
  image : List ℕ → ProgramSource

-- the bytes of a source: those under its name, or those that are made
abbrev pub AreBytesOf : ProgramSource → Stock → List ℕ → Type 0
AreBytesOf (file name) stock bytes = IsHeld most_bytes stock name bytes
AreBytesOf (image name) stock bytes = IsHeld most_image_bytes stock name bytes
AreBytesOf (made n) stock bytes = bytes ≡ made_file n

-- what a run begins with: a state, the checkpoint that it was taken from if it was, and the first blocks of its device
pub record Beginning : Type 0 where
  pub start : State
  pub kept : Option Mark
  pub blocks : List Block

-- a program from its entry, over a device of zeros
abbrev pub from_entry : Parameters → Contents → Beginning
from_entry p contents = record { start = start_state p contents; kept = None; blocks = [] }

abbrev pub begun : Parameters → Result Contents ElfError → Result Beginning Refusal
begun p (Ok contents) = Ok (from_entry p contents)
begun p (Err e) = Err (File e)

-- a checkpoint, over the image that holds it; what it has read of the input has to be there
abbrev pub restored : (bytes input : List ℕ) → Decoded → Result Beginning Refusal
restored bytes input Nothing = Err (Image Empty)
restored bytes input (Refused bad) = Err (Image bad)
restored bytes input (At epoch s) =
    if nat_le s.cursor (length input)
    then Ok (record { start = s; kept = Some (mark epoch s.count); blocks = blocks_of bytes })
    else Err (Input s.cursor (length input))

-- the epochs and counts of a saved image are below this
abbrev pub saved_ceiling : ℕ
saved_ceiling = 2 ^ 62

-- what the bytes of a source mean to a job with this input
abbrev pub meaning_of : ProgramSource → Job → (bytes input : List ℕ) → Result Beginning Refusal
meaning_of (image name) job bytes input =
    restored bytes input (decode_bytes (parameters_of job.config) saved_ceiling bytes)
meaning_of source job bytes input =
    begun (parameters_of job.config) (read_of bytes job.config.base (program_size (parameters_of job.config)))

-- bytes of a source, and an input, were read
pub record AreFetched (source : ProgramSource) (job : Job) (stock : Stock) (bytes input : List ℕ) : Type 0 where
  pub are_bytes : All IsByte bytes
  pub fetched : AreBytesOf source stock bytes
  pub input_bytes : All IsByte input
  pub is_input : IsInput stock job.input input

-- bytes of a source, and an input, were read, and a run can begin with them
pub record IsProgram (source : ProgramSource) (job : Job) (stock : Stock) : Type 0 where
  pub bytes : List ℕ
  pub input : List ℕ
  pub fetched : AreFetched source job stock bytes input
  pub begins : Beginning
  pub means : meaning_of source job bytes input ≡ Ok begins

-- the origin of a run that begins so; with one hart no turn is reported
abbrev pub origin_for : Job → Beginning → List ℕ → Origin
origin_for job begins input =
    record { geometry = parameters_of job.config; start = begins.start; input = input; kept = begins.kept; turns = [] }

-- ---- why there is no program

-- why the bytes of a source could not be read under a name: it is the source's
abbrev pub SourceDue : ProgramSource → Stock → Stock → List ℕ → FetchError → Type 0
SourceDue (file own) old new name e = (name ≡ own) × FetchDue most_bytes old new name e
SourceDue (image own) old new name e = (name ≡ own) × FetchDue most_image_bytes old new name e
SourceDue (made n) old new name e = ⊥

-- why the bytes of an input could not be read under a name, once the source's were: the name is the input's
abbrev pub InputDue : ProgramSource → Job → Stock → Stock → List ℕ → FetchError → Type 0
InputDue source job old new name e =
    (job.input ≡ Some name) × ((bytes : List ℕ) × AreBytesOf source old bytes) × FetchDue most_bytes old new name e

-- bytes and input were read, and mean this refusal
abbrev pub IsMeant : ProgramSource → Job → Stock → Refusal → Type 0
IsMeant source job stock r =
    (bytes : List ℕ) × AreBytesOf source stock bytes × (input : List ℕ) × IsInput stock job.input input
    × (meaning_of source job bytes input ≡ Err r)

-- Why a run has no program: bytes or input could not be read, or both were and mean none. Out of memory needs no
-- reason, but the shelf has not failed.
abbrev pub ProgramDue : ProgramSource → Job → Stock → Stock → Refusal → Type 0
ProgramDue source job old new (Fetch name e) =
    SourceDue source old new name.now e ⊎ InputDue source job old new name.now e
ProgramDue source job old new (File (ElfMemory e)) = HasNotFailed old new
ProgramDue source job old new (MemoryRefusal e) = HasNotFailed old new
ProgramDue source job old new (Words e) = ⊥
ProgramDue source job old new (DeviceRefusal e) = ⊥
ProgramDue source job old new r = HasNotFailed old new × IsMeant source job old r
