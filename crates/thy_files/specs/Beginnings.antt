-- How a run of a source begins, as the program has it.
use Rattle.std.specs.Prelude.{◌≡◌, ℕ, Bool, List, [], length, Option, Some, None, Result, IfOk, IfErr}
use Rattle.thy_block.specs.declared.block.Block.{Block}
use Rattle.thy_base.specs.declared.config.Config.{Config}
use Rattle.thy_block.specs.declared.parameters.Parameters.{Parameters}
use Rattle.thy_block.specs.declared.mark.Mark.{Mark}
use Rattle.thy_block.specs.Bytes.{bytes_of}
use Rattle.thy_block.specs.Geometry.{IsInRange, program_size}
use Rattle.thy_base.specs.Config.{parameters_of}
use Rattle.thy_block.specs.Outside.{Stock}
use Rattle.thy_elf.specs.Image.{contents_of}
use Rattle.thy_isa.specs.Step.{state_of}
use Rattle.thy_layout.specs.declared.start.Start.{Start}
use Rattle.thy_outcome.specs.Saved.{AreOfCheckpoint}
use Rattle.thy_computer.specs.Origin.{IsOrigin}
use Rattle.thy_computer.specs.Safe.{ceiling}
use Rattle.thy_base.specs.Settings.{Job}
use Rattle.thy_outcome.specs.declared.refusal.Refusal.{Refusal}
use Rattle.thy_outcome.specs.declared.refusal.Refusal.TheVariants.{Fetch}
use Rattle.thy_files.specs.declared.restoring.Beginning.{Beginning as BeginningValue}
use Rattle.thy_files.specs.declared.source.FetchedBytes.{FetchedBytes}
use Rattle.thy_files.specs.declared.source.Program.{Program}
use Rattle.thy_outcome.specs.Sources.{ProgramSource, image, Beginning, from_entry, FetchDue, AreFetched, IsProgram, origin_for, ProgramDue}

-- what comes from it is a program file
abbrev pub IsElf : ProgramSource → Type 0
IsElf (image name) = ⊥
IsElf source = Unit {0}

-- a fetch of at most this many bytes under this name did not give them
abbrev pub IsFetchRefusal : ℕ → List ℕ → Stock → Stock → Refusal → Type 0
IsFetchRefusal most name old new (Fetch text e) = (text.now ≡ name) × FetchDue most old new text.now e
IsFetchRefusal most name old new r = ⊥

-- bytes and input were read for a job, in the numbers of its configuration
pub record AreFetchedFor (source : ProgramSource) (job : Job) (stock : Stock) (p : Parameters) (fetched : FetchedBytes) : Type 0 where
  pub numbers : p ≡ parameters_of job.config
  pub in_range : IsInRange p
  pub both : AreFetched source job stock (bytes_of fetched.bytes) (bytes_of fetched.input)

-- a program is what the bytes of a program file mean, in the numbers of a job
pub record IsProgramOf (source : ProgramSource) (job : Job) (stock : Stock) (p : Program) : Type 0 where
  pub geometry : p.geometry ≡ parameters_of job.config
  pub in_range : IsInRange p.geometry
  pub program : IsProgram source job stock
  pub begins : program.begins ≡ from_entry p.geometry (contents_of p.image)
  pub input : bytes_of p.input ≡ program.input
  pub size : length (bytes_of p.image.memory) ≡ program_size p.geometry

-- what is read of a program file's bytes, or why that is none
abbrev pub ReadsProgram : Parameters → FetchedBytes → Result Program Refusal → Type 0
ReadsProgram p fetched result =
    (source : ProgramSource) (job : Job) (stock : Stock) → IsElf source → AreFetchedFor source job stock p fetched
    → IfOk result (λ program. IsProgramOf source job stock program)

abbrev pub RefusesProgram : {T : Type 0} → Parameters → FetchedBytes → Result T Refusal → Type 0
RefusesProgram p fetched result =
    (source : ProgramSource) (job : Job) (stock : Stock) → IsElf source → AreFetchedFor source job stock p fetched
    → IfErr result (λ r. ProgramDue source job stock stock r)

-- what the program keeps of a beginning: a start, and the first blocks of the device
abbrev pub begun_with : Start → List Block → Beginning
begun_with s blocks = record { start = state_of s.state; kept = s.kept; blocks = blocks }

-- a device's first blocks fit a beginning: there are none, or they are an image's that means its checkpoint
abbrev pub FitsKept : Parameters → Beginning → Option Mark → Type 0
FitsKept p b None = b.blocks ≡ []
FitsKept p b (Some m) = AreOfCheckpoint p ceiling m.epoch b.start b.blocks

abbrev pub Fits : Parameters → Beginning → Type 0
Fits p b = FitsKept p b b.kept

-- a run begins with what the bytes of a source mean, and can begin so
pub record Begins (source : ProgramSource) (job : Job) (stock : Stock) (b : BeginningValue) : Type 0 where
  pub program : IsProgram source job stock
  pub begins : begun_with b.start b.blocks.items ≡ program.begins
  pub input : bytes_of b.start.input ≡ program.input
  pub origin : IsOrigin (origin_for job program.begins program.input)
  pub fits : Fits (parameters_of job.config) program.begins

-- how a run of a source begins, or why there is none
abbrev pub BeginsAs : ProgramSource → Parameters → FetchedBytes → Result BeginningValue Refusal → Type 0
BeginsAs source p fetched result =
    (job : Job) (stock : Stock) → AreFetchedFor source job stock p fetched → IfOk result (λ b. Begins source job stock b)

abbrev pub RefusesAs : ProgramSource → Parameters → FetchedBytes → Result BeginningValue Refusal → Type 0
RefusesAs source p fetched result =
    (job : Job) (stock : Stock) → AreFetchedFor source job stock p fetched
    → IfErr result (λ r. ProgramDue source job stock stock r)

-- configuration, the input's name and the flag for digests are a job's
pub record IsJobOf (job : Job) (config : Config) (input : Option (List ℕ)) (digest : Bool) : Type 0 where
  pub configures : job.config ≡ config
  pub reads : job.input ≡ input
  pub digests : job.digest ≡ digest

-- the numbers and the input's name are a job's
pub record IsPlannedFor (job : Job) (p : Parameters) (input : Option (List ℕ)) : Type 0 where
  pub numbers : p ≡ parameters_of job.config
  pub reads : job.input ≡ input
