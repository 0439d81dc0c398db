-- A run begins with what the bytes of its source mean.
use Rattle.std.proofs.Common.{◌≡◌, ℕ, ◌-◌, ◌==◌, Bool, true, false, Option, Some, None, List, [], length, refl, sym, ◌∙◌, ap, subst, lit<, arith, ◌<◌, ◌≤◌, ◌^◌, if◌then◌else◌}
use Rattle.std.specs.Prelude.{Result, Ok, Err}
use Rattle.std.proofs.lemmas.Bool.{le-leb, eqb-true, eqb-false}
use Rattle.thy_block.specs.declared.parameters.Parameters.{Parameters}
use Rattle.thy_block.specs.declared.block.Block.{Block}
use Rattle.thy_block.specs.Geometry.{IsInRange, program_size}
use Rattle.thy_base.specs.Config.{parameters_of}
use Rattle.thy_block.specs.Outside.{Stock}
use Rattle.thy_isa.specs.declared.state.OtherHart.{OtherHart}
use Rattle.thy_isa.specs.declared.state.Status.TheVariants.{Running}
use Rattle.thy_isa.specs.Storable.{IsNumber, IsOtherOf, IsStorable, IsReadable}
use Rattle.thy_block.specs.Bytes.{bytes_of}
use Rattle.thy_block.specs.Marks.{mark}
use Rattle.thy_layout.specs.Decoded.{At}
use Rattle.thy_layout.specs.Files.{blocks_of}
use Rattle.thy_outcome.specs.Meaning.{decode_bytes}
use Rattle.thy_outcome.proofs.LawLemmas.{file_is_image}
use Rattle.thy_isa.specs.Step.{State, state_of}
use Rattle.thy_isa.proofs.MemoryBounds.{anywhere}
use Rattle.thy_layout.specs.declared.start.Start.{Start}
use Rattle.thy_layout.specs.Cpu.{is_status, status_tag, status_value, IsOtherRecordable}
use Rattle.thy_elf.specs.declared.error.ElfError.{ElfError}
use Rattle.thy_elf.specs.declared.image.Image.{Image}
use Rattle.thy_elf.specs.Image.{Contents, contents_of, read_of}
use Rattle.thy_plain.specs.Start.{second_hart, start_other, start_state}
use Rattle.thy_base.specs.Settings.{Job}
use Rattle.thy_block.specs.declared.mark.Mark.{Mark}
use Rattle.thy_computer.specs.Origin.{Origin, IsOrigin, StartsFrom, setting_of}
use Rattle.thy_computer.specs.Safe.{ceiling}
use Rattle.thy_files.specs.Beginnings.{Begins, begun_with, FitsKept, IsElf, AreFetchedFor, IsProgramOf}
use Rattle.thy_files.specs.Restoring.{IsRestored}
use Rattle.thy_outcome.specs.Sources.{ProgramSource, file, made, image, Beginning, begun, from_entry, restored, IsInput, meaning_of, origin_for}
use Rattle.thy_outcome.specs.declared.refusal.Refusal.TheVariants.{Input}
use Rattle.thy_files.specs.declared.restoring.Beginning.{Beginning as BeginningValue}
use Rattle.thy_files.specs.declared.source.FetchedBytes.{FetchedBytes}
use Rattle.thy_files.specs.declared.source.Program.{Program}
use Rattle.thy_files.proofs.RestoringLaws.{IsOrigin-restored}

-- ---- programs

-- what a file was read as is what it means
pub bytes_read : (job : Job) (bytes read : List ℕ) (p numbers : Parameters) (size : ℕ) (means : Result Contents ElfError)
    → p ≡ parameters_of job.config → numbers ≡ p → read ≡ bytes
    → size ≡ program_size p → read_of read numbers.base size ≡ means
    → read_of bytes job.config.base (program_size (parameters_of job.config)) ≡ means
bytes_read job bytes read p numbers size means geometry same as_read as_long h =
    ap (λ b. read_of b job.config.base (program_size (parameters_of job.config))) (sym as_read)
    ∙ ap (λ b. read_of read b (program_size (parameters_of job.config))) (sym (ap (λ (x : Parameters). x.base) (same ∙ geometry)))
    ∙ ap (read_of read numbers.base) (sym (as_long ∙ ap program_size geometry)) ∙ h

-- what a program file was read as is what its bytes mean
pub meaning_is : (source : ProgramSource) (job : Job) (bytes input : List ℕ) (means : Result Contents ElfError) → IsElf source
    → read_of bytes job.config.base (program_size (parameters_of job.config)) ≡ means
    → meaning_of source job bytes input ≡ begun (parameters_of job.config) means
meaning_is (file name) job bytes input means elf h = ap (begun (parameters_of job.config)) h
meaning_is (made n) job bytes input means elf h = ap (begun (parameters_of job.config)) h
meaning_is (image name) job bytes input means elf h = absurd elf

-- a program is what was read of the bytes of a program file
pub IsProgramOf-read : (source : ProgramSource) (job : Job) (stock : Stock) (p : Parameters) (fetched : FetchedBytes) (i : Image)
    → IsElf source → AreFetchedFor source job stock p fetched
    → read_of (bytes_of fetched.bytes) job.config.base (program_size (parameters_of job.config)) ≡ Ok (contents_of i)
    → length (bytes_of i.memory) ≡ program_size p
    → IsProgramOf source job stock (record { geometry = p; image = i; input = fetched.input })
IsProgramOf-read source job stock p fetched i elf h read size = record {
  geometry = h.numbers;
  in_range = h.in_range;
  program = record {
    bytes = bytes_of fetched.bytes;
    input = bytes_of fetched.input;
    fetched = h.both;
    begins = from_entry (parameters_of job.config) (contents_of i);
    means = meaning_is source job (bytes_of fetched.bytes) (bytes_of fetched.input) (Ok (contents_of i)) elf read;
  };
  begins = ap (λ q. from_entry q (contents_of i)) (sym h.numbers);
  input = refl;
  size = size;
}

-- ---- beginnings

-- an input that was read is not too long for the machine
pub input_size : (stock : Stock) (name : Option (List ℕ)) (input : List ℕ) → IsInput stock name input → length input < 2 ^ 64
input_size stock None input none = omega (arith, ap length none)
input_size stock (Some name) input held = omega (arith, held.0)

-- hart 1, if it is there, can be recorded if it can be stored
start_recordable : (p : Parameters) (o : OtherHart) (two : Bool) → (p.harts == 2) ≡ two → IsOtherOf (if two then Some o else None)
    → IsOtherRecordable p (if two then Some o else None)
start_recordable p o true e h = (eqb-true p.harts 2 e, h)
start_recordable p o false e h = eqb-false p.harts 2 e

-- a start state begins a run from a file
pub IsOrigin-start : (o : Origin) (contents : Contents) → IsInRange o.geometry → o.start ≡ start_state o.geometry contents
    → IsStorable (program_size o.geometry) o.start → IsReadable (setting_of o) → o.kept ≡ None → IsOrigin o
IsOrigin-start o contents range is storable readable fresh =
    let console : length o.start.console ≡ 0 = ap (λ (s : State). length s.console) is in
    let count : o.start.count ≡ 0 = ap (λ (s : State). s.count) is in
    let status : o.start.status ≡ Running = ap (λ (s : State). s.status) is in
    let p = o.geometry in
    let other : o.start.other ≡ start_other p contents.entry = ap (λ (s : State). s.other) is in
    record {
      geometry = range;
      recordable = record {
        pc = storable.pc;
        regs_length = storable.registers;
        regs_zero = storable.zero_register;
        regs = anywhere IsNumber (lit< tt) o.start.regs storable.numbers;
        console = omega (arith, console);
        cursor = storable.cursor;
        brk = storable.brk;
        floor = storable.floor;
        count = omega (arith, count);
        status = ap (λ s. is_status (status_tag s) (status_value s)) status;
        other = subst (IsOtherRecordable p) (sym other)
            (start_recordable p (second_hart p contents.entry) (p.harts == 2) refl (subst IsOtherOf other storable.other));
      };
      memory = storable.memory_size;
      storable = storable;
      readable = readable;
      starts = subst (λ (kept : Option Mark). StartsFrom kept o.start) (sym fresh) status;
    }

-- a beginning in hand is the one that is meant
beginning_is : (s : Start) (blocks : List Block) (begins : Beginning) → state_of s.state ≡ begins.start → s.kept ≡ begins.kept
    → blocks ≡ begins.blocks → begun_with s blocks ≡ begins
beginning_is s blocks begins start kept same =
    ap (λ x. record { start = x; kept = s.kept; blocks = blocks }) start
    ∙ ap (λ m. record { start = begins.start; kept = m; blocks = blocks }) kept
    ∙ ap (λ bs. record { start = begins.start; kept = begins.kept; blocks = bs }) same

-- what a run of a program file begins with
pub Begins-entry : (source : ProgramSource) (job : Job) (stock : Stock) (p : Program) (b : BeginningValue) → IsProgramOf source job stock p
    → state_of b.start.state ≡ start_state p.geometry (contents_of p.image) → IsStorable (program_size p.geometry) (state_of b.start.state)
    → b.start.kept ≡ None → bytes_of b.start.input ≡ bytes_of p.input → b.blocks.items ≡ [] → Begins source job stock b
Begins-entry source job stock p b program start storable kept reads blocks =
    let begins : Beginning = program.program.begins in
    let fresh : begins.kept ≡ None = ap (λ (x : Beginning). x.kept) program.begins in
    let bare : begins.blocks ≡ [] = ap (λ (x : Beginning). x.blocks) program.begins in
    let there : begins.start ≡ start_state p.geometry (contents_of p.image) = ap (λ (x : Beginning). x.start) program.begins in
    let first : begins.start ≡ start_state (parameters_of job.config) (contents_of p.image) =
    there ∙ ap (λ q. start_state q (contents_of p.image)) program.geometry in
    let same : state_of b.start.state ≡ begins.start = start ∙ sym there in
    record {
      program = program.program;
      begins = beginning_is b.start b.blocks.items begins same (kept ∙ sym fresh) (blocks ∙ sym bare);
      input = reads ∙ program.input;
      origin = IsOrigin-start (origin_for job begins program.program.input) (contents_of p.image)
          (subst IsInRange program.geometry program.in_range) first
          (subst (λ q. IsStorable (program_size q) begins.start) program.geometry (subst (IsStorable (program_size p.geometry)) same storable))
          (record {
            bytes = program.program.fetched.input_bytes;
            size = input_size stock job.input program.program.input program.program.fetched.is_input;
          })
          fresh;
      fits = subst (FitsKept (parameters_of job.config) begins) (sym fresh) bare;
    }

within_is : (bytes input : List ℕ) (epoch : ℕ) (s : State) → s.cursor ≤ length input
    → restored bytes input (At epoch s) ≡ Ok (record { start = s; kept = Some (mark epoch s.count); blocks = blocks_of bytes })
within_is bytes input epoch s l = ap (λ t. if t then Ok (record {
  start = s;
  kept = Some (mark epoch s.count);
  blocks = blocks_of bytes;
}) else Err (Input s.cursor (length input))) (le-leb s.cursor (length input) l)

-- what a run of an image begins with
pub Begins-image : (name : List ℕ) (job : Job) (stock : Stock) (p : Parameters) (fetched : FetchedBytes) (epoch : ℕ) (b : BeginningValue)
    → AreFetchedFor (image name) job stock p fetched
    → IsRestored p (bytes_of fetched.bytes) (bytes_of fetched.input) epoch b → b.start.state.cursor ≤ length (bytes_of fetched.input)
    → Begins (image name) job stock b
Begins-image name job stock p fetched epoch b h r within =
    let s : State = state_of b.start.state in
    let bytes : List ℕ = bytes_of fetched.bytes in
    let input : List ℕ = bytes_of fetched.input in
    let decodes : decode_bytes (parameters_of job.config) (2 ^ 62) bytes ≡ At epoch s =
    ap (λ q. decode_bytes q (2 ^ 62) bytes) (sym h.numbers) ∙ r.decodes in
    let begins : Beginning = record { start = s; kept = Some (mark epoch s.count); blocks = blocks_of bytes } in
    record {
      program = record {
        bytes = bytes;
        input = input;
        fetched = h.both;
        begins = begins;
        means = ap (restored bytes input) decodes ∙ within_is bytes input epoch s within;
      };
      begins = beginning_is b.start b.blocks.items begins refl r.kept r.blocks;
      input = r.reads;
      origin = IsOrigin-restored (origin_for job begins input) bytes epoch (subst IsInRange h.numbers h.in_range) h.both.are_bytes
          (record { bytes = h.both.input_bytes; size = input_size stock job.input input h.both.is_input }) decodes refl;
      fits = file_is_image (parameters_of job.config) (2 ^ 62) ceiling bytes epoch s (omega arith) decodes;
    }
