-- A program file is one program under each scheme.
use Rattle.std.proofs.Common.{◌≡◌, ℕ, List, [], refl, sym, ◌∙◌, ap, None, Ok, Err}
use Rattle.std.specs.Prelude.{Result}
use Rattle.thy_block.specs.declared.parameters.Parameters.{Parameters}
use Rattle.thy_block.specs.declared.parameters.SchemeName.{SchemeName}
use Rattle.thy_base.specs.Config.{parameters_of}
use Rattle.thy_block.specs.Outside.{Stock}
use Rattle.thy_elf.specs.declared.error.ElfError.{ElfError}
use Rattle.thy_elf.specs.Image.{Contents}
use Rattle.thy_plain.specs.Start.{second_regs, start_regs}
use Rattle.thy_base.specs.Settings.{Job}
use Rattle.thy_outcome.specs.Comparing.{under}
use Rattle.thy_outcome.specs.Sources.{Beginning, IsProgram, begun, file, from_entry}

-- a program file is begun over a device of zeros, from no checkpoint
pub begun_bare : (p : Parameters) (read : Result Contents ElfError) (b : Beginning) → begun p read ≡ Ok b → b.blocks ≡ []
begun_bare p (Ok contents) b is = let same : from_entry p contents ≡ b = (cc) in ap (λ (x : Beginning). x.blocks) (sym same)
begun_bare p (Err e) b is = absurd (cc)

pub begun_fresh : (p : Parameters) (read : Result Contents ElfError) (b : Beginning) → begun p read ≡ Ok b → b.kept ≡ None
begun_fresh p (Ok contents) b is = let same : from_entry p contents ≡ b = (cc) in ap (λ (x : Beginning). x.kept) (sym same)
begun_fresh p (Err e) b is = absurd (cc)

-- a program starts in the same state under each scheme
pub begun_under : (scheme : SchemeName) (job : Job) (read : Result Contents ElfError)
    → begun (parameters_of (under scheme job).config) read ≡ begun (parameters_of job.config) read
unfolding start_regs second_regs
begun_under scheme job (Ok contents) = refl
begun_under scheme job (Err e) = refl

-- what is read is the program of the job under each scheme
abbrev pub program_under : (scheme : SchemeName) (name : List ℕ) (job : Job) (stock : Stock) → IsProgram (file name) job stock
    → IsProgram (file name) (under scheme job) stock
program_under scheme name job stock p = record {
  bytes = p.bytes;
  input = p.input;
  fetched = record {
    are_bytes = p.fetched.are_bytes;
    fetched = p.fetched.fetched;
    input_bytes = p.fetched.input_bytes;
    is_input = p.fetched.is_input;
  };
  begins = p.begins;
  means = begun_under scheme job _ ∙ p.means;
}
