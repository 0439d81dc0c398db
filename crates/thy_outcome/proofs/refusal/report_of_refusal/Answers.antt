use Rattle.std.proofs.Common.{◌≡◌, ℕ, List, refl, sym, ◌∙◌, ap}
use Rattle.std.specs.declared.alloc.AllocError.{AllocError}
use Rattle.thy_elf.specs.declared.error.ElfError.{ElfError}
use Rattle.thy_elf.specs.declared.error.ElfError.TheVariants.{TooShort, NotElf, NotClass64, NotLittle, BadVersion, NotExec, NotRiscv, NeedsCompressed, NeedsFloat, IsRve, BadHeaderSize, TooManyHeaders, HeadersOutside, NeedsLoader, FileOverMemory, SegmentOutsideFile, SegmentOutsideMemory, Memory}
use Rattle.thy_outcome.specs.declared.refusal.Refusal.TheVariants.{File}
use Rattle.thy_outcome.specs.Answering.{file_line, report_of_refusal}
use Rattle.thy_outcome.proofs.refusal.report_of_refusal.Goals as goal

-- what is reported of a file that is refused, if memory did not run out
report_of_refusal-file : (e : ElfError) → ((x : AllocError) → e ≡ Memory x → ⊥) → report_of_refusal (File e) ≡ (4, file_line e)
report_of_refusal-file TooShort not_memory = refl
report_of_refusal-file NotElf not_memory = refl
report_of_refusal-file NotClass64 not_memory = refl
report_of_refusal-file NotLittle not_memory = refl
report_of_refusal-file BadVersion not_memory = refl
report_of_refusal-file NotExec not_memory = refl
report_of_refusal-file NotRiscv not_memory = refl
report_of_refusal-file NeedsCompressed not_memory = refl
report_of_refusal-file NeedsFloat not_memory = refl
report_of_refusal-file IsRve not_memory = refl
report_of_refusal-file BadHeaderSize not_memory = refl
report_of_refusal-file TooManyHeaders not_memory = refl
report_of_refusal-file HeadersOutside not_memory = refl
report_of_refusal-file NeedsLoader not_memory = refl
report_of_refusal-file (FileOverMemory k) not_memory = refl
report_of_refusal-file (SegmentOutsideFile k) not_memory = refl
report_of_refusal-file (SegmentOutsideMemory k) not_memory = refl
report_of_refusal-file (Memory x) not_memory = absurd (not_memory x refl)

pub returns-in_default : goal.returns-in_default
returns-in_default c =
    let reported : report_of_refusal c.args.refusal ≡ (4, file_line c.in-File.error) =
    ap report_of_refusal c.in-File.is ∙ report_of_refusal-file c.in-File.error c.in_default.not-Memory in
    record {
      status = sym (ap (λ (t : ℕ × List ℕ). t.0) reported);
      line = c.file_closing.ensures ∙ sym (ap (λ (t : ℕ × List ℕ). t.1) reported);
    }
