-- What is written reads back, block by block; and which commit blocks are accepted under a header.
use Rattle.std.specs.Prelude.{◌≡◌, ℕ, ◌*◌, ◌^◌, ◌<◌, ◌≤◌, Bool, true, false, List, length, map, slice_index, Option, None}
use Rattle.thy_block.specs.declared.block.Block.{Block}
use Rattle.thy_block.specs.declared.parameters.Parameters.{Parameters}
use Rattle.thy_block.specs.Geometry.{IsInRange}
use Rattle.thy_block.specs.Places.{record_blocks}
use Rattle.thy_isa.specs.declared.state.CpuState.{CpuState}
use Rattle.thy_layout.specs.declared.layout_version.LayoutVersion.TheVariants.{VersionTwo}
use Rattle.thy_layout.specs.Commit.{commit_magic, commit_of, is_zero, epoch_of, version_of, commit_fault}
use Rattle.thy_layout.specs.Cpu.{cpu_words, record_word, BeginsWithRecord, FitsRecord, cpu_of_record, epoch_of_record}
use Rattle.thy_layout.specs.Header.{knows_version_one, header_of, header_fault}
use Rattle.thy_layout.specs.Slots.{cpu_fault}
use Rattle.thy_layout.specs.Entries.{entry_word, entry_from, HaveWords, entry_at}
use Rattle.thy_block.specs.Words.{word_of, block_of}

-- a header has no fault in an image of its length, whatever the scheme
abbrev pub HeaderReadsBack : Type 0
HeaderReadsBack =
    (scheme : ℕ) (p : Parameters) → scheme < 256 → IsInRange p → header_fault scheme (header_of scheme p) p true ≡ None

-- a commit block is not zero, names its epoch and version 2, whatever scheme and geometry, and has no fault after any
-- header
pub record CommitIsBack (epoch ceiling : ℕ) : Type 0 where
  pub committed : is_zero (commit_of epoch) ≡ false
  pub of_epoch : epoch_of (commit_of epoch) ≡ epoch
  pub of_version : (scheme : ℕ) (p : Parameters) → version_of scheme p (commit_of epoch) ≡ VersionTwo
  pub fits : (header : Block) → commit_fault header (commit_of epoch) ceiling ≡ None

abbrev pub CommitReadsBack : Type 0
CommitReadsBack = (epoch ceiling : ℕ) → epoch < ceiling → ceiling ≤ 2 ^ 64 → CommitIsBack epoch ceiling

-- if version 1 is not known, a header without a fault has only commit blocks of version 2
abbrev pub OnlyVersionTwo : Type 0
OnlyVersionTwo =
    (scheme : ℕ) (p : Parameters) (header commit : Block) (long : Bool) (ceiling : ℕ)
    → knows_version_one scheme p ≡ false → header_fault scheme header p long ≡ None → commit_fault header commit ceiling ≡ None
    → word_of commit 0 ≡ commit_magic VersionTwo

-- processor and epoch read back from a record as they were written
pub record RecordIsBack (p : Parameters) (cpu : CpuState) (epoch : ℕ) (blocks : List Block) : Type 0 where
  pub cpu_back : cpu_of_record p blocks ≡ cpu
  pub epoch_back : epoch_of_record blocks ≡ epoch

abbrev pub RecordReadsBack : Type 0
RecordReadsBack =
    (p : Parameters) (cpu : CpuState) (epoch : ℕ) (blocks : List Block)
    → FitsRecord p cpu epoch → BeginsWithRecord p cpu epoch blocks → RecordIsBack p cpu epoch blocks

-- the words of a record that has no fault are written again as they were read, whatever they say
abbrev pub RecordIsWrittenAgain : Type 0
RecordIsWrittenAgain =
    (p : Parameters) (ceiling : ℕ) (blocks : List Block) (i : ℕ)
    → IsInRange p → cpu_fault p ceiling blocks ≡ None → i < 8 * record_blocks p
    → slice_index (cpu_words (cpu_of_record p blocks) (epoch_of_record blocks)) i ≡ record_word blocks i

-- entries of a table read back from their block
abbrev pub EntriesReadBack : Type 0
EntriesReadBack =
    (entries : List (Option ℕ)) (i : ℕ)
    → HaveWords entries → i < length entries → entry_from (word_of (block_of (map entry_word entries)) i) ≡ entry_at entries i
