use Rattle.std.proofs.Common.{◌≡◌, ◌-◌, length}
use Rattle.std.specs.List.{fold, range_with_len}
use Rattle.thy_elf.specs.Header.{header_of}
use Rattle.thy_elf.specs.Image.{with_segment}
use Rattle.thy_elf.specs.ProgramHeader.{indices_of}
use Rattle.thy_elf.proofs.segments.write_segments.Given as goal

abbrev pub invariant-loop-k : goal.invariant-loop-k
invariant-loop-k l = record {
  memory : fold (with_segment l.file l.base) l.memory (range_with_len l.k ((header_of l.file).count - l.k))
      ≡ fold (with_segment l.file l.base) l.initial.memory (indices_of l.file);
  len : length l.memory ≡ l.size;
}
