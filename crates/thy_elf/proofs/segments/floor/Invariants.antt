use Rattle.std.proofs.Common.{◌≡◌, ◌+◌, ◌-◌, ◌≤◌}
use Rattle.std.specs.List.{fold, range_with_len}
use Rattle.thy_elf.specs.Header.{header_of}
use Rattle.thy_elf.specs.Image.{reached}
use Rattle.thy_elf.specs.ProgramHeader.{indices_of}
use Rattle.thy_elf.proofs.segments.floor.Given as goal

abbrev pub invariant-loop-k : goal.invariant-loop-k
invariant-loop-k l = record {
  end : fold (reached l.file) l.end (range_with_len l.k ((header_of l.file).count - l.k)) ≡ fold (reached l.file) l.base (indices_of l.file);
  within : l.end ≤ l.base + l.size;
}
