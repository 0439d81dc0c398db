use Rattle.std.proofs.Common.{◌≡◌, ◌-◌}
use Rattle.std.specs.List.{list_any, range_with_len}
use Rattle.thy_elf.specs.Header.{header_of}
use Rattle.thy_elf.specs.ProgramHeader.{program_header, indices_of, needs_loader}
use Rattle.thy_elf.proofs.program_header.some_needs_loader.Given as goal

abbrev pub invariant-loop-k : goal.invariant-loop-k
invariant-loop-k l =
    list_any (λ k. needs_loader (program_header l.file k)) (range_with_len l.k ((header_of l.file).count - l.k))
    ≡ list_any (λ k. needs_loader (program_header l.file k)) (indices_of l.file)
