use Rattle.std.proofs.Common.{◌≡◌, ◌-◌}
use Rattle.std.specs.List.{flat_map, range_with_len}
use Rattle.thy_elf.specs.Header.{header_of}
use Rattle.thy_elf.specs.ProgramHeader.{segment_demands, indices_of}
use Rattle.thy_block.specs.Demands.{first_fault}
use Rattle.thy_elf.proofs.image.segments_refusal.Given as goal

abbrev pub invariant-loop-k : goal.invariant-loop-k
invariant-loop-k l =
    first_fault (flat_map (segment_demands l.file l.base l.size) (range_with_len l.k ((header_of l.file).count - l.k)))
    ≡ first_fault (flat_map (segment_demands l.file l.base l.size) (indices_of l.file))
