use Rattle.std.proofs.Common.{◌≡◌, ◌++◌, take}
use Rattle.std.specs.List.{flat_map}
use Rattle.thy_block.specs.Bytes.{bytes_of}
use Rattle.thy_elf.specs.MadeFile.{field_bytes}
use Rattle.thy_elf.proofs.made.one_segment.push_fields.Given as goal

abbrev pub invariant-loop-field : goal.invariant-loop-field
invariant-loop-field l =
    bytes_of l.file ≡ bytes_of l.initial.file ++ flat_map field_bytes (take l.field-index l.fields)
