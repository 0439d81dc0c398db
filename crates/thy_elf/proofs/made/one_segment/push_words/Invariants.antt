use Rattle.std.proofs.Common.{◌≡◌, ◌++◌, take}
use Rattle.std.specs.List.{flat_map}
use Rattle.thy_block.specs.Bytes.{bytes_of}
use Rattle.thy_block.specs.LittleEndian.{number_bytes}
use Rattle.thy_elf.proofs.made.one_segment.push_words.Given as goal

abbrev pub invariant-loop-word : goal.invariant-loop-word
invariant-loop-word l =
    bytes_of l.file ≡ bytes_of l.initial.file ++ flat_map (number_bytes 4) (take l.word-index l.words)
