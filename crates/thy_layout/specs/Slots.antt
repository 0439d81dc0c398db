-- Part of the claim.
-- What every slot has: entries of tables, and the faults of the record of the processor.
use Rattle.std.specs.Prelude.{ℕ, ◌+◌, ◌-◌, List, [], ◌∷◌, map, Option}
use Rattle.std.specs.List.{range_with_len}
use Rattle.std.specs.Option.{option_or}
use Rattle.thy_block.specs.declared.block.Block.{Block}
use Rattle.thy_block.specs.declared.parameters.Parameters.{Parameters}
use Rattle.thy_block.specs.Demands.{first_fault}
use Rattle.thy_layout.specs.declared.bad_image.BadImage.{BadImage}
use Rattle.thy_layout.specs.Cpu.{record_word, epoch_demand, status_demands, second_demand}
use Rattle.thy_layout.specs.Entries.{entry_from}

-- n entries of a slot, the first of them in word `first`
abbrev pub entries_in : List Block → ℕ → ℕ → List (Option ℕ)
entries_in slot first n = map (λ i. entry_from (record_word slot (first + i))) (range_with_len 0 n)

-- the record is of another epoch than the commit block
abbrev pub epoch_fault : ℕ → List Block → Option BadImage
epoch_fault epoch slot = first_fault (epoch_demand epoch slot ∷ [])

-- status or count have no meaning, or the console is longer than its pages
abbrev pub status_fault : Parameters → ℕ → List Block → Option BadImage
status_fault p ceiling slot = first_fault (status_demands p ceiling slot)

-- with two harts the other one's words have no meaning
abbrev pub second_fault : Parameters → List Block → Option BadImage
second_fault p slot = first_fault (second_demand p slot ∷ [])

-- what is wrong with the processor, apart from its epoch
abbrev pub cpu_fault : Parameters → ℕ → List Block → Option BadImage
cpu_fault p ceiling slot = option_or (status_fault p ceiling slot) (second_fault p slot)
