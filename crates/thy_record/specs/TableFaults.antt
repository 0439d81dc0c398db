-- Part of the claim.
-- The faults of tables, in the order in which they are looked for.
use Rattle.std.specs.Prelude.{ℕ, List, Option}
use Rattle.std.specs.Option.{option_or, option_map}
use Rattle.thy_block.specs.declared.parameters.Parameters.{Parameters}
use Rattle.thy_block.specs.Geometry.{memory_blocks}
use Rattle.thy_block.specs.Store.{page_of}
use Rattle.thy_layout.specs.declared.bad_image.BadImage.{BadImage}
use Rattle.thy_layout.specs.declared.bad_image.BadImage.TheVariants.{BlockUnderPage}
use Rattle.thy_layout.specs.Entries.{entry_of}
use Rattle.thy_record.specs.Tables.{Tables}
use Rattle.thy_layout.specs.EntryFaults.{first_clash, index_rule, twice_rule}

-- an entry of the block table lists a block of a page that the page table lists
abbrev pub under_rule : List (Option ℕ) → ℕ → ℕ → Option BadImage
under_rule ptt i b = option_map (λ j. BlockUnderPage i j) (entry_of ptt (page_of b))

abbrev pub index_fault : Parameters → Tables → Option BadImage
index_fault p t = option_or (first_clash (index_rule 0 (memory_blocks p)) 0 t.btt) (first_clash (index_rule p.btt p.pages) 0 t.ptt)

abbrev pub twice_fault : Parameters → Tables → Option BadImage
twice_fault p t = option_or (first_clash (twice_rule 0 t.btt) 0 t.btt) (first_clash (twice_rule p.btt t.ptt) 0 t.ptt)

abbrev pub under_fault : Tables → Option BadImage
under_fault t = first_clash (under_rule t.ptt) 0 t.btt

-- the first fault of tables
unfoldable pub tables_fault : Parameters → Tables → Option BadImage
tables_fault p t = option_or (index_fault p t) (option_or (twice_fault p t) (under_fault t))
