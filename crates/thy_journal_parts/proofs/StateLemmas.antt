-- The log stays sound over what its calls make of it.
use Rattle.std.proofs.Common.{◌≡◌, ℕ, ◌<◌, true, List, length, Option, Some, None, refl, ◌∙◌, ap, subst, arith}
use Rattle.std.proofs.lemmas.Bool.{eq-eqb}
use Rattle.std.proofs.lemmas.List.{length-map, length-set, length-replicate}
use Rattle.thy_block.specs.declared.parameters.Parameters.{Parameters}
use Rattle.thy_block.specs.Geometry.{memory_blocks}
use Rattle.thy_dram.specs.Contents.{Contents}
use Rattle.thy_table.specs.Listing.{Listing, IsListing, entry_at, lists, free_index, added_at, added, mapped, empty_table}
use Rattle.std.specs.Option.{option_and_then}
use Rattle.thy_journal_parts.specs.declared.entry.Listed.{Listed}
use Rattle.thy_journal_parts.specs.Keys.{block_key, freed}
use Rattle.thy_journal_parts.specs.Items.{listed_by, block_listed}
use Rattle.thy_journal_parts.specs.State.{State, state_in, IsSoundState}

pub length-empty : (size numbers : ℕ) → length (empty_table {E = Listed} size numbers).entries ≡ size
length-empty size numbers = length-replicate size None

length-added_at : (o : Option ℕ) (e : Listed) (es : List (Option Listed)) → length (added_at o e es) ≡ length es
length-added_at None e es = refl
length-added_at (Some i) e es = length-set es i (Some e)

pub length-added : (e : Listed) (t : Listing Listed) → length (added e t).entries ≡ length t.entries
length-added e t = length-added_at (free_index t) e t.entries

pub length-mapped : (t : Listing Listed) → length (mapped freed t).entries ≡ length t.entries
length-mapped t = length-map t.entries (option_and_then freed)

-- the log stays sound with another table of the same size
pub IsSoundState-table : (p : Parameters) (t u : Listing Listed) (dram : Contents) → IsSoundState (state_in p t dram)
    → length u.entries ≡ length t.entries → u.numbers ≡ t.numbers → IsListing block_key u → IsSoundState (state_in p u dram)
IsSoundState-table p t u dram h long same once = record {
  range = h.range;
  size = long ∙ h.size;
  numbers = same ∙ h.numbers;
  once = once;
  dram_size = h.dram_size;
}

-- the log stays sound with another DRAM of the same size
pub IsSoundState-dram : (p : Parameters) (t : Listing Listed) (dram now : Contents) → IsSoundState (state_in p t dram)
    → length now.blocks ≡ length dram.blocks → IsSoundState (state_in p t now)
IsSoundState-dram p t dram now h long = record {
  range = h.range;
  size = h.size;
  numbers = h.numbers;
  once = h.once;
  dram_size = long ∙ h.dram_size;
}

-- what an entry lists is a block of memory
listed_inside : (s : State) (i : ℕ) (o : Option Listed) → IsSoundState s → entry_at s.table i ≡ o → listed_by o < memory_blocks s.p
listed_inside s i None h e = let range = h.range in omega arith
listed_inside s i (Some x) h e =
    let here : lists block_key x.block (entry_at s.table i) ≡ true = ap (lists block_key x.block) e ∙ eq-eqb x.block x.block refl in
    subst (λ (n : ℕ). x.block < n) h.numbers (h.once.inside i x.block here)

pub block_listed-inside : (s : State) (i : ℕ) → IsSoundState s → block_listed i s < memory_blocks s.p
block_listed-inside s i h = listed_inside s i (entry_at s.table i) h refl
