-- The refusal of a table that is found is the only one that is so: it names the first entries.
use Rattle.std.proofs.Common.{◌≡◌, ℕ, List, Option, Some, None, sym, ◌∙◌, ap, arith, zero-add}
use Rattle.thy_block.specs.declared.parameters.Parameters.{Parameters}
use Rattle.thy_block.specs.Geometry.{memory_blocks}
use Rattle.thy_layout.specs.declared.bad_image.BadImage.{BadImage}
use Rattle.thy_layout.specs.declared.bad_image.BadImage.TheVariants.{TableIndex}
use Rattle.thy_layout.specs.EntryFaults.{index_rule}
use Rattle.thy_layout.specs.TableRefusals.{IsFirstWrong, Says}
use Rattle.thy_layout.proofs.EntryFaultLemmas.{unbroken, index_asks}
use Rattle.thy_layout.proofs.EntryRefusalLemmas.{first, index_breaks}
use Rattle.thy_layout.proofs.TableRefusalLemmas.{found_says, found_if_so}
use Rattle.thy_images.specs.JournalSlots.{index_fault, table_fault}
use Rattle.thy_images.specs.JournalTableRefusals.{ListsBeyond}

module _ (p : Parameters) (table : List (Option ℕ)) where
  index_names : (bad : BadImage) → index_fault p table ≡ Some bad → (i : ℕ) × (bad ≡ TableIndex i) × IsFirstWrong (ListsBeyond p table) i
  index_names bad h =
      let of = first (index_rule 0 (memory_blocks p)) table bad h in
      let broken = index_breaks 0 (memory_blocks p) of.entry of.number bad of.breaks in
      let named : bad ≡ TableIndex of.entry = sym broken.1 ∙ ap TableIndex (zero-add of.entry) in
      let is : IsFirstWrong (ListsBeyond p table) of.entry = record {
        here = record { block = of.number; lists = of.lists; over = broken.0 };
        least = λ k l there.
            let below = index_asks 0 (memory_blocks p) k there.block (of.least k there.block l there.lists) in
            let over = there.over in
            omega arith;
      } in
      (of.entry, named, is)

  none_beyond : index_fault p table ≡ None → (i : ℕ) → ListsBeyond p table i → ⊥
  none_beyond h i there =
      let below = index_asks 0 (memory_blocks p) i there.block (unbroken (index_rule 0 (memory_blocks p)) table h i there.block there.lists) in
      let over = there.over in
      omega arith

  pub table_says : (bad : BadImage) → table_fault p table ≡ Some bad → Says (ListsBeyond p table) table bad
  unfolding table_fault
  table_says bad h = found_says (ListsBeyond p table) table (index_fault p table) index_names none_beyond bad h

  pub table_found : (bad : BadImage) → Says (ListsBeyond p table) table bad → table_fault p table ≡ Some bad
  unfolding table_fault
  table_found bad s = found_if_so (ListsBeyond p table) table (index_fault p table) index_names none_beyond bad s
