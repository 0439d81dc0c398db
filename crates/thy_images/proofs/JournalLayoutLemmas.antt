-- What holds of every layout holds of this one.
use Rattle.std.proofs.Common.{◌≡◌, ℕ, ◌%◌, ◌<◌, ◌≤◌, List, Option, Some, None, refl, sym, ◌∙◌, ap, arith}
use Rattle.std.proofs.lemmas.Bool.{eqb-true}
use Rattle.thy_block.specs.declared.block.Block.{Block}
use Rattle.thy_block.specs.declared.parameters.Parameters.{Parameters}
use Rattle.thy_block.specs.Geometry.{memory_blocks}
use Rattle.thy_block.proofs.BasicLemmas.{some_same}
use Rattle.thy_layout.specs.AreLayouts.{Fits, HasPlaces, HasSlot, AreLayouts}
use Rattle.thy_layout.specs.Commit.{epoch_of}
use Rattle.thy_layout.specs.Entries.{entry_at, entry_of}
use Rattle.thy_layout.specs.Slots.{cpu_fault}
use Rattle.thy_layout.proofs.AskingLemmas.{half}
use Rattle.thy_layout.proofs.EntryLemmas.{entry_of-Some}
use Rattle.thy_layout.proofs.TableSlotLemmas.{slot_parts, slot_higher}
use Rattle.thy_images.specs.JournalLayout.{journal_layouts}
use Rattle.thy_images.specs.JournalPlaces.{image_blocks, place_by}
use Rattle.thy_images.specs.JournalSlots.{IsTable, table_in, table_fault, slot_fault}
use Rattle.thy_images.proofs.JournalPartsLemmas.{place_by_behind, slot_behind, slot_fits}
use Rattle.thy_images.proofs.JournalSlotLemmas.{faultless_table}

-- ---- the slot

has_slot : (p : Parameters) (commit : Block) → HasSlot (journal_layouts p) commit
has_slot p commit = record {
  record_inside = omega arith;
  most = omega arith;
  behind = omega arith;
  inside = λ n long.
      let fits = slot_fits p (epoch_of commit % 2) (half (epoch_of commit)) in
      omega (arith, eqb-true n (image_blocks p) long, fits);
}

-- ---- memory

place_once : (p : Parameters) (s : ℕ) (table : List (Option ℕ)) (a b : ℕ) (i j : Option ℕ) → a < memory_blocks p → b < memory_blocks p
    → entry_of table a ≡ i → entry_of table b ≡ j → place_by p s a i ≡ place_by p s b j → a ≡ b
place_once p s table a b None None l m e f same = omega (arith, same)
place_once p s table a b None (Some j) l m e f same = absurd (omega (arith, l, same))
place_once p s table a b (Some i) None l m e f same = absurd (omega (arith, m, same))
place_once p s table a b (Some i) (Some j) l m e f same =
    let entry : i ≡ j = omega (arith, same) in
    some_same a b (sym (entry_of-Some table a i e).is ∙ ap (entry_at table) entry ∙ (entry_of-Some table b j f).is)

has_places : (p : Parameters) (commit : Block) (slot : List Block) → Fits (journal_layouts p) commit slot
    → HasPlaces (journal_layouts p) commit slot
has_places p commit slot fits =
    let s : ℕ = epoch_of commit % 2 in
    let table : List (Option ℕ) = table_in p slot in
    let whole : IsTable p (table_in p slot) = faultless_table p fits.ceiling (epoch_of commit) slot fits.faultless in
    let there = λ (b : ℕ) (l : b < memory_blocks p).
    place_by_behind p (epoch_of commit % 2) (table_in p slot) b (entry_of (table_in p slot) b) whole (half (epoch_of commit)) l refl in
    record {
      behind = λ b l. omega (arith, (there b l).0);
      inside = λ b n l long. omega (arith, (there b l).1, eqb-true n (image_blocks p) long);
      apart = λ b k l m e.
          let before = (slot_behind p s k (half (epoch_of commit)) m).1 in
          omega (arith, (there b l).0, before, e);
      once = λ a b l m same. place_once p s table a b (entry_of table a) (entry_of table b) l m refl refl same;
    }

-- ---- all of it

cpu_fits : (p : Parameters) (ceiling epoch : ℕ) (slot : List Block) → slot_fault p ceiling epoch slot ≡ None
    → cpu_fault p ceiling slot ≡ None
unfolding slot_fault
cpu_fits p ceiling epoch slot none = (slot_parts (table_fault p (table_in p slot)) p ceiling epoch slot none).2

fits_higher : (p : Parameters) (low high epoch : ℕ) (slot : List Block) → low ≤ high → slot_fault p low epoch slot ≡ None
    → slot_fault p high epoch slot ≡ None
unfolding slot_fault
fits_higher p low high epoch slot most none = slot_higher (table_fault p (table_in p slot)) p low high epoch slot most none

pub journal_are_layouts : AreLayouts journal_layouts
journal_are_layouts = record {
  of = λ p. refl;
  number = λ p. omega arith;
  slot = has_slot;
  memory = has_places;
  longest = λ p commit n long. omega (arith, eqb-true n (image_blocks p) long);
  cpu = λ p ceiling commit slot none. cpu_fits p ceiling (epoch_of commit) slot none;
  higher = λ p low high commit slot most none. fits_higher p low high (epoch_of commit) slot most none;
}
