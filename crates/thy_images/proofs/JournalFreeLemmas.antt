-- Which writes leave a checkpoint alone.
use Rattle.std.proofs.Common.{◌≡◌, ◌≢◌, ℕ, zero, suc, ◌+◌, ◌*◌, ◌%◌, ◌<◌, ◌≤◌, List, ◌∷◌, Contains, Option, Some, None, refl, sym, ◌∙◌, ap, subst, arith}
use Rattle.thy_block.specs.declared.block.Block.{Block}
use Rattle.thy_block.specs.declared.parameters.Parameters.{Parameters}
use Rattle.thy_block.specs.Device.{block_at}
use Rattle.thy_block.specs.Geometry.{memory_blocks}
use Rattle.thy_block.proofs.BasicLemmas.{Contains-range}
use Rattle.thy_layout.specs.Commit.{epoch_of}
use Rattle.thy_layout.specs.Entries.{Lists, entry_of}
use Rattle.thy_layout.proofs.EntryLemmas.{entry_of-Some, entry_of-None, Lists-inside}
use Rattle.thy_layout.proofs.AskingLemmas.{half}
use Rattle.thy_layout.specs.Layout.{Layout, slot_places, memory_places as places_by, slot_in, looked_by}
use Rattle.thy_layout.proofs.LookedLemmas.{not_looked}
use Rattle.thy_images.specs.JournalPlaces.{slot_blocks, slot_place, first_home, place_by}
use Rattle.thy_images.specs.JournalSlots.{IsTable, table_in}
use Rattle.thy_images.specs.JournalLayout.{journal_layouts}
use Rattle.thy_images.specs.JournalCheckpointParts.{memory_places, HoldsCheckpoint}
use Rattle.thy_images.specs.JournalFree.{Target, SlotBlock, JournalBlock, HomeBlock, target_place, IsTarget, IsFree}
use Rattle.thy_images.proofs.JournalPartsLemmas.{memory_place_of, place_by_behind, slot_behind}

-- ---- places are apart

target_behind : (p : Parameters) (x : Target) → IsTarget p x → 2 ≤ target_place p x
target_behind p (SlotBlock s k) there = (slot_behind p s k there.0 there.1).0
target_behind p (JournalBlock s i) there = omega arith
target_behind p (HomeBlock b) there = omega arith

-- a place in one of two rows of the same size is none in the other
rows_apart : (size s r k i : ℕ) → s < 2 → r < 2 → k < size → i < size → s ≢ r
    → s * size + k ≢ r * size + i
rows_apart size zero zero k i l m n o other = λ e. other refl
rows_apart size zero (suc zero) k i l m n o other = λ e. omega arith
rows_apart size (suc zero) zero k i l m n o other = λ e. omega arith
rows_apart size (suc zero) (suc zero) k i l m n o other = λ e. other refl
rows_apart size (suc (suc s)) r k i l m n o other = absurd (omega arith)
rows_apart size zero (suc (suc r)) k i l m n o other = absurd (omega arith)
rows_apart size (suc zero) (suc (suc r)) k i l m n o other = absurd (omega arith)

-- ---- what is free is not looked at

free_of_slot : (p : Parameters) (epoch : ℕ) (table : List (Option ℕ)) (x : Target) → IsTarget p x → IsFree epoch table x
    → (k : ℕ) → k < slot_blocks p → slot_place p (epoch % 2) + k ≢ target_place p x
free_of_slot p epoch table (SlotBlock s i) there free k l = λ e.
    rows_apart (slot_blocks p) (epoch % 2) s k i (half epoch) there.0 l there.1
    (λ same. free (sym same)) (omega (arith, e))
free_of_slot p epoch table (JournalBlock s i) there free k l = λ e.
    let before = (slot_behind p (epoch % 2) k (half epoch) l).1 in
    omega (arith, before, e)
free_of_slot p epoch table (HomeBlock b) there free k l = λ e.
    let before = (slot_behind p (epoch % 2) k (half epoch) l).1 in
    omega (arith, before, e)

free_by : (p : Parameters) (epoch : ℕ) (table : List (Option ℕ)) (x : Target) (b : ℕ) (found : Option ℕ)
    → IsTable p table → IsTarget p x → IsFree epoch table x → b < memory_blocks p → entry_of table b ≡ found
    → first_home p ≤ place_by p (epoch % 2) b found → place_by p (epoch % 2) b found ≢ target_place p x
free_by p epoch table (SlotBlock s k) b found h there free l is behind = λ e.
    let before = (slot_behind p s k there.0 there.1).1 in
    omega (arith, before, behind, e)
free_by p epoch table (JournalBlock s i) b None h there free l is behind = λ e. omega (arith, e, l)
free_by p epoch table (JournalBlock s i) b (Some j) h there free l is behind =
    let inside = Lists-inside table j b (entry_of-Some table b j is) in
    λ e. rows_apart p.btt (epoch % 2) s j i (half epoch) there.0 (omega (arith, inside, h.long))
    there.1 (λ same. free (sym same)) (omega (arith, e))
free_by p epoch table (HomeBlock c) b None h there free l is behind = λ e.
    let same : c ≡ b = omega (arith, e) in
    entry_of-None table b free.0 is (subst (Lists table free.0) same free.1)
free_by p epoch table (HomeBlock c) b (Some j) h there free l is behind = λ e. omega (arith, e, there)

free_of_memory : (p : Parameters) (epoch : ℕ) (table : List (Option ℕ)) (x : Target) → IsTable p table → IsTarget p x → IsFree epoch table x
    → Contains (memory_places p (epoch % 2) table) (target_place p x) → ⊥
free_of_memory p epoch table x h there free inside =
    let of = memory_place_of p (epoch % 2) table (target_place p x) inside in
    let behind =
    (place_by_behind p (epoch % 2) table of.0 (entry_of table of.0) h (half epoch) of.1 refl).0 in
    free_by p epoch table x of.0 (entry_of table of.0) h there free of.1 refl behind of.2

module _ (p : Parameters) (image : List Block) (epoch : ℕ) (table : List (Option ℕ)) (x : Target)
    (meant : HoldsCheckpoint p image epoch table) (there : IsTarget p x) (free : IsFree epoch table x) where
  abbrev l : Layout
  l = journal_layouts p

  places_are : places_by l (block_at image 1) (slot_in l image) ≡ memory_places p (epoch % 2) table
  places_are =
      ap (λ (e : ℕ). memory_places p (e % 2) (table_in p (slot_in l image))) meant.of_epoch
      ∙ ap (memory_places p (epoch % 2)) meant.table_is

  not_in_slot : Contains (slot_places l (block_at image 1)) (target_place p x) → ⊥
  not_in_slot inside =
      let of = Contains-range (slot_place p (epoch_of (block_at image 1) % 2)) (slot_blocks p) (target_place p x) inside in
      free_of_slot p epoch table x there free of.0 of.1 (sym (ap (λ (e : ℕ). slot_place p (e % 2) + of.0) meant.of_epoch) ∙ of.2)

  not_in_memory : Contains (places_by l (block_at image 1) (slot_in l image)) (target_place p x) → ⊥
  not_in_memory inside =
      free_of_memory p epoch table x meant.whole there free (subst (λ (xs : List ℕ). Contains xs (target_place p x)) places_are inside)

  pub free_not_looked : Contains (1 ∷ looked_by l image) (target_place p x) → ⊥
  free_not_looked inside = not_looked l image (target_place p x) (target_behind p x there) not_in_slot not_in_memory inside
