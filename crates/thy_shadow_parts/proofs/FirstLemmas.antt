-- What a start writes is a slot of shadow paging without a fault, in whose map each page of memory has the page of the
-- pool with its number.
use Rattle.std.proofs.Common.{◌≡◌, ℕ, ◌%◌, ◌<◌, List, map, slice_index_or, Option, Some, None, refl, sym, ◌∙◌, ap, arith}
use Rattle.std.proofs.lemmas.List.FromFn.{get_or-map-range_with_len}
use Rattle.thy_block.specs.declared.parameters.Parameters.{Parameters}
use Rattle.thy_block.specs.Device.{Device, newest}
use Rattle.thy_block.specs.Geometry.{IsInRange, memory_blocks}
use Rattle.thy_block.specs.Store.{page_of}
use Rattle.thy_isa.specs.Step.{State as Plain, cpu_of}
use Rattle.thy_layout.specs.Commit.{epoch_of, commit_of}
use Rattle.thy_layout.specs.Cpu.{cpu_of_record}
use Rattle.thy_layout.proofs.ReadBackLemmas.{epoch_of-commit_of}
use Rattle.thy_layout.proofs.TableSlotLemmas.{table_back}
use Rattle.thy_computer.specs.Safe.{ceiling}
use Rattle.thy_checkpoint.specs.Filling.{first_slot_of, first_by}
use Rattle.thy_checkpoint.specs.Start.{CanStart}
use Rattle.thy_images.specs.ShadowPlaces.{map_blocks, pool_place, pool_page, place_of}
use Rattle.thy_images.specs.ShadowSlots.{IsMap, table_in, slot_fault}
use Rattle.thy_images.specs.ShadowCheckpointParts.{memory_places, ReadsBack}
use Rattle.thy_images.proofs.ShadowSlotLemmas.{HaveWords-map, slot_reads_back}
use Rattle.thy_shadow_parts.specs.Holding.{works}
use Rattle.thy_shadow_parts.specs.State.{State}
use Rattle.thy_shadow_parts.proofs.TableLemmas.{IsMap-table_by, listed_at-table_by, entry_page}
use Rattle.thy_shadow_parts.specs.Filling.{IsFresh, first_table, filling_shadow}
use Rattle.thy_shadow_parts.proofs.ListLemmas.{works_stand}

-- ---- the map of a start

pub IsMap-first : (p : Parameters) → IsMap p (first_table p)
IsMap-first p = IsMap-table_by p (λ x. Some x) (record {
  there = λ x l. refl;
  inside = λ x q l is. let same : x ≡ q = cc in omega (arith, l, same);
  apart = λ x y q l m a b. let one : x ≡ q = cc in let two : y ≡ q = cc in one ∙ sym two;
})

place_first : (p : Parameters) (b : ℕ) → b < memory_blocks p → place_of p (first_table p) b ≡ pool_place p (page_of b) (b % 64)
place_first p b l =
    let low : page_of b < p.pages = omega arith in
    ap (λ (e : Option ℕ). pool_place p (pool_page e) (b % 64))
    (listed_at-table_by p (λ x. Some x) (page_of b) (omega (arith, low)) ∙ entry_page p (λ x. Some x) (page_of b) low)

-- ---- its slot

module _ (p : Parameters) (s : Plain) (h : CanStart p s) where
  reads_back : ReadsBack p ceiling (cpu_of s) (first_table p) 0 (first_slot_of filling_shadow p s)
  reads_back = slot_reads_back p ceiling (cpu_of s) (first_table p) 0 h.geometry h.recordable (IsMap-first p) (omega arith) (omega arith)

  pub start_fits : slot_fault p ceiling (epoch_of (commit_of 0)) (first_slot_of filling_shadow p s) ≡ None
  start_fits =
      ap (λ (e : ℕ). slot_fault p ceiling e (first_slot_of filling_shadow p s)) (epoch_of-commit_of 0 (omega arith)) ∙ reads_back.faultless

  pub start_cpu : cpu_of_record p (first_slot_of filling_shadow p s) ≡ cpu_of s
  start_cpu = reads_back.cpu_back

module _ (p : Parameters) (s : Plain) (range : IsInRange p) where
  pub table_first : table_in p (first_slot_of filling_shadow p s) ≡ first_table p
  table_first =
      table_back p (cpu_of s) (first_table p) 0 (map_blocks p) (IsMap-first p).long (HaveWords-map p (first_table p) range (IsMap-first p))

  pub place_at : (b : ℕ) → b < memory_blocks p
      → slice_index_or (first_by filling_shadow p s).parts.memory b 0 ≡ pool_place p (page_of b) (b % 64)
  place_at b inside =
      get_or-map-range_with_len (place_of p (table_in p (first_slot_of filling_shadow p s))) 0 (memory_blocks p) b b 0 inside (omega arith)
      ∙ ap (λ (t : List (Option ℕ)). place_of p t b) table_first
      ∙ place_first p b inside

-- ---- a pool whose power has just come on

pub fresh_loads : (s : State) (n : Device) (start : Plain) → IsFresh s
    → works s n ≡ map (newest n) (first_by filling_shadow s.p start).parts.memory
fresh_loads s n start h =
    works_stand s n h.unframed
    ∙ ap (λ (t : List (Option ℕ)). map (newest n) (memory_places s.p t)) (h.first ∙ sym (table_first s.p start h.unframed.state.range))
