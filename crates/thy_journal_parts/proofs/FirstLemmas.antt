-- What a start writes is a slot of the journal without a fault, whose table lists nothing.
use Rattle.std.proofs.Common.{◌≡◌, ℕ, ◌*◌, ◌/◌, ◌%◌, ◌<◌, List, map, slice_index_or, Option, None, sym, ◌∙◌, ap, arith}
use Rattle.std.specs.List.{range_with_len}
use Rattle.std.proofs.lemmas.List.{length-replicate}
use Rattle.std.proofs.lemmas.List.FromFn.{get_or-map-range_with_len}
use Rattle.std.proofs.lemmas.Simd.{map-map}
use Rattle.thy_block.specs.declared.parameters.Parameters.{Parameters}
use Rattle.thy_block.specs.Device.{Device, newest}
use Rattle.thy_block.specs.Geometry.{IsInRange, memory_blocks}
use Rattle.thy_block.proofs.RangeLemmas.{btt_eights}
use Rattle.thy_isa.specs.Step.{State as Plain, cpu_of}
use Rattle.thy_layout.specs.Commit.{epoch_of, commit_of}
use Rattle.thy_layout.specs.Cpu.{cpu_of_record}
use Rattle.thy_layout.proofs.EntryLemmas.{entry_of-absent, lists_none}
use Rattle.thy_layout.proofs.AskingLemmas.{map-alike}
use Rattle.thy_layout.specs.TableSlots.{table_of}
use Rattle.thy_layout.proofs.ReadBackLemmas.{epoch_of-commit_of}
use Rattle.thy_layout.proofs.TableSlotLemmas.{table_back}
use Rattle.thy_computer.specs.Safe.{ceiling}
use Rattle.thy_table.specs.Listing.{lists}
use Rattle.thy_table.proofs.ListingLaws.{index_of-none}
use Rattle.thy_checkpoint.specs.Filling.{first_slot_of, first_by}
use Rattle.thy_checkpoint.specs.Start.{CanStart}
use Rattle.thy_images.specs.JournalPlaces.{home_place, place_by, place_of}
use Rattle.thy_images.specs.JournalSlots.{IsTable, table_in, slot_fault}
use Rattle.thy_images.specs.JournalLayout.{journal_layouts}
use Rattle.thy_images.specs.JournalCheckpointParts.{ReadsBack}
use Rattle.thy_images.proofs.JournalSlotLemmas.{HaveWords-table, slot_reads_back}
use Rattle.thy_journal_parts.specs.Holding.{works}
use Rattle.thy_journal_parts.specs.Keys.{block_key}
use Rattle.thy_journal_parts.specs.State.{State, entry_for, work_by, work_of}
use Rattle.thy_journal_parts.specs.Filling.{IsFresh, no_table, filling_journal}

pub IsTable-none : (p : Parameters) → IsTable p (no_table p)
IsTable-none p = record {
  long = length-replicate p.btt None;
  blocks = λ i b l. absurd (lists_none p.btt i b l);
  once = λ i k b l m. absurd (lists_none p.btt i b l);
}

-- ---- the start's slot

module _ (p : Parameters) (s : Plain) (h : CanStart p s) where
  reads_back : ReadsBack p ceiling (cpu_of s) (no_table p) 0 (first_slot_of filling_journal p s)
  reads_back = slot_reads_back p ceiling (cpu_of s) (no_table p) 0 h.geometry h.recordable (IsTable-none p) (omega arith) (omega arith)

  pub start_fits : slot_fault p ceiling (epoch_of (commit_of 0)) (first_slot_of filling_journal p s) ≡ None
  start_fits =
      ap (λ (e : ℕ). slot_fault p ceiling e (first_slot_of filling_journal p s)) (epoch_of-commit_of 0 (omega arith)) ∙ reads_back.faultless

  pub start_cpu : cpu_of_record p (first_slot_of filling_journal p s) ≡ cpu_of s
  start_cpu = reads_back.cpu_back

module _ (p : Parameters) (s : Plain) (range : IsInRange p) where
  pub table_first : table_in p (first_slot_of filling_journal p s) ≡ no_table p
  table_first =
      let eights : 8 * (p.btt / 8) ≡ p.btt = omega (arith, btt_eights p range) in
      ap (λ (n : ℕ). table_of p n (first_slot_of filling_journal p s)) (sym eights)
      ∙ table_back p (cpu_of s) (no_table p) 0 (p.btt / 8) ((IsTable-none p).long ∙ sym eights)
      (HaveWords-table p (no_table p) range (IsTable-none p))

  -- every block of a start is at home
  abbrev pub place_first : ℕ → ℕ
  place_first b = (journal_layouts p).place (commit_of 0) (first_slot_of filling_journal p s) b

  pub place_home : (b : ℕ) → place_first b ≡ home_place p b
  place_home b =
      let x : ℕ = epoch_of (commit_of 0) % 2 in
      ap (λ (t : List (Option ℕ)). place_of p x t b) table_first
      ∙ ap (place_by p x b) (entry_of-absent (no_table p) b (λ i l. lists_none p.btt i b l))

  pub home_at : (b : ℕ) → b < memory_blocks p → slice_index_or (first_by filling_journal p s).parts.memory b 0 ≡ home_place p b
  home_at b inside = get_or-map-range_with_len place_first 0 (memory_blocks p) b b 0 inside (omega arith) ∙ place_home b

-- ---- a log that lists nothing

pub entry_for-fresh : (s : State) (b : ℕ) → IsFresh s → entry_for s b ≡ None
entry_for-fresh s b h = index_of-none block_key s.table b (λ i. ap (lists block_key b) (h.free i))

pub fresh_loads : (s : State) (n : Device) (start : Plain) → IsFresh s
    → works s n ≡ map (newest n) (first_by filling_journal s.p start).parts.memory
fresh_loads s n start h =
    let range : IsInRange s.p = h.state.range in
    let place : ℕ → ℕ = place_first s.p start range in
    let blocks : List ℕ = range_with_len 0 (memory_blocks s.p) in
    map-alike (work_of s n) (λ (b : ℕ). newest n (place b)) blocks
    (λ b inside. ap (work_by s n b) (entry_for-fresh s b h) ∙ ap (newest n) (sym (place_home s.p start range b)))
    ∙ sym (map-map (newest n) place blocks)
