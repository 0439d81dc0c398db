-- The slot of a start: tables that list nothing, and counts of 0.
use Rattle.std.proofs.Common.{◌≡◌, ℕ, ◌+◌, ◌-◌, ◌*◌, ◌%◌, ◌<◌, ◌≤◌, List, ◌++◌, map, take, drop, replicate, slice_index_or, Option, None, refl, sym, ◌∙◌, ap, subst, inl, inr, arith}
use Rattle.std.proofs.lemmas.Bool.{cases_lt}
use Rattle.std.proofs.lemmas.List.{drop-replicate, take-replicate, replicate-append-replicate, length-replicate, get_or-replicate, ext_get_or}
use Rattle.std.proofs.lemmas.List.FromFn.{length-map-range_with_len, get_or-map-range_with_len}
use Rattle.thy_block.specs.declared.block.Block.{Block}
use Rattle.thy_block.specs.declared.parameters.Parameters.{Parameters}
use Rattle.thy_layout.specs.declared.layout_version.LayoutVersion.{LayoutVersion}
use Rattle.thy_layout.specs.declared.layout_version.LayoutVersion.TheVariants.{VersionTwo}
use Rattle.thy_table.specs.declared.place.Place.TheVariants.{Home}
use Rattle.thy_block.specs.Device.{zero_block}
use Rattle.thy_block.specs.Geometry.{IsInRange, memory_blocks}
use Rattle.std.specs.List.{range_with_len}
use Rattle.thy_block.specs.LittleEndian.{number_bytes}
use Rattle.thy_table.specs.Places.{number_of, table_blocks, slot_blocks}
use Rattle.thy_block.specs.Places.{record_blocks}
use Rattle.thy_record.specs.VersionSlots.{blocks_of_slot}
use Rattle.thy_block.specs.Store.{page_of}
use Rattle.thy_block.proofs.BlockLemmas.{zero_block-at}
use Rattle.thy_block.proofs.RangeLemmas.{btt_eights, ptt_eights}
use Rattle.thy_isa.specs.Step.{State, cpu_of}
use Rattle.thy_layout.specs.Entries.{entry_of}
use Rattle.thy_record.specs.Tables.{IsTables, place_by_entries, place_of}
use Rattle.thy_record.specs.TableBlocks.{table_block_of}
use Rattle.thy_block.specs.Words.{block_of}
use Rattle.thy_layout.proofs.EntryLemmas.{entry_of-absent, lists_none}
use Rattle.thy_layout.specs.Commit.{commit_of, epoch_of, version_of}
use Rattle.thy_layout.proofs.ReadBackLemmas.{epoch_of-commit_of, version_of-commit_of}
use Rattle.thy_record.specs.ImageLaws.{ReadsBack}
use Rattle.thy_record.specs.Images.{memory_numbers}
use Rattle.thy_record.specs.Number.{scheme_number}
use Rattle.thy_record.specs.Slots.{AreCounts, IsSlotOf, byte_in, slot_block_of, slot_fault}
use Rattle.thy_record.proofs.SlotLemmas.{slot_block_of-table, slot_block_of-count, tables_in-back, slot_back, table_block_of-entries}
use Rattle.thy_computer.specs.Safe.{ceiling}
use Rattle.thy_checkpoint.specs.Filling.{first_slot_of, first_by}
use Rattle.thy_checkpoint.specs.Start.{CanStart}
use Rattle.thy_thynvm_parts.specs.Filling.{filling_thynvm}
use Rattle.thy_thynvm_parts.specs.Start.{start_slot, no_tables, no_counts}

-- ---- tables that list nothing

pub IsTables-none : (p : Parameters) → IsTables p (no_tables p)
IsTables-none p = record {
  btt_length = length-replicate p.btt None;
  ptt_length = length-replicate p.ptt None;
  blocks = λ i b l. absurd (lists_none p.btt i b l);
  pages = λ j n l. absurd (lists_none p.ptt j n l);
  blocks_once = λ i k b l m. absurd (lists_none p.btt i b l);
  pages_once = λ j k n l m. absurd (lists_none p.ptt j n l);
  apart = λ i j b l m. lists_none p.btt i b l;
}

-- every block is at home in tables that list nothing
pub place_of-none : (p : Parameters) (b : ℕ) → place_of (no_tables p) b ≡ Home b
place_of-none p b =
    ap (λ (o : Option ℕ). place_by_entries o (entry_of (replicate p.ptt None) (page_of b)) b)
    (entry_of-absent (replicate p.btt None) b (λ i l. lists_none p.btt i b l))
    ∙ ap (λ (o : Option ℕ). place_by_entries None o b)
    (entry_of-absent (replicate p.ptt None) (page_of b) (λ i l. lists_none p.ptt i (page_of b) l))

-- the blocks of tables that list nothing hold zeros
pub table_block-none : (p : Parameters) (k : ℕ) → IsInRange p → k < table_blocks p
    → block_of (replicate 8 0) ≡ table_block_of (no_tables p) k
table_block-none p k r inside =
    let eights : p.btt % 8 ≡ 0 = btt_eights p r in
    let pages : p.ptt % 8 ≡ 0 = ptt_eights p r in
    let enough : 8 ≤ p.btt + p.ptt - 8 * k = omega (arith, inside, eights, pages) in
    let entries : replicate 8 None ≡ take 8 (drop (8 * k) (replicate p.btt None ++ replicate p.ptt None))
    = sym (ap (λ (xs : List (Option ℕ)). take 8 (drop (8 * k) xs)) (replicate-append-replicate p.btt p.ptt None)
    ∙ ap (take 8) (drop-replicate (8 * k) (p.btt + p.ptt) None) ∙ take-replicate 8 (p.btt + p.ptt - 8 * k) None enough) in
    table_block_of-entries (no_tables p) k (replicate 8 None) entries

pub AreCounts-none : (p : Parameters) → AreCounts p no_counts
AreCounts-none p = record {
  within = λ i l. let zero = zero_block-at (i % 64) in omega (arith, zero);
  rest = λ i m l. zero_block-at (i % 64);
}

-- read back they are 0
pub counts-none : (pages : ℕ) → map (byte_in no_counts) (range_with_len 0 pages) ≡ replicate pages 0
counts-none pages =
    let left = length-map-range_with_len (byte_in no_counts) 0 pages in
    ext_get_or 0 (map (byte_in no_counts) (range_with_len 0 pages)) (replicate pages 0) (left ∙ sym (length-replicate pages 0))
    (λ i below.
    let l : i < pages = omega (arith, left) in
    get_or-map-range_with_len (byte_in no_counts) 0 pages i i 0 l (omega arith) ∙ zero_block-at (i % 64)
    ∙ sym (get_or-replicate {A = ℕ} pages i 0 0 l))

zero_words : block_of (replicate 8 0) ≡ zero_block
unfolding block_of number_bytes zero_block
zero_words = refl

-- block k of a start's slot after the record is zeros
pub start_slot-zeros : (p : Parameters) (s : State) (k : ℕ) → IsInRange p → record_blocks p ≤ k → k < slot_blocks p
    → block_of (replicate 8 0) ≡ start_slot p s k
start_slot-zeros p s k r past inside = elim (cases_lt (k - record_blocks p) (table_blocks p)) as (λ _. block_of (replicate 8 0) ≡ start_slot p s k) [
  | inl l ↦
      let e : record_blocks p + (k - record_blocks p) ≡ k = omega arith in
      table_block-none p (k - record_blocks p) r l ∙ sym (slot_block_of-table p (cpu_of s) (no_tables p) no_counts 0 (k - record_blocks p) l)
      ∙ ap (slot_block_of p (cpu_of s) (no_tables p) no_counts 0) e
  | inr m ↦
      let e : record_blocks p + table_blocks p + (k - record_blocks p - table_blocks p) ≡ k = omega arith in
      zero_words ∙ sym (slot_block_of-count p (cpu_of s) (no_tables p) no_counts 0 (k - record_blocks p - table_blocks p))
      ∙ ap (slot_block_of p (cpu_of s) (no_tables p) no_counts 0) e
]

-- ---- its slot, read back

-- a commit block of epoch 0 is of version 2
pub start_version : (p : Parameters) → version_of scheme_number p (commit_of 0) ≡ VersionTwo
start_version p = version_of-commit_of scheme_number p 0

module _ (p : Parameters) (s : State) where
  abbrev slot : List Block
  slot = first_slot_of filling_thynvm p s

  first_slot_is : IsSlotOf p (cpu_of s) (no_tables p) no_counts 0 slot
  first_slot_is = record {
    each = λ k l. get_or-map-range_with_len (start_slot p s) 0 (blocks_of_slot (version_of scheme_number p (commit_of 0)) p) k k zero_block
        (subst (λ (f : LayoutVersion). k < blocks_of_slot f p) (sym (start_version p)) l) (omega arith);
  }

  -- memory is to go home
  pub first_memory : IsInRange p → (first_by filling_thynvm p s).parts.memory ≡ memory_numbers p (no_tables p)
  first_memory range = ap (memory_numbers p) (tables_in-back p (cpu_of s) (no_tables p) no_counts 0 slot range (IsTables-none p) first_slot_is)

  module _ (can : CanStart p s) where
    pub first_back : ReadsBack p ceiling (cpu_of s) (no_tables p) no_counts 0 slot
    first_back =
        slot_back p ceiling (cpu_of s) (no_tables p) no_counts 0 slot can.geometry can.recordable (IsTables-none p) (AreCounts-none p)
        (omega arith) (omega arith) first_slot_is

    pub first_faultless : slot_fault (version_of scheme_number p (commit_of 0)) p ceiling (epoch_of (commit_of 0)) slot ≡ None
    first_faultless =
        ap (λ (f : LayoutVersion). slot_fault f p ceiling (epoch_of (commit_of 0)) slot) (start_version p)
        ∙ ap (λ (e : ℕ). slot_fault VersionTwo p ceiling e slot) (epoch_of-commit_of 0 (omega arith)) ∙ first_back.faultless

    -- each block of a start goes to its home
    pub first_place : (b : ℕ) → b < memory_blocks p → slice_index_or (first_by filling_thynvm p s).parts.memory b 0 ≡ number_of p (Home b)
    first_place b inside =
        ap (λ (xs : List ℕ). slice_index_or xs b 0) (first_memory can.geometry)
        ∙ get_or-map-range_with_len (λ (b : ℕ). number_of p (place_of (no_tables p) b)) 0 (memory_blocks p) b b 0 inside (omega arith)
        ∙ ap (number_of p) (place_of-none p b)
