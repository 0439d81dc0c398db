-- A slot with one table: its faults, one after the other, and that it reads back as it was written.
use Rattle.std.proofs.Common.{◌≡◌, ℕ, ◌+◌, ◌-◌, ◌*◌, ◌/◌, ◌%◌, ◌^◌, ◌<◌, ◌≤◌, ◌==◌, if◌then◌else◌, List, length, map, take, drop, slice_index, Option, Some, None, sym, ◌∙◌, ap, subst, arith}
use Rattle.std.specs.List.{range_with_len}
use Rattle.std.specs.Option.{option_or}
use Rattle.std.proofs.lemmas.Bool.{lt-ltb, le-ltb, ne_eqb}
use Rattle.std.proofs.lemmas.List.{length-map, length-take-le, length-drop, get_or-map, get_or-take, get_or-drop, ext_get_or}
use Rattle.std.proofs.lemmas.List.FromFn.{get_or-map-range_with_len}
use Rattle.thy_block.specs.declared.block.Block.{Block}
use Rattle.thy_block.specs.declared.parameters.Parameters.{Parameters}
use Rattle.thy_block.specs.Device.{zero_block, block_at}
use Rattle.thy_block.specs.Geometry.{IsInRange, console_room}
use Rattle.thy_block.specs.Places.{record_blocks}
use Rattle.thy_block.specs.Words.{word_of}
use Rattle.thy_block.proofs.WordLemmas.{word_of-block_of}
use Rattle.thy_isa.specs.declared.state.CpuState.{CpuState}
use Rattle.thy_layout.specs.declared.bad_image.BadImage.{BadImage}
use Rattle.thy_layout.specs.declared.bad_image.BadImage.TheVariants.{Commit}
use Rattle.thy_layout.specs.Cpu.{cpu_block_of, record_word, BeginsWithRecord, cpu_of_record, IsRecordable, FitsRecord}
use Rattle.thy_layout.specs.Entries.{entry_at, entry_word, entry_from, HaveWords}
use Rattle.thy_layout.specs.Slots.{entries_in, epoch_fault, cpu_fault}
use Rattle.thy_layout.specs.TableSlots.{table_block_of, slot_block_of, table_of, slot_fault_by}
use Rattle.thy_layout.proofs.AskingLemmas.{of_epoch, cpu_fault-higher}
use Rattle.thy_layout.proofs.EntryFaultLemmas.{neither, both_none}
use Rattle.thy_layout.proofs.EntryWordLemmas.{entry_from-entry_word, entry_word-fits}
use Rattle.thy_layout.proofs.ReadBackLemmas.{FitsRecord-recordable, cpu_back}
use Rattle.thy_layout.proofs.SlotLemmas.{length-entries_in, entry_at-entries_in, epoch_fault-back, cpu_fault-back}

-- ---- its faults, as the code looks for them

pub slot_epoch : (table : Option BadImage) (p : Parameters) (ceiling epoch : ℕ) (slot : List Block) (w : ℕ) → w ≡ record_word slot 38
    → (w ≡ epoch → ⊥)
    → Some Commit ≡ slot_fault_by table p ceiling epoch slot
slot_epoch table p ceiling epoch slot w is other =
    sym (ap (λ b. option_or (if b then None else Some Commit) (option_or table (cpu_fault p ceiling slot)))
    (ap (λ x. x == epoch) (sym is) ∙ ne_eqb w epoch other))

pub slot_rest : (table found : Option BadImage) (p : Parameters) (ceiling epoch : ℕ) (slot : List Block) (w : ℕ) → w ≡ record_word slot 38
    → w ≡ epoch
    → found ≡ option_or table (cpu_fault p ceiling slot) → found ≡ slot_fault_by table p ceiling epoch slot
slot_rest table found p ceiling epoch slot w is same h =
    h ∙ sym (ap (λ x. option_or x (option_or table (cpu_fault p ceiling slot))) (of_epoch epoch slot w is same))

-- without a fault no part has one
pub slot_parts : (table : Option BadImage) (p : Parameters) (ceiling epoch : ℕ) (slot : List Block)
    → slot_fault_by table p ceiling epoch slot ≡ None
    → (epoch_fault epoch slot ≡ None) × (table ≡ None) × (cpu_fault p ceiling slot ≡ None)
slot_parts table p ceiling epoch slot none =
    let rest = neither (epoch_fault epoch slot) (option_or table (cpu_fault p ceiling slot)) none in
    let last = neither table (cpu_fault p ceiling slot) rest.1 in
    (rest.0, last.0, last.1)

-- a slot without a fault below a ceiling has none below a higher one
pub slot_higher : (table : Option BadImage) (p : Parameters) (low high epoch : ℕ) (slot : List Block) → low ≤ high
    → slot_fault_by table p low epoch slot ≡ None → slot_fault_by table p high epoch slot ≡ None
slot_higher table p low high epoch slot most none =
    let parts = slot_parts table p low epoch slot none in
    both_none _ _ parts.0 (both_none _ _ parts.1 (cpu_fault-higher p slot low high most parts.2))

-- ---- a slot that was written, whose table has n blocks

-- word m of a table, in its block m / 8
table_word : (table : List (Option ℕ)) (n m : ℕ) → length table ≡ 8 * n → HaveWords table → m < 8 * n
    → word_of (table_block_of table (m / 8)) (m % 8) ≡ entry_word (entry_at table m)
unfolding table_block_of
table_word table n m long words l =
    let whole : 8 * (m / 8) + m % 8 ≡ m = omega arith in
    let all : length (map entry_word table) ≡ 8 * n = length-map table entry_word ∙ long in
    let here : slice_index (take 8 (drop (8 * (m / 8)) (map entry_word table))) (m % 8) ≡ entry_word (entry_at table m) =
    get_or-take 8 (drop (8 * (m / 8)) (map entry_word table)) (m % 8) 0 (omega arith)
    ∙ get_or-drop (8 * (m / 8)) (map entry_word table) (m % 8) 0
    ∙ ap (slice_index (map entry_word table)) whole
    ∙ get_or-map entry_word table m None 0 (omega (arith, long)) in
    let eight : length (take 8 (drop (8 * (m / 8)) (map entry_word table))) ≡ 8
    = length-take-le 8 (drop (8 * (m / 8)) (map entry_word table)) (omega (arith, length-drop (8 * (m / 8)) (map entry_word table), all)) in
    word_of-block_of (take 8 (drop (8 * (m / 8)) (map entry_word table))) (m % 8) (omega (arith, eight))
    (subst (λ x. x < 2 ^ 64) (sym here) (entry_word-fits table m words))
    ∙ here

module _ (p : Parameters) (cpu : CpuState) (table : List (Option ℕ)) (epoch n : ℕ) (long : length table ≡ 8 * n)
    (words : HaveWords table) where
  abbrev slot : List Block
  slot = map (slot_block_of p cpu table epoch) (range_with_len 0 (record_blocks p + n))

  written : (k : ℕ) → k < record_blocks p + n → block_at slot k ≡ slot_block_of p cpu table epoch k
  written k l = get_or-map-range_with_len (slot_block_of p cpu table epoch) 0 (record_blocks p + n) k k zero_block l (omega arith)

  record_block : (k : ℕ) → k < record_blocks p → slot_block_of p cpu table epoch k ≡ cpu_block_of cpu epoch k
  record_block k l =
      ap (λ b. if b then cpu_block_of cpu epoch k else table_block_of table (k - record_blocks p)) (lt-ltb k (record_blocks p) l)

  table_block : (k : ℕ) → slot_block_of p cpu table epoch (record_blocks p + k) ≡ table_block_of table k
  table_block k =
      let e : record_blocks p + k - record_blocks p ≡ k = omega arith in
      ap (λ b. if b then cpu_block_of cpu epoch (record_blocks p + k) else table_block_of table (record_blocks p + k - record_blocks p))
      (le-ltb (record_blocks p + k) (record_blocks p) (omega arith))
      ∙ ap (table_block_of table) e

  begins : BeginsWithRecord p cpu epoch slot
  begins = record { each = λ k l. written k (omega arith) ∙ record_block k l }

  entry_back : (m : ℕ) → m < 8 * n → entry_from (record_word slot (8 * record_blocks p + m)) ≡ entry_at table m
  unfolding record_word
  entry_back m l =
      let block : (8 * record_blocks p + m) / 8 ≡ record_blocks p + m / 8 = omega arith in
      let word : (8 * record_blocks p + m) % 8 ≡ m % 8 = omega arith in
      ap entry_from (ap (λ k. word_of (block_at slot k) ((8 * record_blocks p + m) % 8)) block
      ∙ ap (word_of (block_at slot (record_blocks p + m / 8))) word
      ∙ ap (λ b. word_of b (m % 8)) (written (record_blocks p + m / 8) (omega arith) ∙ table_block (m / 8))
      ∙ table_word table n m long words l)
      ∙ entry_from-entry_word (entry_at table m)

  -- the table reads back
  pub table_back : table_of p (8 * n) slot ≡ table
  table_back =
      let same = length-entries_in slot (8 * record_blocks p) (8 * n) in
      ext_get_or None (entries_in slot (8 * record_blocks p) (8 * n)) table (same ∙ sym long)
      (λ i below.
      let l : i < 8 * n = omega (arith, same) in
      entry_at-entries_in slot (8 * record_blocks p) (8 * n) i l ∙ entry_back i l)

  module _ (ceiling : ℕ) (range : IsInRange p) (recordable : IsRecordable p ceiling cpu) (most : ceiling ≤ 2 ^ 64)
      (small : epoch < 2 ^ 64) where
    fits : FitsRecord p cpu epoch
    fits = let room : console_room p < 2 ^ 64 = omega arith in FitsRecord-recordable p ceiling cpu epoch range recordable room most small

    -- the processor reads back from a slot
    pub processor_back : cpu_of_record p slot ≡ cpu
    processor_back = cpu_back p cpu epoch slot fits begins

    -- a slot has no fault, if its table has none
    pub faultless_back : (fault : Option BadImage) → fault ≡ None → slot_fault_by fault p ceiling epoch slot ≡ None
    faultless_back fault none =
        both_none _ _ (epoch_fault-back p cpu epoch slot fits begins)
        (both_none _ _ none (cpu_fault-back p ceiling cpu epoch slot recordable fits begins))
