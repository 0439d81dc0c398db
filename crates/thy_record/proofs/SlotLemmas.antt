-- A slot that was written reads back, and has no fault; and what an image decodes to, by its parts.
use Rattle.std.proofs.Common.{◌≡◌, ℕ, ◌+◌, ◌-◌, ◌*◌, ◌/◌, ◌%◌, ◌^◌, ◌<◌, ◌≤◌, List, ◌++◌, length, map, take, drop, slice_index, slice_index_or, Option, None, sym, ◌∙◌, ap, subst, inl, inr, arith}
use Rattle.std.proofs.lemmas.Bool.{cases_lt, lt-ltb, le-ltb}
use Rattle.std.proofs.lemmas.List.{length-map, length-append, length-take-le, length-drop, get_or-map, get_or-take, get_or-drop, get_or_append_left, get_or-append-add, ext_get_or, take-map, drop-map}
use Rattle.std.specs.List.{range_with_len}
use Rattle.std.specs.Option.{option_map, option_or}
use Rattle.thy_block.specs.declared.block.Block.{Block}
use Rattle.thy_block.specs.declared.parameters.Parameters.{Parameters}
use Rattle.thy_layout.specs.declared.layout_version.LayoutVersion.TheVariants.{VersionTwo}
use Rattle.thy_block.specs.Device.{block_at}
use Rattle.thy_block.specs.Geometry.{IsInRange, console_room}
use Rattle.thy_block.specs.Places.{record_blocks}
use Rattle.thy_table.specs.Places.{table_blocks, count_blocks, slot_place}
use Rattle.thy_isa.specs.declared.state.CpuState.{CpuState}
use Rattle.thy_layout.specs.declared.bad_image.BadImage.TheVariants.{Count}
use Rattle.thy_record.specs.ImageLaws.{ReadsBack, HasCheckpoint}
use Rattle.thy_block.specs.Words.{word_of, block_of}
use Rattle.thy_layout.specs.Cpu.{cpu_block_of, record_word, BeginsWithRecord, IsRecordable}
use Rattle.thy_layout.specs.Entries.{entry_at, Lists, entry_word, entry_from}
use Rattle.thy_record.specs.Tables.{Tables, IsTables}
use Rattle.thy_record.specs.TableBlocks.{FitBlocks, table_words, table_block_of}
use Rattle.thy_record.specs.TableFaults.{tables_fault}
use Rattle.thy_layout.specs.Slots.{entries_in, epoch_fault, status_fault, second_fault, cpu_fault}
use Rattle.thy_record.specs.Slots.{slot_block_of, IsSlotOf, HasTableBlocks, tables_in, byte_in, AreCounts, count_byte, counts_in, is_bad_count, count_fault, slot_fault, rest_fault}
use Rattle.thy_block.proofs.WordLemmas.{word_of-block_of}
use Rattle.thy_layout.proofs.ReadBackLemmas.{FitsRecord-recordable, cpu_back, epoch_of-commit_of, version_of-commit_of, commit_fault-commit_of, is_zero-commit_of}
use Rattle.thy_record.proofs.CountLemmas.{map-alike_numbers, no_position, fine_count}
use Rattle.thy_layout.proofs.EntryWordLemmas.{entry_from-entry_word, entry_word-fits}
use Rattle.thy_layout.proofs.EntryFaultLemmas.{both_none, neither}
use Rattle.thy_record.proofs.TableFaultLemmas.{IsFaultless-tables, IsTables-faultless}
use Rattle.thy_block.proofs.RangeLemmas.{btt_eights, ptt_eights}
use Rattle.thy_layout.proofs.SlotLemmas.{length-entries_in, entry_at-entries_in, epoch_fault-back, status_fault-back, second_fault-back}
use Rattle.thy_layout.specs.declared.layout_version.LayoutVersion.{LayoutVersion}
use Rattle.thy_record.specs.VersionSlots.{blocks_of_slot, place_of_slot}
use Rattle.thy_block.proofs.BasicLemmas.{all_none}
use Rattle.thy_isa.specs.Step.{State}
use Rattle.thy_isa.specs.OnBlocks.{state_from}
use Rattle.thy_layout.specs.Commit.{is_zero, epoch_of, version_of, commit_fault}
use Rattle.thy_layout.specs.Decoded.{At}
use Rattle.thy_layout.specs.Header.{header_fault}
use Rattle.thy_layout.specs.Layout.{blocks_at}
use Rattle.thy_record.specs.Number.{scheme_number}
use Rattle.thy_layout.proofs.AskingLemmas.{block_at-numbers, status_fault-higher}
use Rattle.thy_layout.proofs.LayoutLemmas.{sized_if_long, decode_by-whole, decoded_parts}
use Rattle.thy_record.specs.ThynvmLayouts.{thynvm_layouts, decode_image}
use Rattle.thy_record.specs.Images.{slot_in, memory_numbers}

-- eight entries of the tables are a block of them
pub table_block_of-entries : (t : Tables) (k : ℕ) (entries : List (Option ℕ)) → entries ≡ take 8 (drop (8 * k) (t.btt ++ t.ptt))
    → block_of (map entry_word entries) ≡ table_block_of t k
unfolding table_block_of
table_block_of-entries t k entries is =
    ap (λ es. block_of (map entry_word es)) is
    ∙ ap block_of (sym (take-map entry_word 8 (drop (8 * k) (t.btt ++ t.ptt))) ∙ ap (take 8) (sym (drop-map entry_word (8 * k) (t.btt ++ t.ptt))))

-- ---- a slot

-- ---- which block is which

module _ (p : Parameters) (cpu : CpuState) (t : Tables) (counts : ℕ → Block) (epoch : ℕ) where
  pub slot_block_of-record : (k : ℕ) → k < record_blocks p → slot_block_of p cpu t counts epoch k ≡ cpu_block_of cpu epoch k
  slot_block_of-record k l = cc (lt-ltb k (record_blocks p) l)

  pub slot_block_of-table : (k : ℕ) → k < table_blocks p → slot_block_of p cpu t counts epoch (record_blocks p + k) ≡ table_block_of t k
  slot_block_of-table k l =
      let e : record_blocks p + k - record_blocks p ≡ k = omega arith in
      cc (
        le-ltb (record_blocks p + k) (record_blocks p) (omega arith),
        lt-ltb (record_blocks p + k)
            (record_blocks p + table_blocks p) (omega arith),
      )

  pub slot_block_of-count : (k : ℕ) → slot_block_of p cpu t counts epoch (record_blocks p + table_blocks p + k) ≡ counts k
  slot_block_of-count k =
      let at : ℕ = record_blocks p + table_blocks p + k in
      let e : record_blocks p + table_blocks p + k - (record_blocks p + table_blocks p) ≡ k = omega arith in
      cc (
        le-ltb at (record_blocks p) (omega arith),
        le-ltb at (record_blocks p + table_blocks p)
            (omega arith),
      )

  pub BeginsWithRecord-slot : (slot : List Block) → IsSlotOf p cpu t counts epoch slot → BeginsWithRecord p cpu epoch slot
  BeginsWithRecord-slot slot s = record {
    each = λ k l. s.each k (omega arith) ∙ slot_block_of-record k l;
  }

-- ---- the tables

-- each entry of both tables has a word
both_fit : (p : Parameters) (t : Tables) (m n : ℕ) → FitBlocks p t → Lists (t.btt ++ t.ptt) m n → n < 2 ^ 64 - 1
both_fit p t m n fit l = elim (cases_lt m (length t.btt)) as (λ _. n < 2 ^ 64 - 1) [
  | inl low ↦ fit.btt.each m n (record { is = sym (get_or_append_left t.btt t.ptt None m low) ∙ l.is })
  | inr high ↦
      let e : length t.btt + (m - length t.btt) ≡ m = omega arith in
      fit.ptt.each (m - length t.btt) n
      (record { is = sym (get_or-append-add t.btt t.ptt (m - length t.btt) None) ∙ ap (entry_at (t.btt ++ t.ptt)) e ∙ l.is })
]

-- word m of the tables, in their block m / 8
table_word : (p : Parameters) (t : Tables) (m : ℕ) → IsInRange p → FitBlocks p t → m < p.btt + p.ptt
    → word_of (table_block_of t (m / 8)) (m % 8) ≡ entry_word (entry_at (t.btt ++ t.ptt) m)
unfolding table_block_of
table_word p t m r fit l =
    let words = table_words t in
    let all : length (table_words t) ≡ p.btt + p.ptt =
    omega (arith, length-map (t.btt ++ t.ptt) entry_word, length-append t.btt t.ptt, fit.btt_length, fit.ptt_length) in
    let whole : 8 * (m / 8) + m % 8 ≡ m = omega arith in
    let here : slice_index (take 8 (drop (8 * (m / 8)) (table_words t))) (m % 8) ≡ entry_word (entry_at (t.btt ++ t.ptt) m) =
    get_or-take 8 (drop (8 * (m / 8)) (table_words t)) (m % 8) 0 (omega arith)
    ∙ get_or-drop (8 * (m / 8)) (table_words t) (m % 8) 0
    ∙ ap (slice_index (table_words t)) whole
    ∙ get_or-map entry_word (t.btt ++ t.ptt) m None 0 (omega (arith, length-append t.btt t.ptt, fit.btt_length, fit.ptt_length)) in
    let btt8 : p.btt % 8 ≡ 0 = btt_eights p r in
    let ptt8 : p.ptt % 8 ≡ 0 = ptt_eights p r in
    let eight : length (take 8 (drop (8 * (m / 8)) (table_words t))) ≡ 8
    = length-take-le 8 (drop (8 * (m / 8)) (table_words t)) (omega (arith, length-drop (8 * (m / 8)) (table_words t), all)) in
    word_of-block_of (take 8 (drop (8 * (m / 8)) (table_words t))) (m % 8) (omega (arith, eight))
    (subst (λ x. x < 2 ^ 64) (sym here) (entry_word-fits (t.btt ++ t.ptt) m (record { each = λ i n listed. both_fit p t i n fit listed })))
    ∙ here

-- an entry reads back from the slot
entry_back : (p : Parameters) (t : Tables) (slot : List Block) (m : ℕ)
    → IsInRange p → FitBlocks p t → HasTableBlocks p t slot → m < p.btt + p.ptt
    → entry_from (record_word slot (8 * record_blocks p + m)) ≡ entry_at (t.btt ++ t.ptt) m
unfolding record_word
entry_back p t slot m r fit of l =
    let btt8 : p.btt % 8 ≡ 0 = btt_eights p r in
    let ptt8 : p.ptt % 8 ≡ 0 = ptt_eights p r in
    let block : (8 * record_blocks p + m) / 8 ≡ record_blocks p + m / 8 = omega arith in
    let word : (8 * record_blocks p + m) % 8 ≡ m % 8 = omega arith in
    ap entry_from (ap (λ k. word_of (block_at slot k) ((8 * record_blocks p + m) % 8)) block
    ∙ ap (word_of (block_at slot (record_blocks p + m / 8))) word
    ∙ ap (λ b. word_of b (m % 8)) (of.each (m / 8) (omega arith))
    ∙ table_word p t m r fit l)
    ∙ entry_from-entry_word (entry_at (t.btt ++ t.ptt) m)

entries_back : (slot : List Block) (first n : ℕ) (table : List (Option ℕ)) → length table ≡ n
    → ((i : ℕ) → i < n → entry_from (record_word slot (first + i)) ≡ entry_at table i) → entries_in slot first n ≡ table
entries_back slot first n table long each =
    let same = length-entries_in slot first n in
    ext_get_or None (entries_in slot first n) table (same ∙ sym long)
    (λ i below. let l : i < n = omega (arith, same) in entry_at-entries_in slot first n i l ∙ each i l)

-- tables are the same if both their parts are
pub tables_alike : (a b c d : List (Option ℕ)) → a ≡ c → b ≡ d
    → (let t : Tables = record { btt = a; ptt = b } in t) ≡ (let u : Tables = record { btt = c; ptt = d } in u)
tables_alike a b c d h k = cc

-- tables read back as they were written
pub tables_back : (p : Parameters) (t : Tables) (slot : List Block)
    → IsInRange p → FitBlocks p t → HasTableBlocks p t slot → tables_in p slot ≡ t
tables_back p t slot r fit of =
    tables_alike (entries_in slot (8 * record_blocks p) p.btt) (entries_in slot (8 * record_blocks p + p.btt) p.ptt) t.btt t.ptt
    (entries_back slot (8 * record_blocks p) p.btt t.btt fit.btt_length (λ i l.
    entry_back p t slot i r fit of (omega arith)
    ∙ get_or_append_left t.btt t.ptt None i (omega (arith, fit.btt_length))))
    (entries_back slot (8 * record_blocks p + p.btt) p.ptt t.ptt fit.ptt_length (λ j l.
    let at : 8 * record_blocks p + p.btt + j ≡ 8 * record_blocks p + (p.btt + j) = omega arith in
    let from : p.btt + j ≡ length t.btt + j = omega (arith, fit.btt_length) in
    ap (λ x. entry_from (record_word slot x)) at
    ∙ entry_back p t slot (p.btt + j) r fit of (omega arith)
    ∙ ap (entry_at (t.btt ++ t.ptt)) from
    ∙ get_or-append-add t.btt t.ptt j None))

-- a checkpoint's tables fit their blocks
pub FitBlocks-tables : (p : Parameters) (t : Tables) → IsInRange p → IsTables p t → FitBlocks p t
FitBlocks-tables p t r s = record {
  btt_length = s.btt_length;
  ptt_length = s.ptt_length;
  btt = record { each = λ i n l. let small = s.blocks i n l in omega arith };
  ptt = record { each = λ i n l. let small = s.pages i n l in omega arith };
}

module _ (p : Parameters) (cpu : CpuState) (t : Tables) (counts : ℕ → Block) (epoch : ℕ) (slot : List Block) where
  pub tables_in-back : IsInRange p → IsTables p t → IsSlotOf p cpu t counts epoch slot → tables_in p slot ≡ t
  tables_in-back r s of =
      tables_back p t slot r (FitBlocks-tables p t r s)
      (record { each = λ k l. of.each (record_blocks p + k) (omega arith) ∙ slot_block_of-table p cpu t counts epoch k l })

  -- ---- the counts

  count_byte-back : (i : ℕ) → IsSlotOf p cpu t counts epoch slot → i < 64 * count_blocks p → count_byte p slot i ≡ byte_in counts i
  count_byte-back i of l =
      ap (λ (b : Block). slice_index_or b.0 (i % 64) 0)
      (of.each (record_blocks p + table_blocks p + i / 64) (omega arith) ∙ slot_block_of-count p cpu t counts epoch (i / 64))

  -- the counts of the pages read back
  pub counts_back : IsSlotOf p cpu t counts epoch slot → counts_in VersionTwo p slot ≡ map (byte_in counts) (range_with_len 0 p.pages)
  counts_back of =
      map-alike_numbers (count_byte p slot) (byte_in counts) p.pages
      (λ i l. count_byte-back i of (omega arith))

  -- no count of a page is at fault in a slot that was written
  count_fault-back : AreCounts p counts → IsSlotOf p cpu t counts epoch slot → count_fault VersionTwo p slot ≡ None
  count_fault-back are of =
      ap (option_map Count) (no_position (is_bad_count p slot) (64 * count_blocks p)
      (λ i l. fine_count (count_byte p slot i) p.pages i
      (λ m. subst (λ x. x ≤ 63) (sym (count_byte-back i of l)) (are.within i m))
      (λ m. count_byte-back i of l ∙ are.rest i m l)))

-- ---- its faults

module _ (p : Parameters) (ceiling : ℕ) (cpu : CpuState) (t : Tables) (counts : ℕ → Block) (epoch : ℕ) (slot : List Block) (r : IsInRange p)
    (recordable : IsRecordable p ceiling cpu) (s : IsTables p t) (are : AreCounts p counts) (most : ceiling ≤ 2 ^ 64) where
  -- a slot that was written has no fault
  pub slot_fault-back : epoch < 2 ^ 64 → IsSlotOf p cpu t counts epoch slot → slot_fault VersionTwo p ceiling epoch slot ≡ None
  unfolding slot_fault
  slot_fault-back l of =
      let room : console_room p < 2 ^ 64 = omega arith in
      let fits = FitsRecord-recordable p ceiling cpu epoch r recordable room most l in
      let begins = BeginsWithRecord-slot p cpu t counts epoch slot of in
      both_none _ _ (epoch_fault-back p cpu epoch slot fits begins)
      (both_none _ _ (ap (tables_fault p) (tables_in-back p cpu t counts epoch slot r s of) ∙ (IsFaultless-tables p t s).none)
      (both_none _ _ (status_fault-back p ceiling cpu epoch slot recordable fits begins)
      (both_none _ _ (count_fault-back p cpu t counts epoch slot are of) (second_fault-back p cpu epoch slot fits begins))))

  -- a slot that was written reads back whole
  pub slot_back : epoch < 2 ^ 64 → IsSlotOf p cpu t counts epoch slot → ReadsBack p ceiling cpu t counts epoch slot
  slot_back l of =
      let room : console_room p < 2 ^ 64 = omega arith in
      record {
        cpu_back = cpu_back p cpu epoch slot (FitsRecord-recordable p ceiling cpu epoch r recordable room most l)
            (BeginsWithRecord-slot p cpu t counts epoch slot of);
        tables_back = tables_in-back p cpu t counts epoch slot r s of;
        counts_back = counts_back p cpu t counts epoch slot of;
        faultless = slot_fault-back l of;
      }

-- ---- what an image decodes to, by its parts

-- ---- blocks by a list of numbers

pub block_at-slot_in : (p : Parameters) (image : List Block) (k : ℕ) → k < blocks_of_slot (version_of scheme_number p (block_at image 1)) p
    → block_at (slot_in p image) k ≡ block_at image
    (place_of_slot (version_of scheme_number p (block_at image 1)) p (epoch_of (block_at image 1) % 2) + k)
block_at-slot_in p image k l =
    block_at-numbers (block_at image) (place_of_slot (version_of scheme_number p (block_at image 1)) p (epoch_of (block_at image 1) % 2))
    (blocks_of_slot (version_of scheme_number p (block_at image 1)) p) k l

-- ---- what is written decodes

-- the slot that the commit block names is the one that was written
pub IsSlotOf-written : (p : Parameters) (cpu : CpuState) (t : Tables) (counts : ℕ → Block) (epoch : ℕ) (image : List Block)
    → epoch < 2 ^ 64 → HasCheckpoint p image cpu t counts epoch → IsSlotOf p cpu t counts epoch (slot_in p image)
IsSlotOf-written p cpu t counts epoch image fits has =
    let version : version_of scheme_number p (block_at image 1) ≡ VersionTwo =
    ap (version_of scheme_number p) has.commit ∙ version_of-commit_of scheme_number p epoch in
    record {
      each = λ k l.
          block_at-slot_in p image k (subst (λ f. k < blocks_of_slot f p) (sym version) l)
          ∙ ap (λ f. block_at image (place_of_slot f p (epoch_of (block_at image 1) % 2) + k)) version
          ∙ ap (λ e. block_at image (slot_place p (e % 2) + k)) (ap epoch_of has.commit ∙ epoch_of-commit_of epoch fits)
          ∙ has.slot k l;
    }

pub decode-written : (p : Parameters) (ceiling : ℕ) (cpu : CpuState) (t : Tables) (counts : ℕ → Block) (epoch : ℕ) (image : List Block)
    → IsInRange p → IsRecordable p ceiling cpu → IsTables p t → AreCounts p counts → ceiling ≤ 2 ^ 64 → epoch < ceiling
    → HasCheckpoint p image cpu t counts epoch
    → decode_image p ceiling image ≡ At epoch (state_from p cpu (blocks_at image (memory_numbers p t)))
decode-written p ceiling cpu t counts epoch image r recordable s are most below has =
    let fits : epoch < 2 ^ 64 = omega arith in
    let room : console_room p < 2 ^ 64 = omega arith in
    let of_epoch : epoch_of (block_at image 1) ≡ epoch = ap epoch_of has.commit ∙ epoch_of-commit_of epoch fits in
    let version : version_of scheme_number p (block_at image 1) ≡ VersionTwo =
    ap (version_of scheme_number p) has.commit ∙ version_of-commit_of scheme_number p epoch in
    let slot = IsSlotOf-written p cpu t counts epoch image fits has in
    decode_by-whole (thynvm_layouts p) ceiling image epoch (state_from p cpu (blocks_at image (memory_numbers p t))) (record {
      committed = ap is_zero has.commit ∙ is_zero-commit_of epoch;
      faultless = all_none _ _ _
          (ap (header_fault scheme_number (block_at image 0) p) (sized_if_long (thynvm_layouts p) image has.long) ∙ has.header_fits)
          (ap (λ b. commit_fault (block_at image 0) b ceiling) has.commit ∙ commit_fault-commit_of (block_at image 0) epoch ceiling below most)
          (ap (λ f. slot_fault f p ceiling (epoch_of (block_at image 1)) (slot_in p image)) version
          ∙ ap (λ e. slot_fault VersionTwo p ceiling e (slot_in p image)) of_epoch
          ∙ slot_fault-back p ceiling cpu t counts epoch (slot_in p image) r recordable s are most fits slot);
      of_epoch = of_epoch;
      state_is = ap (λ c. state_from p c (blocks_at image (memory_numbers p (tables_in p (slot_in p image)))))
          (cpu_back p cpu epoch (slot_in p image) (FitsRecord-recordable p ceiling cpu epoch r recordable room most fits)
          (BeginsWithRecord-slot p cpu t counts epoch (slot_in p image) slot))
          ∙ ap (λ u. state_from p cpu (blocks_at image (memory_numbers p u))) (tables_in-back p cpu t counts epoch (slot_in p image) r s slot);
    })

-- ---- what decodes has tables

module _ (version : LayoutVersion) (p : Parameters) (ceiling epoch : ℕ) (slot : List Block) where
  -- in a slot without a fault no part has one
  pub slot_parts : slot_fault version p ceiling epoch slot ≡ None
      → (epoch_fault epoch slot ≡ None) × (tables_fault p (tables_in p slot) ≡ None) × (status_fault p ceiling slot ≡ None)
      × (rest_fault version p slot ≡ None)
  unfolding slot_fault
  slot_parts none =
      let parts = neither (epoch_fault epoch slot)
      (option_or (tables_fault p (tables_in p slot)) (option_or (status_fault p ceiling slot) (rest_fault version p slot))) none in
      let tables = neither (tables_fault p (tables_in p slot)) (option_or (status_fault p ceiling slot) (rest_fault version p slot)) parts.1 in
      let status = neither (status_fault p ceiling slot) (rest_fault version p slot) tables.1 in
      (parts.0, tables.0, status.0, status.1)

  -- a slot without a fault has tables that a checkpoint may have
  pub tables_of_slot : slot_fault version p ceiling epoch slot ≡ None → IsTables p (tables_in p slot)
  tables_of_slot none =
      IsTables-faultless p (tables_in p slot) (record {
        btt_length = length-entries_in slot (8 * record_blocks p) p.btt;
        ptt_length = length-entries_in slot (8 * record_blocks p + p.btt) p.ptt;
        none = (slot_parts none).1;
      })

  -- a processor without a fault
  pub cpu_of_slot : slot_fault version p ceiling epoch slot ≡ None → cpu_fault p ceiling slot ≡ None
  cpu_of_slot none =
      let parts = slot_parts none in
      both_none _ _ parts.2 (neither (count_fault version p slot) (second_fault p slot) parts.3).1

pub tables_of_decoded : (p : Parameters) (ceiling : ℕ) (image : List Block) (epoch : ℕ) (state : State)
    → decode_image p ceiling image ≡ At epoch state → IsTables p (tables_in p (slot_in p image))
tables_of_decoded p ceiling image epoch state h =
    let fits = decoded_parts (thynvm_layouts p) ceiling image epoch state h in
    tables_of_slot (version_of scheme_number p (block_at image 1)) p ceiling (epoch_of (block_at image 1)) (slot_in p image) fits.2

-- ---- a higher ceiling

pub slot_fault-higher : (version : LayoutVersion) (p : Parameters) (slot : List Block) (epoch low high : ℕ) → low ≤ high
    → slot_fault version p low epoch slot ≡ None → slot_fault version p high epoch slot ≡ None
unfolding slot_fault
slot_fault-higher version p slot epoch low high most none =
    let parts = slot_parts version p low epoch slot none in
    all_none _ _ _ parts.0 parts.1 (both_none _ _ (status_fault-higher p slot low high most parts.2) parts.3)
