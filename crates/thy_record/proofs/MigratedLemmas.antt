-- A slot of version 1 that is written again in version 2 means the same.
use Rattle.std.proofs.Common.{◌≡◌, ℕ, ◌+◌, ◌*◌, ◌/◌, ◌%◌, ◌<◌, ◌==◌, ◌&&◌, ◌||◌, Bool, nat_lt, nat_le, if◌then◌else◌, List, map, replicate, slice_index_or, Option, Some, None, sym, ◌∙◌, ap, inl, inr, arith}
use Rattle.std.proofs.lemmas.Bool.{cases_lt}
use Rattle.std.proofs.lemmas.List.{length-replicate, get_or-replicate, get_or_past, ext_get_or}
use Rattle.std.proofs.lemmas.List.FromFn.{length-map-range_with_len, get_or-map-range_with_len}
use Rattle.std.specs.List.{range_with_len}
use Rattle.std.specs.Option.{option_map}
use Rattle.thy_block.specs.declared.block.Block.{Block}
use Rattle.thy_block.specs.declared.parameters.Parameters.{Parameters}
use Rattle.thy_layout.specs.declared.layout_version.LayoutVersion.TheVariants.{VersionOne, VersionTwo}
use Rattle.thy_block.specs.Device.{zero_block, block_at}
use Rattle.thy_block.specs.Places.{record_blocks}
use Rattle.thy_table.specs.Places.{table_blocks, count_blocks, slot_blocks}
use Rattle.thy_block.specs.Words.{word_of}
use Rattle.thy_block.proofs.BlockLemmas.{zero_block-at}
use Rattle.thy_layout.specs.declared.bad_image.BadImage.{BadImage}
use Rattle.thy_layout.specs.declared.bad_image.BadImage.TheVariants.{Commit, Status as BadStatus, ConsoleLength, Count, Second}
use Rattle.thy_layout.specs.Cpu.{is_status, is_width, record_word, record_words, other_of_record, cpu_of_record}
use Rattle.thy_record.specs.Migrated.{IsWrittenAnew, AnewMeansTheSame}
use Rattle.thy_layout.specs.Slots.{entries_in, epoch_fault, status_fault, second_fault}
use Rattle.thy_record.specs.Slots.{tables_in, count_byte, counts_in, is_bad_count, count_fault, slot_fault}
use Rattle.thy_record.specs.TableFaults.{tables_fault}
use Rattle.thy_layout.specs.Entries.{entry_from}
use Rattle.thy_record.proofs.CountLemmas.{no_position, fine_count}
use Rattle.thy_record.proofs.SlotLemmas.{slot_parts, tables_alike}
use Rattle.thy_layout.proofs.CpuLemmas.{record_words-at, length-record_words}
use Rattle.thy_layout.proofs.SlotLemmas.{length-entries_in, entry_at-entries_in}
use Rattle.thy_layout.proofs.EntryFaultLemmas.{both_none}

-- the faults of a record's words
abbrev fault_of_epoch : ℕ → ℕ → Option BadImage
fault_of_epoch word epoch = if word == epoch then None else Some Commit

abbrev fault_of_status : ℕ → ℕ → ℕ → ℕ → ℕ → ℕ → Option BadImage
fault_of_status tag value count console ceiling room =
    if is_status tag value && nat_lt count ceiling then (if nat_le console room then None else Some ConsoleLength) else Some BadStatus

abbrev second_test : ℕ → ℕ → ℕ → ℕ → ℕ → ℕ → Bool
second_test a b c d e f = (is_width a && is_width b) && ((c == 0 && d == 0) && (e == 0 && f == 0))

module _ (p : Parameters) (old new : List Block) (h : IsWrittenAnew p old new) where
  block_same : (k : ℕ) → block_at new k ≡ block_at old k
  block_same k = elim (cases_lt k (slot_blocks p)) as (λ _. block_at new k ≡ block_at old k) [
    | inl l ↦ h.each k l
    | inr m ↦ get_or_past new k zero_block (omega (arith, h.long, m)) ∙ sym (get_or_past old k zero_block (omega (arith, h.short, m)))
  ]

  word_same : (i : ℕ) → record_word new i ≡ record_word old i
  unfolding record_word
  word_same i = ap (λ (b : Block). word_of b (i % 8)) (block_same (i / 8))

  words_same : (i n : ℕ) → record_words new i n ≡ record_words old i n
  words_same i n =
      let left = length-record_words new i n in
      ext_get_or 0 (record_words new i n) (record_words old i n) (left ∙ sym (length-record_words old i n))
      (λ k below.
      let l : k < n = omega (arith, left, below) in
      record_words-at new i n k l ∙ word_same (i + k) ∙ sym (record_words-at old i n k l))

  other_same : other_of_record new ≡ other_of_record old
  unfolding other_of_record
  other_same =
      cc (word_same 40, words_same 41 31, word_same 72, word_same 73, word_same 74, word_same 75)

  cpu_same : cpu_of_record p new ≡ cpu_of_record p old
  unfolding cpu_of_record
  cpu_same =
      cc (
        word_same 0,
        words_same 1 31,
        word_same 34,
        word_same 33,
        word_same 35,
        word_same 39,
        word_same 32,
        word_same 36,
        word_same 37,
        other_same,
      )

  entries_same : (first n : ℕ) → entries_in new first n ≡ entries_in old first n
  entries_same first n =
      let left = length-entries_in new first n in
      ext_get_or None (entries_in new first n) (entries_in old first n) (left ∙ sym (length-entries_in old first n))
      (λ i below.
      let l : i < n = omega (arith, left, below) in
      entry_at-entries_in new first n i l ∙ ap entry_from (word_same (first + i)) ∙ sym (entry_at-entries_in old first n i l))

  tables_same : tables_in p new ≡ tables_in p old
  tables_same =
      tables_alike (entries_in new (8 * record_blocks p) p.btt) (entries_in new (8 * record_blocks p + p.btt) p.ptt)
      (entries_in old (8 * record_blocks p) p.btt) (entries_in old (8 * record_blocks p + p.btt) p.ptt)
      (entries_same (8 * record_blocks p) p.btt) (entries_same (8 * record_blocks p + p.btt) p.ptt)

  -- every count of a migrated slot is 0
  count_none : (i : ℕ) → count_byte p new i ≡ 0
  count_none i =
      ap (λ (b : Block). slice_index_or b.0 (i % 64) 0)
      (block_same (record_blocks p + table_blocks p + i / 64)
      ∙ get_or_past old (record_blocks p + table_blocks p + i / 64) zero_block (omega (arith, h.short)))
      ∙ zero_block-at (i % 64)

  counts_none : counts_in VersionTwo p new ≡ replicate p.pages 0
  counts_none =
      let left = length-map-range_with_len (count_byte p new) 0 p.pages in
      ext_get_or 0 (map (count_byte p new) (range_with_len 0 p.pages)) (replicate p.pages 0) (left ∙ sym (length-replicate p.pages 0))
      (λ i below.
      let l : i < p.pages = omega (arith, left, below) in
      get_or-map-range_with_len (count_byte p new) 0 p.pages i i 0 l (omega arith) ∙ count_none i ∙ sym (get_or-replicate {A = ℕ} p.pages i 0 0 l))

  count_fault-none : count_fault VersionTwo p new ≡ None
  count_fault-none =
      ap (option_map Count) (no_position (is_bad_count p new) (64 * count_blocks p)
      (λ i l. fine_count (count_byte p new i) p.pages i (λ m. let none = count_none i in omega (arith, none)) (λ m. count_none i)))

  second_same : second_fault p new ≡ second_fault p old
  second_same =
      ap (λ t. if p.harts == 1 || t then None else Some Second)
      (cc (word_same 72, word_same 74, word_same 76, word_same 77, word_same 78, word_same 79))

  -- each test says the same of a migrated slot
  slot_fault-none : (ceiling epoch : ℕ) → slot_fault VersionOne p ceiling epoch old ≡ None → slot_fault VersionTwo p ceiling epoch new ≡ None
  unfolding slot_fault
  slot_fault-none ceiling epoch none =
      let parts = slot_parts VersionOne p ceiling epoch old none in
      both_none (epoch_fault epoch new) _ (epoch_same epoch ∙ parts.0)
      (both_none (tables_fault p (tables_in p new)) _ (ap (tables_fault p) tables_same ∙ parts.1)
      (both_none (status_fault p ceiling new) _ (status_same ceiling ∙ parts.2)
      (both_none (count_fault VersionTwo p new) _ count_fault-none (second_same ∙ parts.3))))
    where
      epoch_same : (epoch : ℕ) → epoch_fault epoch new ≡ epoch_fault epoch old
      epoch_same epoch = ap (λ w. fault_of_epoch w epoch) (word_same 38)

      status_same : (ceiling : ℕ) → status_fault p ceiling new ≡ status_fault p ceiling old
      status_same ceiling = cc (word_same 36, word_same 37, word_same 32, word_same 34)

pub anew_means_the_same : AnewMeansTheSame
anew_means_the_same p ceiling epoch old new h none = record {
  cpu_same = cpu_same p old new h;
  tables_same = tables_same p old new h;
  no_counts = counts_none p old new h;
  faultless = slot_fault-none p old new h ceiling epoch none;
}
