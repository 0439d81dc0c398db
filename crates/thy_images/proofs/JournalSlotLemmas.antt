-- A table has no fault exactly if a checkpoint may have it, and a slot reads back as it was written.
use Rattle.std.proofs.Common.{◌≡◌, ℕ, ◌*◌, ◌/◌, ◌%◌, ◌^◌, ◌<◌, ◌≤◌, List, length, Option, None, sym, ◌∙◌, ap, arith}
use Rattle.thy_block.specs.declared.block.Block.{Block}
use Rattle.thy_block.specs.declared.parameters.Parameters.{Parameters}
use Rattle.thy_block.specs.Geometry.{IsInRange, memory_blocks}
use Rattle.thy_block.specs.Places.{record_blocks}
use Rattle.thy_block.proofs.RangeLemmas.{btt_eights}
use Rattle.thy_isa.specs.declared.state.CpuState.{CpuState}
use Rattle.thy_layout.specs.Cpu.{IsRecordable}
use Rattle.thy_layout.specs.Entries.{HaveWords}
use Rattle.thy_layout.specs.EntryFaults.{index_rule, twice_fault}
use Rattle.thy_layout.specs.TableSlots.{table_of}
use Rattle.thy_layout.proofs.EntryFaultLemmas.{neither, both_none, unbroken, none_breaks, index_asks, index_holds, once, no_twins}
use Rattle.thy_layout.proofs.SlotLemmas.{length-entries_in}
use Rattle.thy_layout.proofs.TableSlotLemmas.{slot_parts, table_back, processor_back, faultless_back}
use Rattle.thy_images.specs.JournalCheckpointParts.{slot_of_checkpoint, ReadsBack}
use Rattle.thy_images.specs.JournalSlots.{IsTable, table_in, index_fault, table_fault, slot_fault}

-- ---- its faults

pub table_fault-none : (p : Parameters) (table : List (Option ℕ)) → IsTable p table → table_fault p table ≡ None
unfolding table_fault
table_fault-none p table h =
    both_none (index_fault p table) (twice_fault table)
    (none_breaks (index_rule 0 (memory_blocks p)) table (λ i b l. index_holds 0 (memory_blocks p) i b (h.blocks i b l)))
    (no_twins 0 table h.once)

pub IsTable-faultless : (p : Parameters) (table : List (Option ℕ)) → length table ≡ p.btt → table_fault p table ≡ None → IsTable p table
unfolding table_fault
IsTable-faultless p table long none =
    let parts = neither (index_fault p table) (twice_fault table) none in
    record {
      long = long;
      blocks = λ i b l. index_asks 0 (memory_blocks p) i b (unbroken (index_rule 0 (memory_blocks p)) table parts.0 i b l);
      once = once 0 table parts.1;
    }

pub faultless_table : (p : Parameters) (ceiling epoch : ℕ) (slot : List Block) → slot_fault p ceiling epoch slot ≡ None
    → IsTable p (table_in p slot)
unfolding slot_fault
faultless_table p ceiling epoch slot none =
    IsTable-faultless p (table_in p slot) (length-entries_in slot (8 * record_blocks p) p.btt)
    (slot_parts (table_fault p (table_in p slot)) p ceiling epoch slot none).1

-- ---- all of it reads back

pub HaveWords-table : (p : Parameters) (table : List (Option ℕ)) → IsInRange p → IsTable p table → HaveWords table
HaveWords-table p table r h = record { each = λ i b l. let small = h.blocks i b l in omega arith }

pub slot_reads_back : (p : Parameters) (ceiling : ℕ) (cpu : CpuState) (table : List (Option ℕ)) (epoch : ℕ)
    → IsInRange p → IsRecordable p ceiling cpu → IsTable p table → ceiling ≤ 2 ^ 64 → epoch < 2 ^ 64
    → ReadsBack p ceiling cpu table epoch (slot_of_checkpoint p cpu table epoch)
unfolding slot_fault
slot_reads_back p ceiling cpu table epoch range recordable whole most small =
    let slot : List Block = slot_of_checkpoint p cpu table epoch in
    let eights : p.btt % 8 ≡ 0 = btt_eights p range in
    let blocks : 8 * (p.btt / 8) ≡ p.btt = omega arith in
    let long : length table ≡ 8 * (p.btt / 8) = whole.long ∙ sym blocks in
    let words = HaveWords-table p table range whole in
    let same : table_in p slot ≡ table
    = ap (λ n. table_of p n slot) (sym blocks) ∙ table_back p cpu table epoch (p.btt / 8) long words in
    record {
      cpu_back = processor_back p cpu table epoch (p.btt / 8) long words ceiling range recordable most small;
      table_back = same;
      faultless = faultless_back p cpu table epoch (p.btt / 8) long words ceiling range recordable most small (table_fault p (table_in p slot))
          (ap (table_fault p) same ∙ table_fault-none p table whole);
    }
