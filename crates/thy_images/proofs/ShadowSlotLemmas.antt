-- The entries of a map that stray; what a slot without a fault says of its map, and that it reads back as written.
use Rattle.std.proofs.Common.{◌≡◌, ℕ, ◌+◌, ◌*◌, ◌<◌, ◌≤◌, List, [], length, drop, Option, None, sym, ◌∙◌, ap, arith, ◌^◌}
use Rattle.std.proofs.lemmas.List.{drop_more}
use Rattle.std.proofs.Math.ListN.{drop_of_length-le}
use Rattle.std.specs.Option.{option_or}
use Rattle.thy_block.specs.declared.block.Block.{Block}
use Rattle.thy_block.specs.declared.parameters.Parameters.{Parameters}
use Rattle.thy_block.specs.Places.{record_blocks}
use Rattle.thy_block.specs.Geometry.{IsInRange}
use Rattle.thy_isa.specs.declared.state.CpuState.{CpuState}
use Rattle.thy_layout.specs.Entries.{entry_at, HaveWords}
use Rattle.thy_layout.proofs.SlotLemmas.{length-entries_in}
use Rattle.thy_layout.specs.Cpu.{IsRecordable}
use Rattle.thy_layout.proofs.TableSlotLemmas.{slot_parts, table_back, processor_back, faultless_back}
use Rattle.thy_images.specs.ShadowPlaces.{map_blocks}
use Rattle.thy_images.specs.ShadowSlots.{table_in, stray, first_stray, IsMap, table_fault, slot_fault}
use Rattle.thy_images.specs.ShadowCheckpointParts.{slot_of_checkpoint, ReadsBack}
use Rattle.thy_images.proofs.ShadowTableRefusalLemmas.{IsMap-faultless, table_fault-none}

pub table_long : (p : Parameters) (slot : List Block) → length (table_in p slot) ≡ 8 * map_blocks p
table_long p slot = length-entries_in slot (8 * record_blocks p) (8 * map_blocks p)

-- one entry more was passed, or is the first stray one
pub stray_next : (p : Parameters) (table : List (Option ℕ)) (x : ℕ) → x < length table
    → first_stray p x (drop x table) ≡ option_or (stray p x (entry_at table x)) (first_stray p (x + 1) (drop (x + 1) table))
stray_next p table x l = ap (first_stray p x) (drop_more table x None l)

-- past the last entry there is none
pub stray_past : (p : Parameters) (slot : List Block) (x : ℕ) → 8 * map_blocks p ≤ x
    → first_stray p 0 (table_in p slot) ≡ first_stray p x (drop x (table_in p slot)) → None ≡ first_stray p 0 (table_in p slot)
stray_past p slot x past before =
    let none : drop x (table_in p slot) ≡ [] = drop_of_length-le (table_in p slot) (omega (arith, past, table_long p slot)) in
    sym (before ∙ ap (first_stray p x) none)

pub faultless_map : (p : Parameters) (ceiling epoch : ℕ) (slot : List Block) → slot_fault p ceiling epoch slot ≡ None
    → IsMap p (table_in p slot)
unfolding slot_fault
faultless_map p ceiling epoch slot none =
    IsMap-faultless p (table_in p slot) (table_long p slot) (slot_parts (table_fault p (table_in p slot)) p ceiling epoch slot none).1

pub HaveWords-map : (p : Parameters) (table : List (Option ℕ)) → IsInRange p → IsMap p table → HaveWords table
HaveWords-map p table r h = record { each = λ i q l. let small = h.in_pool i q l in omega arith }

pub slot_reads_back : (p : Parameters) (ceiling : ℕ) (cpu : CpuState) (table : List (Option ℕ)) (epoch : ℕ)
    → IsInRange p → IsRecordable p ceiling cpu → IsMap p table → ceiling ≤ 2 ^ 64 → epoch < 2 ^ 64
    → ReadsBack p ceiling cpu table epoch (slot_of_checkpoint p cpu table epoch)
unfolding slot_fault
slot_reads_back p ceiling cpu table epoch range recordable whole most small =
    let slot : List Block = slot_of_checkpoint p cpu table epoch in
    let words = HaveWords-map p table range whole in
    let same : table_in p slot ≡ table = table_back p cpu table epoch (map_blocks p) whole.long words in
    record {
      cpu_back = processor_back p cpu table epoch (map_blocks p) whole.long words ceiling range recordable most small;
      table_back = same;
      faultless = faultless_back p cpu table epoch (map_blocks p) whole.long words ceiling range recordable most small
          (table_fault p (table_in p slot))
          (ap (table_fault p) same ∙ table_fault-none p table whole);
    }
