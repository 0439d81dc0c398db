use Rattle.std.proofs.Common.{◌≡◌, ◌≤◌, ℕ, ◌-◌, Bool, if◌then◌else◌, List, Option, map, ◌∙◌, sym, ap, subst, arith}
use Rattle.std.proofs.lemmas.Bool.{le-ltb}
use Rattle.thy_block.specs.declared.parameters.Parameters.{Parameters}
use Rattle.thy_block.specs.Places.{record_blocks}
use Rattle.thy_block.specs.Words.{block_of}
use Rattle.thy_isa.specs.Step.{state_of, cpu_of}
use Rattle.thy_layout.specs.Cpu.{cpu_block_of}
use Rattle.thy_layout.specs.Entries.{entry_word, HaveWords}
use Rattle.thy_layout.specs.TableSlots.{table_block_of}
use Rattle.thy_layout.proofs.EightLemmas.{HaveWords-eight, block_of_eight}
use Rattle.thy_images.proofs.ShadowSlotLemmas.{HaveWords-map}
use Rattle.thy_shadow_parts.specs.Filling.{first_table}
use Rattle.thy_shadow_parts.proofs.FirstLemmas.{IsMap-first}
use Rattle.thy_shadow_parts.proofs.start.start_slot_block.Goals as goal

pub table_block-requires : goal.table_block-requires
table_block-requires c =
    let p : Parameters = c.args.geometry.now in
    let k : ℕ = c.args.k in
    let r : ℕ = c.record_blocks-record.result in
    subst (λ (es : List (Option ℕ)). HaveWords es) (sym c.first_entries.ensures)
    (HaveWords-eight (first_table p) (k - r) (HaveWords-map p (first_table p) c.numbers-numbers.ensures.in_range (IsMap-first p)))

pub returns-else-k-record : goal.returns-else-k-record
returns-else-k-record c =
    let p : Parameters = c.args.geometry.now in
    let k : ℕ = c.args.k in
    let r : ℕ = c.record_blocks-record.result in
    let behind : record_blocks p ≤ k = omega arith in
    let place : k - r ≡ k - record_blocks p = ap (λ (n : ℕ). k - n) c.record_blocks-record.ensures.blocks in
    c.table_block.ensures
    ∙ ap (λ (es : List (Option ℕ)). block_of (map entry_word es)) c.first_entries.ensures
    ∙ block_of_eight (first_table p) (k - r)
    ∙ ap (table_block_of (first_table p)) place
    ∙ sym (ap (λ (t : Bool). if t then cpu_block_of (cpu_of (state_of c.args.state.now)) 0 k
    else table_block_of (first_table p) (k - record_blocks p)) (le-ltb k (record_blocks p) behind))
