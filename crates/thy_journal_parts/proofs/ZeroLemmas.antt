-- The blocks of a table that lists nothing hold zeros.
use Rattle.std.proofs.Common.{◌≡◌, ℕ, ◌-◌, ◌*◌, ◌/◌, ◌%◌, ◌<◌, ◌≤◌, List, map, take, replicate, Option, None, sym, ◌∙◌, ap, arith}
use Rattle.std.proofs.lemmas.List.{drop-replicate, take-replicate}
use Rattle.thy_block.specs.declared.parameters.Parameters.{Parameters}
use Rattle.thy_block.specs.Geometry.{IsInRange}
use Rattle.thy_block.specs.Words.{block_of}
use Rattle.thy_block.proofs.RangeLemmas.{btt_eights}
use Rattle.thy_layout.specs.Entries.{entry_word}
use Rattle.thy_layout.specs.TableSlots.{table_block_of}
use Rattle.thy_layout.proofs.EightLemmas.{eight_of, block_of_eight}
use Rattle.thy_journal_parts.specs.Filling.{no_table}

pub table_block-none : (p : Parameters) (k : ℕ) → IsInRange p → k < p.btt / 8 → block_of (replicate 8 0) ≡ table_block_of (no_table p) k
table_block-none p k range inside =
    let eights : p.btt % 8 ≡ 0 = btt_eights p range in
    let enough : 8 ≤ p.btt - 8 * k = omega (arith, inside, eights) in
    let eight : replicate 8 None ≡ eight_of (no_table p) k
    = sym (ap (take 8) (drop-replicate (8 * k) p.btt None) ∙ take-replicate 8 (p.btt - 8 * k) None enough) in
    ap (λ (xs : List (Option ℕ)). block_of (map entry_word xs)) eight ∙ block_of_eight (no_table p) k
