use Rattle.std.proofs.Common.{length, ◌∙◌, ap}
use Rattle.thy_block.specs.declared.parameters.Parameters.{Parameters}
use Rattle.thy_table.specs.Listing.{Listing}
use Rattle.thy_journal_parts.specs.declared.entry.Listed.{Listed}
use Rattle.thy_journal_parts.proofs.StateLemmas.{length-empty}
use Rattle.thy_journal_parts.proofs.log.Log.new.Goals as goal

pub invariant_of-result : goal.invariant_of-result
invariant_of-result c = record {
  range = c.memory_blocks.ensures.in_range;
  size = ap (λ (t : Listing Listed). length t.entries) c.in_ok-table.ensures
      ∙ length-empty c.numbers-numbers.result.btt c.memory_blocks.result
      ∙ ap (λ (q : Parameters). q.btt) c.numbers-numbers.ensures.same;
  numbers = ap (λ (t : Listing Listed). t.numbers) c.in_ok-table.ensures ∙ c.memory_blocks.ensures.blocks;
  once = c.recall_lists_once.ensures;
  dram_size = c.requires;
}
