use Rattle.std.proofs.Common.{◌*◌, ◌∙◌, sym, ap, arith}
use Rattle.thy_block.proofs.LittleEndianLemmas.{little_from-part}
use Rattle.thy_layout.specs.Entries.{entry_from}
use Rattle.thy_layout.proofs.ClashLemmas.{entry_at-table_in}
use Rattle.thy_layout.proofs.table_faults.entry.Goals as goal

pub returns : goal.returns
returns c = c.entry_from_word.ensures
    ∙ ap entry_from (c.read_u64.ensures ∙ little_from-part 8 _ (8 * c.args.i) c.args.table.now (omega (arith, c.requires)))
    ∙ sym (entry_at-table_in c.args.table.now c.args.i c.requires)
