use Rattle.std.proofs.Common.{◌∙◌, [], length, sym, ap}
use Rattle.thy_layout.proofs.ClashLemmas.{length-table_in}
use Rattle.thy_record.proofs.IndexLemmas.{length-index_by}
use Rattle.thy_record.proofs.index.places.Goals as goal

pub list_pages-requires-clause-entries : goal.list_pages-requires-clause-entries
list_pages-requires-clause-entries c = sym (length-table_in c.ptt_in.result.now) ∙ ap length c.ptt_in.ensures ∙ c.requires.tables.ptt_length

pub list_blocks-requires-clause-entries : goal.list_blocks-requires-clause-entries
list_blocks-requires-clause-entries c = sym (length-table_in c.btt_in.result.now) ∙ ap length c.btt_in.ensures ∙ c.requires.tables.btt_length

pub list_blocks-requires-clause-long : goal.list_blocks-requires-clause-long
list_blocks-requires-clause-long c =
    c.as_mut_slice-2.ensures.len ∙ sym c.as_mut_slice.ensures.len ∙ ap length c.as_mut_slice.ensures.value ∙ ap length c.in_ok-index.ensures
    ∙ length-index_by c.args.geometry.now [] []
