use Rattle.std.proofs.Common.{◌∙◌, [], Option, ℕ, length, take, ap, subst, arith}
use Rattle.std.proofs.lemmas.List.{take_all}
use Rattle.thy_layout.specs.Files.{table_in}
use Rattle.thy_record.specs.Index.{index_by, HasPageOf}
use Rattle.thy_layout.proofs.ClashLemmas.{length-table_in}
use Rattle.thy_record.proofs.IndexLemmas.{length-index_by, page_listed}
use Rattle.thy_record.proofs.index.list_pages.Goals as goal

pub list_page_of-requires-clause-long : goal.list_page_of-requires-clause-long
list_page_of-requires-clause-long c =
    ap length c.loop-j.invariant ∙ length-index_by c.args.geometry.now [] (take c.loop-j.j (table_in c.args.ptt.now))

pub loop-j-preserved : goal.loop-j-preserved
loop-j-preserved c =
    page_listed c.args.geometry.now (table_in c.args.ptt.now) c.loop-j.j c.requires.table c.loop-j.index c.list_page_of.new.index
    c.loop-j.invariant c.list_page_of.ensures.long
    (subst (λ (o : Option ℕ). HasPageOf c.args.geometry.now c.loop-j.j o c.loop-j.index c.list_page_of.new.index) c.entry.ensures c.list_page_of.ensures.page)

pub returns : goal.returns
returns c =
    c.loop-j.invariant
    ∙ ap (index_by c.args.geometry.now []) (take_all c.loop-j.j (table_in c.args.ptt.now) (omega (arith, length-table_in c.args.ptt.now)))
