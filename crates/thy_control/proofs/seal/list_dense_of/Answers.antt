use Rattle.std.proofs.Common.{◌≡◌, true, sym, ◌∙◌, ap, arith}
use Rattle.std.proofs.lemmas.Grind.{common_steps}
use Rattle.thy_table.specs.Counts.{are_sparse}
use Rattle.thy_control.specs.Seal.{with_pages}
use Rattle.thy_control.proofs.ListPageLemmas.{dense_below-sparse}
use Rattle.thy_control.proofs.seal.list_dense_of.Goals as goal

pub returns-else-not-are_sparse-clause-lists : goal.returns-else-not-are_sparse-clause-lists
returns-else-not-are_sparse-clause-lists c = λ t old.
    let sparse : are_sparse c.args.counts.now c.args.first c.args.end ≡ true = grind (arith, common_steps) in
    old ∙ sym (ap (λ ns. with_pages ns t) (dense_below-sparse c.args.counts.now c.args.first c.args.end c.requires.order c.requires.inside sparse))
