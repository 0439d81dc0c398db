use Rattle.std.proofs.Common.{◌∙◌, ap, arith}
use Rattle.thy_control.specs.Seal.{with_dense}
use Rattle.thy_control.proofs.ListPageLemmas.{with_dense-numbers, with_pages-more}
use Rattle.thy_control.proofs.seal.list_each_dense.Goals as goal

pub list_if_dense-requires-clause-number : goal.list_if_dense-requires-clause-number
list_if_dense-requires-clause-number c = omega (arith, c.loop-page.invariant.numbers, c.requires.numbers, c.requires.inside)

pub loop-page-preserved : goal.loop-page-preserved
loop-page-preserved c = record {
  lists = λ t old.
      c.list_if_dense.ensures ∙ ap (with_dense c.args.counts.now c.loop-page.page) (c.loop-page.invariant.lists t old)
      ∙ with_pages-more c.args.counts.now c.loop-page.page t;
  numbers =
      ap (λ t. t.numbers) c.list_if_dense.ensures
      ∙ with_dense-numbers c.args.counts.now c.loop-page.page c.loop-page.ptt
      (omega (arith, c.loop-page.invariant.numbers, c.requires.numbers, c.requires.inside))
      ∙ c.loop-page.invariant.numbers;
}
