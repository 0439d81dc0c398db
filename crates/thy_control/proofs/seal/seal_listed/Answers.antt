use Rattle.std.proofs.Common.{length, refl, ◌∙◌, ap, arith}
use Rattle.thy_table.proofs.LiveLemmas.{mapped_to-live}
use Rattle.thy_table.proofs.MapLemmas.{mapped_to-more, length-mapped_to}
use Rattle.thy_control.specs.Seal.{sealed_as_counted}
use Rattle.thy_control.proofs.seal.seal_listed.Goals as goal

pub loop-j-init : goal.loop-j-init
loop-j-init c = refl

pub seal_page-requires-clause-inside : goal.seal_page-requires-clause-inside
seal_page-requires-clause-inside c =
    omega (
      arith,
      c.live_end-end.ensures.within,
      ap (λ t. length t.entries) c.loop-j.invariant,
      length-mapped_to (sealed_as_counted c.args.counts.now) c.args.ptt.now c.loop-j.j (omega (arith, c.live_end-end.ensures.within)),
    )

pub seal_page-requires-clause-counted : goal.seal_page-requires-clause-counted
seal_page-requires-clause-counted c = ap (λ t. t.numbers) c.loop-j.invariant ∙ c.requires

pub loop-j-preserved : goal.loop-j-preserved
loop-j-preserved c =
    c.seal_page.ensures ∙ mapped_to-more (sealed_as_counted c.args.counts.now) c.args.ptt.now c.loop-j.ptt c.loop-j.j
    (omega (arith, c.live_end-end.ensures.within)) c.loop-j.invariant

pub returns : goal.returns
returns c =
    c.loop-j.invariant ∙ mapped_to-live (sealed_as_counted c.args.counts.now) c.args.ptt.now c.loop-j.j
    (omega (arith, c.live_end-end.ensures.within, c.loop-j.auto.j-end))
    (λ k l. c.live_end-end.ensures.free k (omega (arith, l, c.loop-j-test.false)))
