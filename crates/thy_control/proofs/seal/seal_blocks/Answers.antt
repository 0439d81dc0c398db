use Rattle.std.proofs.Common.{length, refl, ◌∙◌, ap, arith}
use Rattle.thy_table.proofs.LiveLemmas.{mapped_to-live}
use Rattle.thy_table.proofs.MapLemmas.{mapped_to-more, length-mapped_to}
use Rattle.thy_control.specs.Seal.{sealed_in}
use Rattle.thy_control.proofs.seal.seal_blocks.Goals as goal

pub loop-i-init : goal.loop-i-init
loop-i-init c = refl

pub seal_block-requires : goal.seal_block-requires
seal_block-requires c =
    omega (
      arith,
      c.live_end-end.ensures.within,
      ap (λ t. length t.entries) c.loop-i.invariant,
      length-mapped_to (sealed_in c.args.few c.args.ptt.now) c.args.btt.now c.loop-i.i (omega (arith, c.live_end-end.ensures.within)),
    )

pub loop-i-preserved : goal.loop-i-preserved
loop-i-preserved c =
    c.seal_block.ensures ∙ mapped_to-more (sealed_in c.args.few c.args.ptt.now) c.args.btt.now c.loop-i.btt c.loop-i.i
    (omega (arith, c.live_end-end.ensures.within)) c.loop-i.invariant

pub returns : goal.returns
returns c =
    c.loop-i.invariant ∙ mapped_to-live (sealed_in c.args.few c.args.ptt.now) c.args.btt.now c.loop-i.i
    (omega (arith, c.live_end-end.ensures.within, c.loop-i.auto.i-end))
    (λ k l. c.live_end-end.ensures.free k (omega (arith, l, c.loop-i-test.false)))
