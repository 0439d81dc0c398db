use Rattle.std.proofs.Common.{◌∙◌, arith}
use Rattle.thy_table.proofs.LiveLemmas.{count-live}
use Rattle.thy_control.specs.Holding.{is_promoted}
use Rattle.thy_control.proofs.overlay.count_promoted.Goals as goal

pub returns : goal.returns
returns c =
    c.loop-j.invariant ∙ count-live is_promoted c.args.ptt.now c.loop-j.j (λ k l. c.live_end-end.ensures.free k (omega (arith, l, c.loop-j-test.false)))
    (omega (arith, c.live_end-end.ensures.within, c.loop-j.auto.j-end))
