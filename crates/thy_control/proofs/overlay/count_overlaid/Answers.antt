use Rattle.std.proofs.Common.{◌∙◌, arith}
use Rattle.thy_table.proofs.LiveLemmas.{count-live}
use Rattle.thy_control.specs.Overlay.{is_overlaid}
use Rattle.thy_control.proofs.overlay.count_overlaid.Goals as goal

pub returns : goal.returns
returns c =
    c.loop-i.invariant ∙ count-live (is_overlaid c.args.ptt.now) c.args.btt.now c.loop-i.i (λ k l. c.live_end-end.ensures.free k (omega (arith, l, c.loop-i-test.false)))
    (omega (arith, c.live_end-end.ensures.within, c.loop-i.auto.i-end))
