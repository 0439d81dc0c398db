use Rattle.std.proofs.Common.{sym, ◌∙◌, arith}
use Rattle.thy_text.specs.Seen.{event_of}
use Rattle.thy_files.proofs.SavingLemmas.{counted_more, counted_none}
use Rattle.thy_files.proofs.saving.cuts_in.Goals as goal
use Rattle.thy_files.proofs.saving.cuts_in.Goals.{then-is_cut, else-is_cut}

pub loop-i-preserved : goal.loop-i-preserved
loop-i-preserved c =
    let v = event_of c.get.result.now in
    elim c.if-is_cut.branch [
      | then-is_cut w ↦ record {
        counted = w.count-is ∙ counted_more c.args.events.now c.loop-i.i c.loop-i.count v c.get.ensures c.loop-i.invariant.counted
            (sym c.is_cut.ensures ∙ w.if-is_cut.true);
        few = omega (arith, w.count-is, c.loop-i.invariant.few);
      }
      | else-is_cut w ↦ record {
        counted = w.count-is ∙ counted_none c.args.events.now c.loop-i.i c.loop-i.count v c.get.ensures c.loop-i.invariant.counted
            (sym c.is_cut.ensures ∙ w.if-is_cut.false);
        few = omega (arith, w.count-is, c.loop-i.invariant.few);
      }
    ]
