use Rattle.std.proofs.Common.{length, string_bytes, arith}
use Rattle.observe.specs.CountText.{wear_row}
use Rattle.observe.proofs.TextLemmas.{rows-done, rows-more}
use Rattle.observe.proofs.wear.add_places.Goals as goal

pub loop-at-preserved : goal.loop-at-preserved
loop-at-preserved c =
    rows-more (wear_row c.args.wear.now) (string_bytes c.loop-at.text) _ _ c.loop-at.at (length c.args.wear.now)
    (omega arith) c.in_ok-add_place.ensures c.loop-at.invariant

pub returns : goal.returns
returns c =
    rows-done (wear_row c.args.wear.now) (string_bytes c.loop-at.text) _ c.loop-at.at (length c.args.wear.now) (omega arith) c.loop-at.invariant
