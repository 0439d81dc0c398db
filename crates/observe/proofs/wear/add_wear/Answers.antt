use Rattle.std.proofs.Common.{length, string_bytes}
use Rattle.std.specs.Prelude.{codes}
use Rattle.observe.specs.CountText.{wear_row}
use Rattle.observe.specs.StateText.{rows_from}
use Rattle.observe.proofs.TextLemmas.{two-parts-if}
use Rattle.observe.proofs.wear.add_wear.Goals as goal

pub returns : goal.returns
returns c =
    two-parts-if c.add_places.result (string_bytes c.args.text.now) (string_bytes c.push_str.new.self) (string_bytes c.add_places.new.text)
    (codes "wear\n") (rows_from (wear_row c.args.wear.now) 0 (length c.args.wear.now)) c.in_ok-push_str.ensures.bytes c.add_places.ensures
