use Rattle.std.proofs.Common.{◌≡◌, ℕ, List, count_by, sum_by, refl}
use Rattle.thy_text.specs.Event.{Event}
use Rattle.thy_text.specs.Summary.{ends_early, ends_epoch, overlapped_by, summary_parts}
use Rattle.thy_text.proofs.Rewording.{wrote-as}
use Rattle.thy_text.proofs.summary.write_summary.Goals as goal

-- the line of a run, if its sums are known
summary_is : (vs : List Event) (epochs early overlapped : ℕ)
    → epochs ≡ count_by ends_epoch vs → early ≡ count_by ends_early vs → overlapped ≡ sum_by overlapped_by vs
    → summary_parts epochs early overlapped
    ≡ summary_parts (count_by ends_epoch vs) (count_by ends_early vs) (sum_by overlapped_by vs)
summary_is vs epochs early overlapped a b c = rw (a, b, c) refl

pub returns : goal.returns
returns g c =
    let sums = c.sums_of-sums.ensures in
    wrote-as c.write_pieces.result _ _ _ _ (summary_is c.args.events.now _ _ _ sums.epochs sums.early sums.overlapped) c.write_pieces.ensures
