use Rattle.std.proofs.Common.{◌≡◌, ℕ, List, count_by, sum_by, refl}
use Rattle.thy_block.specs.declared.parameters.SchemeName.{SchemeName}
use Rattle.thy_block.specs.Schemes.{scheme_name}
use Rattle.thy_text.specs.Event.{Event}
use Rattle.thy_text.specs.Summary.{ends_early, ends_epoch, overlapped_by, scheme_parts}
use Rattle.thy_text.proofs.Rewording.{wrote-as}
use Rattle.thy_text.proofs.summary.write_scheme.Goals as goal

-- the line of a run by a scheme, if its name and its sums are known
line_is : (scheme : SchemeName) (vs : List Event) (name : List ℕ) (epochs early overlapped writes : ℕ)
    → name ≡ scheme_name scheme → epochs ≡ count_by ends_epoch vs → early ≡ count_by ends_early vs → overlapped ≡ sum_by overlapped_by vs
    → scheme_parts name epochs early overlapped writes
    ≡ scheme_parts (scheme_name scheme) (count_by ends_epoch vs) (count_by ends_early vs) (sum_by overlapped_by vs) writes
line_is scheme vs name epochs early overlapped writes a b c d = rw (a, b, c, d) refl

pub returns : goal.returns
returns g c =
    let sums = c.sums_of-sums.ensures in
    wrote-as c.write_pieces.result _ _ _ _
    (line_is c.args.scheme c.args.events.now _ _ _ _ c.args.writes c.name.ensures sums.epochs sums.early sums.overlapped) c.write_pieces.ensures
