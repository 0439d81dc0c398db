use Rattle.std.proofs.Common.{◌≡◌, ◌∙◌, ap, arith}
use Rattle.thy_table.specs.Listing.{entry_at}
use Rattle.thy_control.specs.State.{State}
use Rattle.thy_control.specs.Pages.{page_in}
use Rattle.thy_control.proofs.IssueLemmas.{page_in-small}
use Rattle.thy_control.proofs.control.Control.block_unfilled.Goals as goal

pub block_to_fill-requires : goal.block_to_fill-requires
block_to_fill-requires c =
    let s : State = c.args.self.now in
    let is : page_in c.entry.result ≡ page_in (entry_at s.ptt c.args.j) =
    ap page_in c.entry.ensures ∙ ap (λ (x : State). page_in (entry_at x.ptt c.args.j)) c.self.view_is in
    omega (arith, is, page_in-small s c.recall_tables.ensures c.args.j, c.recall_tables.ensures.range.0)
