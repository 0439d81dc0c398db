use Rattle.std.proofs.Common.{◌≡◌, Some, refl, sym, arith}
use Rattle.thy_table.specs.Listing.{entry_at}
use Rattle.thy_table.proofs.IndexLemmas.{lists-key}
use Rattle.thy_control.specs.Keys.{page_key}
use Rattle.thy_control.proofs.seal.seal_page.Goals as goal

pub is_low-requires : goal.is_low-requires
is_low-requires c =
    let e = c.in-Some.entry in
    let was : entry_at c.args.ptt.now c.args.j ≡ Some e = sym c.in-Some.ensures in
    let inside = c.recall_lists_once.ensures.inside c.args.j e.page (lists-key page_key e.page (entry_at c.args.ptt.now c.args.j) e was refl) in
    omega (arith, inside, c.requires.counted)
