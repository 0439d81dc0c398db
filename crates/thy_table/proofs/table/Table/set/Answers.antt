use Rattle.std.proofs.Common.{◌≡◌, ◌==◌, Some, None, true, get_or, ◌∙◌, ap}
use Rattle.thy_table.specs.Listing.{entry_at, lists}
use Rattle.thy_table.proofs.IndexLemmas.{IsSoundTable-set}
use Rattle.thy_table.proofs.LiveLemmas.{AreLiveBelow-set, live-below}
use Rattle.thy_table.proofs.table.Table.set.Goals as goal

pub invariant_of-self : goal.invariant_of-self
invariant_of-self g c =
    let key = g.E.Keyed.key in
    let es = c.self.inside.entries.items in
    let here : lists key (key c.args.entry) (get_or es c.args.i None) ≡ true = ap (λ t. lists key (key c.args.entry) (entry_at t c.args.i)) c.self.view_is ∙ c.requires in (
      IsSoundTable-set key _ _ _ _ _ _ c.self.invariant.0 c.args.i c.args.entry here,
      AreLiveBelow-set es c.self.inside.live_end c.args.i (Some c.args.entry) c.self.invariant.1
          (live-below (λ e. key e == key c.args.entry) es c.self.inside.live_end c.args.i c.self.invariant.1 here),
    )
