use Rattle.std.proofs.Common.{subst}
use Rattle.thy_table.specs.Listing.{IsListing}
use Rattle.thy_table.proofs.IndexLemmas.{IsListing-sound}
use Rattle.thy_table.proofs.table.Table.recall_lists_once.Goals as goal

pub returns : goal.returns
returns g c = subst (IsListing g.E.Keyed.key) c.self.view_is (IsListing-sound g.E.Keyed.key _ _ _ _ _ _ c.self.invariant.0)
