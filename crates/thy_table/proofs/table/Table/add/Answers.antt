use Rattle.std.proofs.Common.{◌≡◌, Some, None, is_none, position, sym, ◌∙◌, ap}
use Rattle.std.proofs.lemmas.List.Quantifiers.{position-Some}
use Rattle.thy_table.specs.Listing.{free_index}
use Rattle.thy_table.proofs.IndexLemmas.{IsSoundTable-lowest, None-is_none}
use Rattle.thy_table.proofs.table.Table.add.Goals as goal

pub invariant_of-self : goal.invariant_of-self
invariant_of-self g c = (
  IsSoundTable-lowest g.E.Keyed.key _ _ _ _ _ _ c.self.invariant.0 c.in-Some.place
      (ap free_index c.self.view_is ∙ sym c.lowest_free.ensures.place ∙ c.in-Some.is),
  c.self.invariant.1,
)

pub put-requires-clause-free : goal.put-requires-clause-free
put-requires-clause-free g c =
    let es = c.self.inside.entries.items in
    let lowest : position is_none es ≡ Some c.in-Some.place = ap free_index c.self.view_is ∙ sym c.lowest_free.ensures.place ∙ c.in-Some.is in
    None-is_none _ (position-Some is_none es c.in-Some.place None lowest).1
