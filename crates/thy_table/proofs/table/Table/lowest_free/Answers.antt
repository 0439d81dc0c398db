use Rattle.std.proofs.Common.{◌≡◌, ◌<◌, ◌↔◌, IsSome, position, subst, None, is_none, sym, ◌∙◌, ap}
use Rattle.thy_table.specs.Listing.{first_from, free_index, free_count}
use Rattle.thy_table.proofs.FirstLemmas.{first_from-position}
use Rattle.thy_table.proofs.IndexLemmas.{some-counted, none-free, none_free_below}
use Rattle.thy_table.proofs.table.Table.lowest_free.Given.{Over}
use Rattle.thy_table.proofs.table.Table.lowest_free.Goals as goal

pub returns-then-self-eq0-clause-place : goal.returns-then-self-eq0-clause-place
returns-then-self-eq0-clause-place g c =
    sym (none-free g.E.Keyed.key _ _ _ _ _ _ c.self.invariant.0 c.if-self-eq0.true) ∙ ap free_index c.self.view_is

place_is : (g : Over) (c : goal.After-free_from g) → c.free_from.result ≡ position is_none c.self.inside.entries.items
place_is g c =
    c.free_from.ensures ∙ ap (first_from is_none c.self.inside.lowest) c.deref.ensures.value
    ∙ first_from-position is_none None c.self.inside.entries.items c.self.inside.lowest (none_free_below g.E.Keyed.key _ _ _ _ _ _ c.self.invariant.0)

pub returns-clause-place : goal.returns-clause-place
returns-clause-place g c = place_is g c ∙ ap free_index c.self.view_is

pub returns-clause-room : goal.returns-clause-room
returns-clause-room g c =
    subst (λ t. IsSome c.free_from.result ↔ (0 < free_count t)) c.self.view_is
    (some-counted c.self.inside.entries.items c.free_from.result (sym (place_is g c)))
