use Rattle.std.proofs.Common.{◌≡◌, ◌-◌, ◌<◌, List, ℕ, length, get_or, ◌∙◌, subst, arith}
use Rattle.std.proofs.lemmas.Bool.{eqb-true}
use Rattle.thy_cache.specs.Ways.{Ways, moved_last}
use Rattle.thy_cache.proofs.OrderLemmas.{moved_last-last}
use Rattle.thy_cache.proofs.ways.WaySet.is_last.Goals as goal

pub returns : goal.returns
returns c = λ last.
    let order : List ℕ = c.self.inside.order.items in
    let way : ℕ = c.args.way in
    let some : 0 < length order = omega (arith, c.self.invariant.some_way, c.self.invariant.all_ordered) in
    let is : get_or order (length order - 1) 0 ≡ way = c.self.invariant.used_last ∙ eqb-true c.self.inside.latest way last in
    subst (λ (s : Ways). moved_last way s.order ≡ s.order) c.self.view_is (moved_last-last order way some c.self.invariant.once is)
