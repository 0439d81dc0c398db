use Rattle.std.proofs.Common.{◌≡◌, ◌<◌, ◌==◌, length, Some, sym, ◌∙◌, ap, arith}
use Rattle.std.specs.List.{position}
use Rattle.thy_cache.proofs.WaysLemmas.{AreSoundWays-used}
use Rattle.thy_cache.proofs.ways.WaySet.move_last.Goals as goal

pub invariant_of-self : goal.invariant_of-self
invariant_of-self c =
    let here : c.args.way < length c.self.inside.lines.items = omega (arith, c.requires, ap (λ s. length s.lines) c.self.view_is) in
    let found : position (λ v. v == c.args.way) c.self.inside.order.items ≡ Some c.in-Some.at
    = ap (λ s. position (λ v. v == c.args.way) s.order) c.self.view_is ∙ sym c.in-Some.ensures.location in
    AreSoundWays-used c.self.inside.lines.items c.self.inside.order.items _ c.self.inside.latest c.in-Some.at c.args.way c.self.invariant
    found here c.move_last.ensures
