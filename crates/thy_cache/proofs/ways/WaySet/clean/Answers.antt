use Rattle.std.proofs.Common.{◌<◌, length, ap, arith}
use Rattle.std.proofs.lemmas.Grind.{common_steps}
use Rattle.thy_cache.specs.Ways.{Ways, clean}
use Rattle.thy_cache.proofs.StoreLaws.{clean-keeps}
use Rattle.thy_cache.proofs.WaysLemmas.{AreSoundWays-changed}
use Rattle.thy_cache.proofs.ways.WaySet.clean.Goals as goal

pub invariant_of-self : goal.invariant_of-self
invariant_of-self c =
    let here : c.args.way < length c.self.inside.lines.items = omega (arith, c.requires, ap (λ (s : Ways). length s.lines) c.self.view_is) in
    AreSoundWays-changed clean clean-keeps c.self.inside.lines.items c.self.inside.order.items c.self.inside.latest c.args.way c.index_mut.result.now
    c.make_clean.new.way c.self.invariant here c.index_mut.ensures.value c.make_clean.ensures

pub returns : goal.returns
returns c = grind (arith, common_steps)
