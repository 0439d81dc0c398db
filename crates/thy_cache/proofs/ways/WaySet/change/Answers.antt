use Rattle.std.proofs.Common.{◌<◌, length, ap, arith}
use Rattle.thy_cache.specs.Ways.{Ways, changed}
use Rattle.thy_cache.proofs.WriteLaws.{changed-keeps}
use Rattle.thy_cache.proofs.WaysLemmas.{AreSoundWays-changed}
use Rattle.thy_cache.proofs.ways.WaySet.change.Goals as goal

pub invariant_of-self : goal.invariant_of-self
invariant_of-self c =
    let here : c.args.way < length c.self.inside.lines.items = omega (arith, c.requires.way, ap (λ (s : Ways). length s.lines) c.self.view_is) in
    AreSoundWays-changed (changed c.args.at c.args.bytes.now)
    (changed-keeps c.args.at c.args.bytes.now) c.self.inside.lines.items c.self.inside.order.items
    c.self.inside.latest c.args.way c.index_mut.result.now c.write_over.new.way c.self.invariant here c.index_mut.ensures.value c.write_over.ensures
