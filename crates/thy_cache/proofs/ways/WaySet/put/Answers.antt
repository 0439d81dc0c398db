use Rattle.std.proofs.Common.{◌∙◌, ap, is_some}
use Rattle.thy_cache.specs.Ways.{Ways, line_in}
use Rattle.thy_cache.proofs.WaysLemmas.{AreSoundWays-put}
use Rattle.thy_cache.proofs.ways.WaySet.put.Goals as goal

pub invariant_of-self : goal.invariant_of-self
invariant_of-self c =
    AreSoundWays-put c.self.inside.lines.items c.self.inside.order.items c.self.inside.latest c.args.way c.args.line c.self.invariant
    (ap (λ (s : Ways). is_some (line_in s c.args.line.at)) c.self.view_is ∙ c.requires.missing)
