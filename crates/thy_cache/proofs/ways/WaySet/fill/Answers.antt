use Rattle.std.proofs.Common.{◌∙◌, ap, is_some}
use Rattle.thy_cache.specs.Ways.{Ways, line_in}
use Rattle.thy_cache.proofs.ways.WaySet.fill.Goals as goal

pub put-requires-clause-missing : goal.put-requires-clause-missing
put-requires-clause-missing c = ap (λ (s : Ways). is_some (line_in s c.args.b)) c.touch.ensures ∙ c.requires
