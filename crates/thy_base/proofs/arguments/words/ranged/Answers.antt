use Rattle.std.proofs.Common.{ap}
use Rattle.thy_base.specs.Settings.{ranged}
use Rattle.thy_base.proofs.arguments.words.ranged.Goals as goal

pub returns-in-None : goal.returns-in-None
returns-in-None c = ap (ranged c.args.values) c.in-None.ensures

pub returns-in-Some : goal.returns-in-Some
returns-in-Some c = ap (ranged c.args.values) c.in-Some.ensures
