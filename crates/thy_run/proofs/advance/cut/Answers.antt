use Rattle.thy_run.specs.Going.{line_of}
use Rattle.thy_run.proofs.advance.cut.Goals as goal

pub power_on-requires : goal.power_on-requires
power_on-requires g c =
    c.cut.ensures.sized (line_of c.args.plan.now c.requires.turns) c.requires.cycles (g.N.Nvm.device c.args.nvm.now) c.requires.at_moment
