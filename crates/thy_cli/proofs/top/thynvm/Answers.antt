use Rattle.thy_cli.proofs.top.thynvm.Goals as goal

pub returns : goal.returns
returns g c = c.observed.ensures.0
