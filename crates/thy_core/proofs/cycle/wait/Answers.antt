use Rattle.thy_core.specs.MachineParts.{machine_of}
use Rattle.thy_core.proofs.CycleLaws.{waits_taken}
use Rattle.thy_core.proofs.cycle.wait.Goals as goal

pub returns : goal.returns
returns g c =
    waits_taken g.S.Scheme.scheme (machine_of c.args.m.now) (machine_of c.checkpoint.new.m) (g.N.Nvm.device c.args.nvm.now)
    (g.N.Nvm.device c.checkpoint.new.nvm)
    c.checkpoint.result c.checkpoint.ensures
