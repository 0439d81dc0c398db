use Rattle.thy_core.specs.MachineParts.{machine_of}
use Rattle.thy_scheme.proofs.MomentLaws.{sound-here}
use Rattle.thy_core.proofs.PowerLaws.{geometry_is}
use Rattle.thy_core.proofs.power.cut.Goals as goal

pub returns-clause-sized : goal.returns-clause-sized
returns-clause-sized g c = λ o k n at.
    c.cut.ensures.sized o.geometry
    (geometry_is g.S.Scheme.scheme g.met.S.Scheme.lawful o k (machine_of c.args.m) n (sound-here g.S.Scheme.scheme o k (machine_of c.args.m) n at))

pub returns-clause-stopped : goal.returns-clause-stopped
returns-clause-stopped g c = λ o before stopped. c.cut.ensures.sized o.geometry stopped.of_geometry
