use Rattle.thy_core.specs.MachineParts.{machine_of}
use Rattle.thy_scheme.proofs.MomentLaws.{sound-here}
use Rattle.thy_core.proofs.PowerLaws.{loading_boot, loading_behind}
use Rattle.thy_core.proofs.power.is_loading.Goals as goal

pub returns-in-Boot : goal.returns-in-Boot
returns-in-Boot g c = λ o k n at.
    loading_boot g.S.Scheme.scheme o k (machine_of c.args.m.now) n c.loading.result c.in-Boot.is
    (sound-here g.S.Scheme.scheme o k (machine_of c.args.m.now) n at) c.loading.ensures

pub returns-in-Run : goal.returns-in-Run
returns-in-Run g c = λ o k n sound. loading_behind g.S.Scheme.scheme o (machine_of c.args.m.now) n c.in-Run.is
