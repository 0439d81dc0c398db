use Rattle.std.proofs.Common.{refl}
use Rattle.thy_core.specs.MachineParts.{machine_of}
use Rattle.thy_core.proofs.CycleLaws.{framed_same, rest_cycle}
use Rattle.thy_core.proofs.cycle.rest.Goals as goal

pub returns : goal.returns
returns g c = record {
  simulates = λ o cycles _ at halted. rest_cycle g.S.Scheme.scheme o cycles (machine_of c.args.m.now) (g.N.Nvm.device c.args.nvm.now) at halted;
  fails = λ o cycles _ at halted. tt;
  frame = framed_same (g.N.Nvm.device c.args.nvm.now);
  cause = refl;
}
