use Rattle.std.proofs.Common.{refl}
use Rattle.thy_core.specs.MachineParts.{machine_of}
use Rattle.thy_core.proofs.CycleLaws.{framed_same, drain_cycle}
use Rattle.thy_core.proofs.engine.drain.Goals as goal

pub returns : goal.returns
returns g c = record {
  simulates = λ o cycles _ at some.
      drain_cycle g.S.Scheme.scheme o cycles (machine_of c.args.m.now) (g.N.Nvm.device c.args.nvm.now) at c.drain.new.self some
      c.drain.ensures.running c.drain.ensures.booting c.drain.ensures.exact;
  fails = λ o cycles _ at some. tt;
  frame = framed_same (g.N.Nvm.device c.args.nvm.now);
  cause = refl;
}
