use Rattle.std.proofs.Common.{refl}
use Rattle.thy_core.specs.MachineParts.{machine_of}
use Rattle.thy_core.proofs.CycleLaws.{framed_same, stands_run, merge_cycle}
use Rattle.thy_core.proofs.sealing.merge.Goals as goal
use Rattle.thy_scheme.proofs.SealingLaws.{over_at}

pub merge_one-requires : goal.merge_one-requires
merge_one-requires g c =
    let turn = c.requires.turn in
    record {
      idle = (over_at g.S.Scheme.scheme turn.o (machine_of c.args.m.now) (g.N.Nvm.device c.args.nvm.now) turn.turn c.requires.whole).idle;
    }

pub returns : goal.returns
returns g c =
    let K = g.S.Scheme.scheme in
    let m = machine_of c.args.m.now in
    let n = g.N.Nvm.device c.args.nvm.now in
    record {
      simulates = λ o cycles _ at sealing.
          merge_cycle K o cycles m n at c.merge_one.new.self sealing c.requires.whole c.requires.clean c.requires.overlaid
          (c.merge_one.ensures.some c.requires.overlaid o m.marks n (stands_run K o cycles m n at.sound sealing.phase)) c.merge_one.ensures.exact;
      fails = λ o cycles _ at sealing. tt;
      frame = framed_same n;
      cause = refl;
    }
