use Rattle.std.proofs.Common.{arith}
use Rattle.thy_checkpoint.proofs.LoadLemmas.{head_inside}
use Rattle.thy_checkpoint.proofs.boot.Boot.read_next.Goals as goal

pub read_commit-requires-clause-place : goal.read_commit-requires-clause-place
read_commit-requires-clause-place g c =
    omega (arith, c.requires.read.sized, head_inside g.F.Fills.filling g.met.F.Fills.lawful c.args.self.now.p)

pub read_header-requires-clause-place : goal.read_header-requires-clause-place
read_header-requires-clause-place g c =
    omega (arith, c.requires.read.sized, head_inside g.F.Fills.filling g.met.F.Fills.lawful c.args.self.now.p)
