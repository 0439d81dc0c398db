use Rattle.thy_core.proofs.SnapshotLaws.{reads_between}
use Rattle.thy_core.proofs.computer.MachineComputer.snapshot.Goals as goal

pub returns-clause-state : goal.returns-clause-state
returns-clause-state g c =
    reads_between g.S.Scheme.scheme g.met.S.Scheme.lawful c.args.self.now (g.N.Nvm.device c.args.nvm.now) c.snapshot.result c.snapshot.ensures.state
