use Rattle.thy_core.proofs.SnapshotLaws.{processor_shown}
use Rattle.thy_core.proofs.computer.MachineComputer.processor.Goals as goal

pub returns : goal.returns
returns g c = processor_shown g.S.Scheme.scheme g.met.S.Scheme.lawful c.args.self.now c.processor.result c.processor.ensures
