use Rattle.std.proofs.Common.{subst}
use Rattle.thy_computer.specs.Kind.{SnapshotsStopped}
use Rattle.thy_scheme.specs.Kind.{kind_over}
use Rattle.thy_scheme.specs.Machine.{Machine}
use Rattle.thy_core.specs.Reading.{ReadsBare, ReadsState}
use Rattle.thy_core.proofs.machine.Machine.snapshot.Goals as goal

pub returns-clause-state : goal.returns-clause-state
returns-clause-state g c =
    subst (λ (m : Machine g.row.S.Denot). ReadsState g.S.Scheme.scheme m (g.N.Nvm.device c.args.nvm.now) c.snapshot.result)
    c.self.view_is c.snapshot.ensures.state

pub returns-clause-stopped : goal.returns-clause-stopped
returns-clause-stopped g c =
    subst (λ (m : Machine g.row.S.Denot). SnapshotsStopped (kind_over g.S.Scheme.scheme) m c.snapshot.result)
    c.self.view_is c.snapshot.ensures.stopped

pub returns-clause-bare : goal.returns-clause-bare
returns-clause-bare g c = subst (λ (m : Machine g.row.S.Denot). ReadsBare m c.snapshot.result) c.self.view_is c.snapshot.ensures.bare
