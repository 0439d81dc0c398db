use Rattle.std.proofs.Common.{subst}
use Rattle.thy_computer.specs.Advances.{SimulatesRow, row_of}
use Rattle.thy_scheme.specs.Kind.{kind_over}
use Rattle.thy_scheme.specs.Machine.{Machine}
use Rattle.thy_core.specs.MachineParts.{machine_of}
use Rattle.thy_core.proofs.machine.Machine.advance_on.Goals as goal

pub returns-clause-steps : goal.returns-clause-steps
returns-clause-steps g c =
    subst (λ (m : Machine g.row.S.Denot). SimulatesRow (kind_over g.S.Scheme.scheme) c.args.start.now c.args.pick
    (row_of c.step_row.result) m (machine_of c.step_row.new.m)
    (g.N.Nvm.device c.args.nvm.now)) c.self.view_is c.step_row.ensures.steps
