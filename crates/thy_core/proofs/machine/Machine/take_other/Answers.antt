use Rattle.std.proofs.Common.{sym, subst}
use Rattle.thy_computer.specs.Advances.{IsOthersCycle}
use Rattle.thy_computer.specs.Kind.{CanStep, Simulates, FailsSafe}
use Rattle.thy_scheme.specs.Kind.{kind_over}
use Rattle.thy_scheme.specs.Machine.{Machine}
use Rattle.thy_core.specs.MachineParts.{machine_of}
use Rattle.thy_core.proofs.machine.Machine.take_other.Goals as goal

pub step_other-requires-clause-others : goal.step_other-requires-clause-others
step_other-requires-clause-others g c =
    subst (λ (m : Machine g.row.S.Denot). IsOthersCycle (kind_over g.S.Scheme.scheme) c.args.pick m (g.N.Nvm.device c.args.nvm.now))
    (sym c.self.view_is) c.requires.others

pub returns-clause-steps : goal.returns-clause-steps
returns-clause-steps g c =
    subst (λ (m : Machine g.row.S.Denot). Simulates (kind_over g.S.Scheme.scheme) c.args.start.now c.args.pick m
    (machine_of c.step_other.new.m) (g.N.Nvm.device c.args.nvm.now)
    (g.N.Nvm.device c.step_other.new.nvm) c.step_other.result) c.self.view_is c.step_other.ensures.steps

pub returns-clause-safe : goal.returns-clause-safe
returns-clause-safe g c =
    subst (λ (m : Machine g.row.S.Denot). FailsSafe (kind_over g.S.Scheme.scheme) c.args.start.now c.args.pick m
    (machine_of c.step_other.new.m) (g.N.Nvm.device c.args.nvm.now)
    (g.N.Nvm.device c.step_other.new.nvm) c.step_other.result) c.self.view_is c.step_other.ensures.safe
