use Rattle.std.proofs.Common.{sym, ◌∙◌, ap, subst}
use Rattle.thy_computer.specs.Advances.{IfAdvanced, IsOthersCycle}
use Rattle.thy_computer.specs.Kind.{CanStep, Simulates, FailsSafe}
use Rattle.thy_scheme.specs.Kind.{kind_over}
use Rattle.thy_scheme.specs.Machine.{Machine}
use Rattle.thy_core.specs.Calm.{is_calm}
use Rattle.thy_core.specs.MachineParts.{machine_of}
use Rattle.thy_core.proofs.machine.Machine.advance.Goals as goal

pub step_hart-requires-clause-can : goal.step_hart-requires-clause-can
step_hart-requires-clause-can g c =
    subst (λ (m : Machine g.row.S.Denot). CanStep (kind_over g.S.Scheme.scheme) c.args.start.now m (g.N.Nvm.device c.args.nvm.now))
    (sym (c.mark_calm.ensures.same ∙ c.self.view_is)) c.requires

pub step_hart-requires-clause-known : goal.step_hart-requires-clause-known
step_hart-requires-clause-known g c = λ marked.
    ap (is_calm g.S.Scheme.scheme) c.mark_calm.ensures.same ∙ sym c.mark_calm.ensures.calm ∙ marked

pub returns-clause-steps : goal.returns-clause-steps
returns-clause-steps g c =
    subst (λ (m : Machine g.row.S.Denot). IfAdvanced c.step_hart.result (Simulates (kind_over g.S.Scheme.scheme) c.args.start.now c.args.pick m (machine_of c.step_hart.new.m) (g.N.Nvm.device c.args.nvm.now)
    (g.N.Nvm.device c.step_hart.new.nvm))) (c.mark_calm.ensures.same ∙ c.self.view_is) c.step_hart.ensures.steps

pub returns-clause-safe : goal.returns-clause-safe
returns-clause-safe g c =
    subst (λ (m : Machine g.row.S.Denot). IfAdvanced c.step_hart.result (FailsSafe (kind_over g.S.Scheme.scheme) c.args.start.now c.args.pick m (machine_of c.step_hart.new.m) (g.N.Nvm.device c.args.nvm.now)
    (g.N.Nvm.device c.step_hart.new.nvm))) (c.mark_calm.ensures.same ∙ c.self.view_is) c.step_hart.ensures.safe

-- a mark is no part of what a machine is
pub returns-clause-left : goal.returns-clause-left
returns-clause-left g c = λ is.
    let left = c.step_hart.ensures.left is in
    (ap machine_of left.0 ∙ c.mark_calm.ensures.same ∙ c.self.view_is, left.1)

pub returns-clause-others : goal.returns-clause-others
returns-clause-others g c = λ is.
    subst (λ (m : Machine g.row.S.Denot). IsOthersCycle (kind_over g.S.Scheme.scheme) c.args.pick m (g.N.Nvm.device c.args.nvm.now))
    (c.mark_calm.ensures.same ∙ c.self.view_is) (c.step_hart.ensures.others is)
