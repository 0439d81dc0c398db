use Rattle.std.proofs.Common.{Ok, sym, ◌∙◌, ap, subst}
use Rattle.thy_computer.specs.Advances.{IfAdvanced, IsOthersCycle}
use Rattle.thy_computer.specs.Kind.{Simulates, FailsSafe}
use Rattle.thy_scheme.specs.Kind.{kind_over}
use Rattle.thy_core.proofs.machine.Machine.step.Goals as goal

-- a hart advanced
pub returns-in-Ok-Some-clause-steps : goal.returns-in-Ok-Some-clause-steps
returns-in-Ok-Some-clause-steps g c =
    let K = kind_over g.S.Scheme.scheme in
    let n = g.N.Nvm.device c.args.nvm.now in
    let new = g.N.Nvm.device c.advance.new.nvm in
    subst (λ r. Simulates K c.args.start.now c.args.pick c.args.self.now c.advance.new.self n new (Ok r)) (sym c.stepped.ensures)
    (subst (λ r. IfAdvanced r (Simulates K c.args.start.now c.args.pick c.args.self.now c.advance.new.self n new))
    (c.in-Ok-Some.is ∙ ap Ok c.in-Ok-Some.field-0-is) c.advance.ensures.steps)

-- the cycle is another actor's, and nothing was done before it
pub take_other-requires-clause-others : goal.take_other-requires-clause-others
take_other-requires-clause-others g c =
    let K = kind_over g.S.Scheme.scheme in
    let is = c.in-Ok-None.is ∙ ap Ok c.in-Ok-None.field-0-is in
    let left = c.advance.ensures.left is in
    subst (λ m. IsOthersCycle K c.args.pick m (g.N.Nvm.device c.advance.new.nvm)) (sym left.0)
    (subst (λ x. IsOthersCycle K c.args.pick c.args.self.now (g.N.Nvm.device x)) (sym left.1) (c.advance.ensures.others is))

pub returns-in-Ok-None-clause-steps : goal.returns-in-Ok-None-clause-steps
returns-in-Ok-None-clause-steps g c =
    let K = kind_over g.S.Scheme.scheme in
    let new = g.N.Nvm.device c.take_other.new.nvm in
    let left = c.advance.ensures.left (c.in-Ok-None.is ∙ ap Ok c.in-Ok-None.field-0-is) in
    subst (λ m. Simulates K c.args.start.now c.args.pick m c.take_other.new.self (g.N.Nvm.device c.args.nvm.now) new c.take_other.result) left.0
    (subst (λ x. Simulates K c.args.start.now c.args.pick c.advance.new.self c.take_other.new.self (g.N.Nvm.device x) new c.take_other.result) left.1 c.take_other.ensures.steps)

pub returns-in-Ok-None-clause-safe : goal.returns-in-Ok-None-clause-safe
returns-in-Ok-None-clause-safe g c =
    let K = kind_over g.S.Scheme.scheme in
    let new = g.N.Nvm.device c.take_other.new.nvm in
    let left = c.advance.ensures.left (c.in-Ok-None.is ∙ ap Ok c.in-Ok-None.field-0-is) in
    subst (λ m. FailsSafe K c.args.start.now c.args.pick m c.take_other.new.self (g.N.Nvm.device c.args.nvm.now) new c.take_other.result) left.0
    (subst (λ x. FailsSafe K c.args.start.now c.args.pick c.advance.new.self c.take_other.new.self (g.N.Nvm.device x) new c.take_other.result) left.1 c.take_other.ensures.safe)
