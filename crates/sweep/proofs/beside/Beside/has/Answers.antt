use Rattle.std.proofs.Common.{Option, sym, subst, inl, inr}
use Rattle.thy_sweep.specs.declared.trial.part.Restored.{Restored}
use Rattle.sweep.specs.Findings.{IsOfSealed}
use Rattle.sweep.proofs.beside.Beside.has.Goals as goal

pub returns-then-are_same : goal.returns-then-are_same
returns-then-are_same c = λ e. inl (c.are_same.ensures c.if-are_same.true)

pub returns-in-Some : goal.returns-in-Some
returns-in-Some c = λ e.
    inr (subst (λ (o : Option Restored). IsOfSealed c.args.self.now.compared o c.args.state.now) (sym c.in-Some.is) (c.are_same-in-Some.ensures e))
