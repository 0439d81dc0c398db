use Rattle.std.proofs.Common.{sym, ◌∙◌}
use Rattle.thy_sweep.proofs.BootLemmas.{IsFramed-same}
use Rattle.thy_sweep.proofs.TriedLemmas.{none_restored, some_restored}
use Rattle.thy_sweep.proofs.trial.trial.restored.Goals as goal

pub returns-then-not-has_restored-clause-state : goal.returns-then-not-has_restored-clause-state
returns-then-not-has_restored-clause-state g c = λ o k here left.
    none_restored o c.args.part c.args.booted (sym c.has_restored.ensures ∙ c.if-not-has_restored.true)

pub returns-clause-state : goal.returns-clause-state
returns-clause-state g c = λ o k here left.
    some_restored o (g.M.Computer.kind.view o c.args.machine.now (g.N.Nvm.device c.args.nvm.now)) c.args.part c.args.booted c.in_ok-state.state
    (sym c.has_restored.ensures ∙ c.if-not-has_restored.false) left (c.in_ok-state.ensures.state o k here)

pub returns-then-not-has_restored-clause-frame : goal.returns-then-not-has_restored-clause-frame
returns-then-not-has_restored-clause-frame g c = IsFramed-same (g.N.Nvm.device c.args.nvm.now)
