use Rattle.std.proofs.Common.{sym, subst}
use Rattle.thy_computer.specs.Kind.{IsSnapshot}
use Rattle.thy_run.proofs.gather.boxed_snapshot.Goals as goal

pub returns-in-Ok-clause-state : goal.returns-in-Ok-clause-state
returns-in-Ok-clause-state g c = λ o k is booted.
    subst (IsSnapshot o (g.M.Computer.kind.view o c.args.machine.now (g.N.Nvm.device c.args.nvm.now))) (sym c.in-Ok.ensures.ok)
    (c.in_ok-state.ensures.state o k is booted)
