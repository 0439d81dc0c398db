use Rattle.std.proofs.Common.{subst}
use Rattle.thy_computer.specs.CoreStep.{CoreStep}
use Rattle.thy_run.proofs.GatherLemmas.{restores_some}
use Rattle.thy_run.proofs.gather.restored.Goals as goal

pub returns-in_ok-state-in-Restarted-clause-read : goal.returns-in_ok-state-in-Restarted-clause-read
returns-in_ok-state-in-Restarted-clause-read g c = λ o k v r is can.
    restores_some o v (g.M.Computer.kind.view o c.args.progress.now.machine (g.N.Nvm.device c.args.nvm.now)) c.args.did
    c.in-Restarted.field-0 c.in-Restarted.field-1
    c.in_ok-state-in-Restarted.state c.in-Restarted.is
    (subst (λ d. CoreStep o v d (g.M.Computer.kind.view o c.args.progress.now.machine (g.N.Nvm.device c.args.nvm.now))) is can.step)
    (c.in_ok-state-in-Restarted.ensures.state o k can.at_next)
