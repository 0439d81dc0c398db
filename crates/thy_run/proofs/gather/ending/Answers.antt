use Rattle.std.proofs.Common.{◌∙◌, sym}
use Rattle.thy_run.proofs.GatherLemmas.{halts_between}
use Rattle.thy_run.proofs.gather.ending.Goals as goal

pub returns-clause-read : goal.returns-clause-read
returns-clause-read g c = λ o k v r is can.
    let halt = sym can.ended ∙ is ∙ c.if-not-ended.false in
    (halt, c.in_ok-state.ensures.state o k can.at_next (halts_between v (g.M.Computer.kind.view o c.args.progress.now.machine (g.N.Nvm.device c.args.nvm.now)) halt))
