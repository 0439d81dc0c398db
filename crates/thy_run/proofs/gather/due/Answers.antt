use Rattle.std.proofs.Common.{subst, sym, ◌∙◌}
use Rattle.thy_block.specs.Bytes.{bytes_of}
use Rattle.thy_computer.specs.CoreStep.{CoreStep}
use Rattle.thy_run.proofs.GatherLemmas.{due_shown}
use Rattle.thy_run.proofs.gather.due.Goals as goal

pub returns-clause-read : goal.returns-clause-read
returns-clause-read g c = λ o k v r is can.
    due_shown o v (g.M.Computer.kind.view o c.args.progress.now.machine (g.N.Nvm.device c.args.nvm.now)) c.args.did
    c.args.progress.now.events c.args.progress.now.released
    (bytes_of c.in_ok-bytes.bytes)
    (subst (λ d. CoreStep o v d (g.M.Computer.kind.view o c.args.progress.now.machine (g.N.Nvm.device c.args.nvm.now))) is can.step)
    (sym c.shows_console.ensures ∙ c.if-not-shows_console.false) can.released
    (λ m booted done. c.in_ok-bytes.ensures.console o k m can.at_next booted done)
