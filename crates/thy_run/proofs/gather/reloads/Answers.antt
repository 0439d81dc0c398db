use Rattle.thy_computer.specs.Views.{loads}
use Rattle.thy_run.proofs.GatherLemmas.{reload_is}
use Rattle.thy_run.proofs.gather.reloads.Goals as goal

pub returns-then-progress : goal.returns-then-progress
returns-then-progress g c = λ o k v n r can.
    reload_is c.args.progress.now.fresh (g.M.Computer.kind.has_read c.args.progress.now.machine)
    (loads (g.M.Computer.kind.view o c.args.progress.now.machine n)) c.loading-loads.result
    can.read (c.loading-loads.ensures o k n can.at_next) c.if-progress.true
