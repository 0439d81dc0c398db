use Rattle.thy_observe.proofs.AccessLemmas.{IsLogged}
use Rattle.thy_observe.proofs.accesses.list_accesses.Given as goal

-- the run continues, and the accesses of its cycles up to here are listed
abbrev pub invariant-loop-done : goal.invariant-loop-done
invariant-loop-done g l =
    IsLogged g.M.Computer.kind l.plan (g.N.Nvm.device l.initial.nvm.inner) l.window l.progress (g.N.Nvm.device l.nvm.inner) l.done l.under_way l.rows.items
