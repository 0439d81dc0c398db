use Rattle.thy_outcome.specs.Answering.{nvm_of}
use Rattle.thy_outcome.specs.Machines.{by_scheme}
use Rattle.thy_outcome.proofs.AnsweredLaws.{Completes-run, Completes-pair, Completes-compare, Completes-plain, Completes-make}
use Rattle.thy_outcome.proofs.complete_laws.what_is_answered_is_complete.Goals as goal

pub returns-clause-run : goal.returns-clause-run
returns-clause-run g c = Completes-run (by_scheme g.A.Computer.kind g.B.Computer.kind g.C.Computer.kind) (nvm_of g.N.Nvm.device)

pub returns-clause-pair : goal.returns-clause-pair
returns-clause-pair g c = Completes-pair (by_scheme g.A.Computer.kind g.B.Computer.kind g.C.Computer.kind) (nvm_of g.N.Nvm.device)

pub returns-clause-compared : goal.returns-clause-compared
returns-clause-compared g c = Completes-compare (by_scheme g.A.Computer.kind g.B.Computer.kind g.C.Computer.kind) (nvm_of g.N.Nvm.device)

pub returns-clause-plain : goal.returns-clause-plain
returns-clause-plain g c = Completes-plain (by_scheme g.A.Computer.kind g.B.Computer.kind g.C.Computer.kind) (nvm_of g.N.Nvm.device)

pub returns-clause-made : goal.returns-clause-made
returns-clause-made g c = Completes-make (by_scheme g.A.Computer.kind g.B.Computer.kind g.C.Computer.kind) (nvm_of g.N.Nvm.device)
