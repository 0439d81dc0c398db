use Rattle.std.proofs.Common.{rules}
use Rattle.thy_nvm.proofs.call_faults.CallFaults.next.Goals as goal

pub returns-clause-fault : goal.returns-clause-fault
returns-clause-fault c = search rules

pub returns-clause-counted : goal.returns-clause-counted
returns-clause-counted c = search rules
