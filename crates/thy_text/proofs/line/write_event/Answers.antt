use Rattle.std.proofs.Common.{rules}
use Rattle.thy_text.proofs.line.write_event.Goals as goal

pub returns-in-Commit-clause-wrote : goal.returns-in-Commit-clause-wrote
returns-in-Commit-clause-wrote g c = rw c.in-Commit.is c.write_numbers.ensures

pub returns-in-Cut-clause-wrote : goal.returns-in-Cut-clause-wrote
returns-in-Cut-clause-wrote g c = rw c.in-Cut.is c.write_numbers-in-Cut.ensures

pub returns-in-Reload-clause-wrote : goal.returns-in-Reload-clause-wrote
returns-in-Reload-clause-wrote g c = search rules

pub returns-in-Restart-clause-wrote : goal.returns-in-Restart-clause-wrote
returns-in-Restart-clause-wrote g c = search rules
