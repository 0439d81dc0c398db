use Rattle.thy_isa.proofs.StorableLaws.{step-storable, step-console, step-room, step-cursor}
use Rattle.thy_isa.proofs.laws.what_a_step_keeps.Goals as goal

pub returns-clause-storable : goal.returns-clause-storable
returns-clause-storable c = step-storable

pub returns-clause-console : goal.returns-clause-console
returns-clause-console c = step-console

pub returns-clause-room : goal.returns-clause-room
returns-clause-room c = step-room

pub returns-clause-cursor : goal.returns-clause-cursor
returns-clause-cursor c = step-cursor
