use Rattle.thy_checkpoint.proofs.SafeLemmas.{sound_may_step, may_go_on}
use Rattle.thy_checkpoint.proofs.boot_laws.a_boot_may_go_on.Goals as goal

pub returns-clause-may : goal.returns-clause-may
returns-clause-may g c = sound_may_step g.F.Fills.filling g.met.F.Fills.lawful

pub returns-clause-on : goal.returns-clause-on
returns-clause-on g c = may_go_on g.F.Fills.filling g.met.F.Fills.lawful
