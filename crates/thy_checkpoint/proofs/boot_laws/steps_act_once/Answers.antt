use Rattle.thy_checkpoint.proofs.ActLemmas.{steps_act, found_stays, failures_act}
use Rattle.thy_checkpoint.proofs.boot_laws.steps_act_once.Goals as goal

pub returns-clause-acts : goal.returns-clause-acts
returns-clause-acts g c = steps_act g.F.Fills.filling g.met.F.Fills.lawful

pub returns-clause-found : goal.returns-clause-found
returns-clause-found g c = found_stays g.F.Fills.filling g.met.F.Fills.lawful

pub returns-clause-failed : goal.returns-clause-failed
returns-clause-failed g c = failures_act g.F.Fills.filling g.met.F.Fills.lawful
