use Rattle.thy_sweep.proofs.LeadLemmas.{leads_are_of_boots}
use Rattle.thy_sweep.proofs.lead.leads_are_of_their_boots.Goals as goal

pub returns : goal.returns
returns c = leads_are_of_boots
