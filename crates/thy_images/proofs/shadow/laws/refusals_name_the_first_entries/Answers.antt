use Rattle.thy_images.proofs.ShadowTableRefusalLemmas.{map_says, map_found}
use Rattle.thy_images.proofs.shadow.laws.refusals_name_the_first_entries.Goals as goal

pub returns-clause-found : goal.returns-clause-found
returns-clause-found c = map_says

pub returns-clause-so : goal.returns-clause-so
returns-clause-so c = map_found
