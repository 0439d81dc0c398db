use Rattle.thy_scheme_parts.proofs.LawfulLemmas.{lawful}
use Rattle.thy_shadow_parts.specs.Design.{shadow_design}
use Rattle.thy_shadow_parts.proofs.PartsLemmas.{are_parts}
use Rattle.thy_shadow_parts.proofs.laws.shadow_paging_is_lawful.Goals as goal

pub returns : goal.returns
returns c = lawful shadow_design are_parts
