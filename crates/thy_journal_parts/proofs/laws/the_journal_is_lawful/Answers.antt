use Rattle.thy_scheme_parts.proofs.LawfulLemmas.{lawful}
use Rattle.thy_journal_parts.specs.Design.{journal_design}
use Rattle.thy_journal_parts.proofs.PartsLemmas.{are_parts}
use Rattle.thy_journal_parts.proofs.laws.the_journal_is_lawful.Goals as goal

pub returns : goal.returns
returns c = lawful journal_design are_parts
