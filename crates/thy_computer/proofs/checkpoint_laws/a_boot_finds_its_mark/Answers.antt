use Rattle.thy_computer.proofs.KeepsLemmas.{HasKept-first, finding_view-meant}
use Rattle.thy_computer.proofs.checkpoint_laws.a_boot_finds_its_mark.Goals as goal

pub returns-clause-first : goal.returns-clause-first
returns-clause-first c = HasKept-first

pub returns-clause-shows : goal.returns-clause-shows
returns-clause-shows c = finding_view-meant
