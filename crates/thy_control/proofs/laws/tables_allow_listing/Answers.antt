use Rattle.thy_control.proofs.BootLemmas.{MayListBlock-by, MayListPage-by}
use Rattle.thy_control.proofs.laws.tables_allow_listing.Goals as goal

pub returns-clause-block : goal.returns-clause-block
returns-clause-block c = MayListBlock-by

pub returns-clause-page : goal.returns-clause-page
returns-clause-page c = MayListPage-by
