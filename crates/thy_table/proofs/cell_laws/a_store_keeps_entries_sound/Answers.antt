use Rattle.thy_table.proofs.StoreLemmas.{IsSoundCell-after_store}
use Rattle.thy_table.proofs.cell_laws.a_store_keeps_entries_sound.Goals as goal

pub returns : goal.returns
returns c = IsSoundCell-after_store
