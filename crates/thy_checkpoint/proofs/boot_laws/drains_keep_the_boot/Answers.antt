use Rattle.thy_checkpoint.proofs.FoundLemmas.{drains_keep_boot, drains_move}
use Rattle.thy_checkpoint.proofs.boot_laws.drains_keep_the_boot.Goals as goal

pub returns-clause-keep : goal.returns-clause-keep
returns-clause-keep g c = drains_keep_boot g.F.Fills.filling g.met.F.Fills.lawful

pub returns-clause-moves : goal.returns-clause-moves
returns-clause-moves g c = drains_move g.F.Fills.filling g.met.F.Fills.lawful
