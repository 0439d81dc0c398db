use Rattle.thy_control.proofs.BootLemmas.{HaveTables-boot, IsBooting-new}
use Rattle.thy_control.proofs.laws.a_new_controller_boots.Goals as goal

pub returns-clause-new : goal.returns-clause-new
returns-clause-new c = IsBooting-new

pub returns-clause-drained : goal.returns-clause-drained
returns-clause-drained c s boot = record { idle = boot.idle; blocks = boot.blocks; pages = boot.pages }

pub returns-clause-tables : goal.returns-clause-tables
returns-clause-tables c = HaveTables-boot
