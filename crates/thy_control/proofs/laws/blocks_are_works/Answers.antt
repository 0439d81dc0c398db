use Rattle.thy_control.proofs.HoldingLemmas.{AreWorks-holding, length-works}
use Rattle.thy_control.proofs.laws.blocks_are_works.Goals as goal

pub returns-clause-works : goal.returns-clause-works
returns-clause-works c = AreWorks-holding

pub returns-clause-all : goal.returns-clause-all
returns-clause-all c = length-works
