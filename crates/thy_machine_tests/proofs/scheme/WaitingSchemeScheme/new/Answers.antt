use Rattle.thy_machine_tests.proofs.CallLemmas.{powers, power-dram}
use Rattle.thy_machine_tests.proofs.scheme.WaitingSchemeScheme.new.Goals as goal

pub returns-clause-powered : goal.returns-clause-powered
returns-clause-powered c = powers c.args.geometry.now c.args.dram c.requires c.power_on.result c.power_on.ensures

pub returns-clause-dram : goal.returns-clause-dram
returns-clause-dram c = power-dram c.args.geometry.now c.args.dram c.power_on.result c.power_on.ensures
