use Rattle.thy_isa.proofs.ProcessorLaws.{finished-as_cpu, crossed-as_cpu, alone-as_cpu, cpu-kept}
use Rattle.thy_isa.proofs.processor.laws.a_list_of_harts_is_a_processor.Goals as goal

pub returns-clause-finished : goal.returns-clause-finished
returns-clause-finished c = finished-as_cpu

pub returns-clause-crossed : goal.returns-clause-crossed
returns-clause-crossed c = crossed-as_cpu

pub returns-clause-alone : goal.returns-clause-alone
returns-clause-alone c = alone-as_cpu

pub returns-clause-kept : goal.returns-clause-kept
returns-clause-kept c = cpu-kept
