use Rattle.thy_thynvm_parts.specs.Design.{thynvm_design}
use Rattle.thy_thynvm_parts.proofs.PartsLemmas.{are_parts}
use Rattle.thy_composed_scheme.proofs.CallLemmas.{cut_sized}
use Rattle.thy_machine_tests.proofs.scheme.WaitingSchemeScheme.cut.Goals as goal

pub returns-clause-sized : goal.returns-clause-sized
returns-clause-sized c = λ p of. cut_sized thynvm_design are_parts c.args.self.below c.args.pick c.power_off.result c.power_off.ensures p of
