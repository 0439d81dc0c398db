use Rattle.std.proofs.Common.{◌∙◌}
use Rattle.thy_thynvm_parts.specs.Design.{thynvm_design}
use Rattle.thy_thynvm_parts.proofs.PartsLemmas.{are_parts}
use Rattle.thy_scheme_parts.proofs.BootLemmas.{loading-is}
use Rattle.thy_machine_tests.proofs.scheme.WaitingSchemeScheme.loading.Goals as goal

pub returns : goal.returns
returns c = λ o n boots. c.is_loading.ensures ∙ loading-is thynvm_design are_parts o c.args.self.now.below n boots.below
