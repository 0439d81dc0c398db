use Rattle.thy_test_support.proofs.RunLemmas.{neither}
use Rattle.thy_test_support.specs.Waiting.{is_waiting}
use Rattle.thy_thynvm_parts.specs.Scheme.{thynvm_scheme}
use Rattle.thy_machine_tests.proofs.CallLemmas.{seals-on}
use Rattle.thy_machine_tests.proofs.scheme.WaitingSchemeScheme.seal.Goals as goal

pub seal_epoch-requires-clause-idle : goal.seal_epoch-requires-clause-idle
seal_epoch-requires-clause-idle c = (neither (thynvm_scheme.under_way c.args.self.now.below) (is_waiting c.args.self.now) c.requires.idle).0

pub returns-clause-seals : goal.returns-clause-seals
returns-clause-seals c = λ o k n stands.
    seals-on o k c.args.cpu.now c.args.epoch c.args.self.now c.seal_epoch.new.self n c.seal_epoch.ensures c.requires.idle c.requires.whole
    c.requires.bare stands
