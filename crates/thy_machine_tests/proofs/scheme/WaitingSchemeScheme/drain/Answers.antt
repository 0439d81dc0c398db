use Rattle.thy_machine_tests.proofs.CallLemmas.{boot-drains-on, drains-on}
use Rattle.thy_machine_tests.proofs.scheme.WaitingSchemeScheme.drain.Goals as goal

pub returns-clause-running : goal.returns-clause-running
returns-clause-running c = λ o k n stands. drains-on o k c.args.self.now c.drain_one.new.self n c.drain_one.ensures c.requires stands

pub returns-clause-booting : goal.returns-clause-booting
returns-clause-booting c = λ o n booting. boot-drains-on o c.args.self.now c.drain_one.new.self n c.drain_one.ensures c.requires booting
