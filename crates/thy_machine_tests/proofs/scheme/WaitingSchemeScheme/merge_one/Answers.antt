use Rattle.thy_machine_tests.proofs.CallLemmas.{merges-none, merges-on}
use Rattle.thy_machine_tests.proofs.scheme.WaitingSchemeScheme.merge_one.Goals as goal

pub returns-clause-some : goal.returns-clause-some
returns-clause-some c = λ some o k n stands.
    merges-on o k c.args.self.now c.merge_next.new.self n c.merge_next.ensures c.requires.idle some stands

pub returns-clause-none : goal.returns-clause-none
returns-clause-none c = λ none. merges-none c.args.self.now c.merge_next.new.self c.merge_next.ensures none
