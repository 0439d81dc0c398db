use Rattle.thy_block.proofs.CrashLemmas.{Crash-of_blocks, Crash-whole}
use Rattle.thy_block.proofs.DeviceLemmas.{HoldsNoMore-of_blocks, HoldsNoMore-but_block}
use Rattle.thy_layout.proofs.crash_laws.whole_blocks_are_words.Goals as goal

pub returns-clause-words : goal.returns-clause-words
returns-clause-words c = Crash-of_blocks

pub returns-clause-whole : goal.returns-clause-whole
returns-clause-whole c = Crash-whole

pub returns-clause-failed : goal.returns-clause-failed
returns-clause-failed c = HoldsNoMore-of_blocks

pub returns-clause-failed_write : goal.returns-clause-failed_write
returns-clause-failed_write c = HoldsNoMore-but_block
