use Rattle.thy_block.specs.Device.{possible}
use Rattle.thy_block.proofs.MadeLemmas.{IsMadeOf-either}
use Rattle.thy_layout.proofs.crash_laws.one_word_is_not_torn.Goals as goal

pub returns : goal.returns
returns c = λ n x a d b apart each left. IsMadeOf-either (possible n x) a d b apart each left.words
