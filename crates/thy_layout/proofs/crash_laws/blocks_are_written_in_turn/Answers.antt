use Rattle.thy_layout.proofs.FixedLemmas.{ReadsFirst-more, ReadsFirst-elsewhere, ReadsFirst-drained}
use Rattle.thy_layout.proofs.crash_laws.blocks_are_written_in_turn.Goals as goal

pub returns-clause-next : goal.returns-clause-next
returns-clause-next c = ReadsFirst-more

pub returns-clause-elsewhere : goal.returns-clause-elsewhere
returns-clause-elsewhere c = ReadsFirst-elsewhere

pub returns-clause-drain : goal.returns-clause-drain
returns-clause-drain c = ReadsFirst-drained
