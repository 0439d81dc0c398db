use Rattle.thy_journal_parts.proofs.FillLemmas.{next_above}
use Rattle.thy_schemes.proofs.journal.fills.RefillFills.fill.Goals as goal

pub fill-requires-clause-entry : goal.fill-requires-clause-entry
fill-requires-clause-entry g c = (next_above c.args.control.now.p c.requires.next.slot c.args.k c.args.k c.requires.next.next).1

pub fill-requires-clause-sized : goal.fill-requires-clause-sized
fill-requires-clause-sized g c = record { nvm = c.requires.sized }
