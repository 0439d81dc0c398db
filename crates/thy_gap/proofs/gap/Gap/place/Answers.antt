use Rattle.std.proofs.Common.{sym}
use Rattle.thy_gap.proofs.SoundLemmas.{line_seen}
use Rattle.thy_gap.proofs.gap.Gap.place.Goals as goal

pub place-requires-clause-line : goal.place-requires-clause-line
place-requires-clause-line g c = line_seen c.self.invariant c.args.line (rw (sym c.self.view_is) at c.requires)
