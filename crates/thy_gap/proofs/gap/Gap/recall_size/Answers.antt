use Rattle.std.proofs.Common.{sym}
use Rattle.thy_gap.proofs.CopyLemmas.{inner_size, inner_room}
use Rattle.thy_gap.proofs.SoundLemmas.{line_seen}
use Rattle.thy_gap.proofs.gap.Gap.recall_size.Goals as goal

pub returns-clause-blocks : goal.returns-clause-blocks
returns-clause-blocks g c =
    rw (sym c.self.view_is) (inner_size c.self.invariant (line_seen c.self.invariant 0 (rw (sym c.self.view_is) at c.requires)))

pub returns-clause-room : goal.returns-clause-room
returns-clause-room g c =
    rw (sym c.self.view_is) (inner_room c.self.invariant (line_seen c.self.invariant 0 (rw (sym c.self.view_is) at c.requires)))
