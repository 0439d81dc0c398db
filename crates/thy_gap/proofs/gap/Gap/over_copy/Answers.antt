use Rattle.std.proofs.Common.{sym}
use Rattle.thy_gap.proofs.CopyLemmas.{sound_copied, image_copied, crash_copied}
use Rattle.thy_gap.proofs.SoundLemmas.{line_seen}
use Rattle.thy_gap.proofs.gap.Gap.over_copy.Goals as goal

pub invariant_of-result : goal.invariant_of-result
invariant_of-result g c =
    sound_copied c.self.invariant (line_seen c.self.invariant 0 (rw (sym c.self.view_is) at c.requires.some)) (rw (sym c.self.view_is) at c.requires.up)
    (g.C.Nvm.device c.args.copy) (rw (sym c.self.view_is) at c.requires.left) c.requires.empty c.requires.unkept c.requires.room

pub returns-clause-image : goal.returns-clause-image
returns-clause-image g c =
    image_copied c.self.invariant (line_seen c.self.invariant 0 (rw (sym c.self.view_is) at c.requires.some)) (rw (sym c.self.view_is) at c.requires.up)
    (g.C.Nvm.device c.args.copy) (rw (sym c.self.view_is) at c.requires.left)

pub returns-clause-crash : goal.returns-clause-crash
returns-clause-crash g c =
    rw (sym c.self.view_is)
    (crash_copied c.self.invariant (line_seen c.self.invariant 0 (rw (sym c.self.view_is) at c.requires.some)) (rw (sym c.self.view_is) at c.requires.up)
    (g.C.Nvm.device c.args.copy) (rw (sym c.self.view_is) at c.requires.left))
