use Rattle.std.proofs.Common.{sym}
use Rattle.thy_gap.proofs.CopyLemmas.{line_inside, queued_line, queued_as, whole_here, line_below}
use Rattle.thy_gap.proofs.gap.Gap.line_write.Goals as goal

pub line-requires-clause-whole : goal.line-requires-clause-whole
line-requires-clause-whole g c =
    whole_here c.self.invariant c.args.i c.args.inner.now (rw (sym c.self.view_is) at c.requires.up) (rw (sym c.self.view_is) at c.requires.index)
    (rw (sym c.self.view_is) at c.requires.inner)

pub line-requires-clause-other : goal.line-requires-clause-other
line-requires-clause-other g c =
    (line_inside c.self.inside.registers c.args.inner.now.at
    (queued_line c.self.invariant c.args.i c.args.inner.now (rw (sym c.self.view_is) at c.requires.up) (rw (sym c.self.view_is) at c.requires.index)
    (rw (sym c.self.view_is) at c.requires.inner))).0

pub line-requires-clause-within : goal.line-requires-clause-within
line-requires-clause-within g c =
    (line_inside c.self.inside.registers c.args.inner.now.at
    (queued_line c.self.invariant c.args.i c.args.inner.now (rw (sym c.self.view_is) at c.requires.up) (rw (sym c.self.view_is) at c.requires.index)
    (rw (sym c.self.view_is) at c.requires.inner))).1

pub returns-clause-write : goal.returns-clause-write
returns-clause-write g c =
    rw (sym c.self.view_is)
    (queued_as c.self.invariant c.args.i c.args.inner.now (rw (sym c.self.view_is) at c.requires.up) (rw (sym c.self.view_is) at c.requires.index)
    (rw (sym c.self.view_is) at c.requires.inner) c.line.result c.line.ensures)

pub returns-clause-place : goal.returns-clause-place
returns-clause-place g c =
    rw (sym c.self.view_is)
    (line_below c.self.invariant c.args.i c.args.inner.now (rw (sym c.self.view_is) at c.requires.up) (rw (sym c.self.view_is) at c.requires.index)
    (rw (sym c.self.view_is) at c.requires.inner) c.line.result c.line.ensures)
