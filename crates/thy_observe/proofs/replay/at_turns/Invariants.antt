use Rattle.std.proofs.Common.{take}
use Rattle.thy_observe.specs.Replaying.{IsPlainAt}
use Rattle.thy_observe.proofs.replay.at_turns.Given as goal

abbrev pub invariant-loop-i : goal.invariant-loop-i
invariant-loop-i l = IsPlainAt l.geometry l.start (take l.i l.harts) l.plain
