use Rattle.std.proofs.Common.{take}
use Rattle.thy_observe.specs.Replaying.{IsReplay, listed_of}
use Rattle.thy_observe.proofs.replay.execute.Given as goal

abbrev pub invariant-loop-dated : goal.invariant-loop-dated
invariant-loop-dated l = IsReplay l.geometry l.start (listed_of l.geometry l.start l.most (take l.dated-index l.listed)) l.replay
