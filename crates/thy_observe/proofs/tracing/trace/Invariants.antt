use Rattle.std.proofs.Common.{take}
use Rattle.thy_observe.specs.Tracing.{IsTrace, trace_for}
use Rattle.thy_observe.proofs.tracing.trace.Given as goal

abbrev pub invariant-loop-dated : goal.invariant-loop-dated
invariant-loop-dated l = IsTrace l.geometry l.start (trace_for l.geometry l.start l.window (take l.dated-index l.listed)) l.tracer
