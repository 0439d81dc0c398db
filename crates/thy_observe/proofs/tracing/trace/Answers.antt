use Rattle.std.proofs.Common.{subst, sym, take, arith}
use Rattle.std.proofs.lemmas.List.Sums.{fold_more}
use Rattle.thy_observe.specs.Tracing.{IsTrace, Trace, no_trace, trace_by, trace_for}
use Rattle.thy_observe.proofs.tracing.trace.Goals as goal

pub loop-dated-preserved : goal.loop-dated-preserved
loop-dated-preserved c =
    let p = c.args.geometry.now in
    let start = c.args.start.now in
    let w = c.args.window in
    let changes = c.args.listed.now in
    let i = c.loop-dated.dated-index in
    subst (λ (t : Trace). IsTrace p start t c.in_ok-tracer.tracer)
    (sym (fold_more (trace_by p start w) no_trace changes i _ (omega arith)))
    (c.in_ok-tracer.ensures (trace_for p start w (take i changes)) c.loop-dated.invariant)
