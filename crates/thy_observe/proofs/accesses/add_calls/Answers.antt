use Rattle.std.proofs.Common.{arith}
use Rattle.thy_observe.specs.Accesses.{access_of}
use Rattle.thy_observe.proofs.AccessLemmas.{rows-more}
use Rattle.thy_observe.proofs.accesses.add_calls.Goals as goal

pub loop-call-preserved : goal.loop-call-preserved
loop-call-preserved c =
    rows-more (access_of c.args.cycle c.args.cause) c.args.rows.now.items c.loop-call.rows.items c.add_call.new.rows.items
    c.args.calls.now c.loop-call.call-index _ (omega arith) c.loop-call.invariant c.in_ok-add_call.ensures
