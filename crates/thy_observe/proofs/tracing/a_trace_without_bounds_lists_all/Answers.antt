use Rattle.thy_observe.proofs.TraceLemmas.{lists-all}
use Rattle.thy_observe.proofs.tracing.a_trace_without_bounds_lists_all.Goals as goal

pub returns : goal.returns
returns c = lists-all
