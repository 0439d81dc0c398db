use Rattle.thy_sweep.proofs.RepeatLemmas.{seen_still, stays_since}
use Rattle.thy_sweep.proofs.seen.is_still.Goals as goal

pub returns-then-has_queue-clause-stays : goal.returns-then-has_queue-clause-stays
returns-then-has_queue-clause-stays g c = λ e.
    stays_since c.args.queue.now c.args.first.now (g.N.Nvm.device c.args.nvm.now) (c.has_queue.ensures.same c.if-has_queue.true) (c.has_first.ensures.seen e)

pub returns-then-has_queue-clause-every : goal.returns-then-has_queue-clause-every
returns-then-has_queue-clause-every g c = λ seen.
    c.has_first.ensures.every (seen_still c.args.queue.now c.args.first.now (g.N.Nvm.device c.args.nvm.now) seen)

pub returns-else-has_queue-clause-every : goal.returns-else-has_queue-clause-every
returns-else-has_queue-clause-every g c = λ seen. absurd (cc (c.has_queue.ensures.every seen.queued, c.if-has_queue.false))
