use Rattle.std.proofs.Common.{◌≡◌, ◌<◌, length, sym, ◌∙◌, ap, arith}
use Rattle.std.specs.Prelude.{get_or}
use Rattle.std.proofs.lemmas.List.{take_more_same, get_or_default}
use Rattle.thy_block.specs.declared.nvm.Write.{Write}
use Rattle.thy_sweep.proofs.seen.has_queue.Goals as goal

pub loop-i-preserved : goal.loop-i-preserved
loop-i-preserved g c =
    let l = c.loop-i in
    let w : Write = c.waiting-write.result in
    let seen = c.args.queue.now in
    let queue = (g.N.Nvm.device c.args.nvm.now).queue in
    let inside : l.i < length seen = c.loop-i-test.true in
    let within : l.i < length queue = omega (arith, c.queued.ensures, c.if-queued-queue.false, inside) in
    take_more_same queue seen l.i w within inside l.invariant
    (c.waiting-write.ensures.write w ∙ (c.is_same_write-same.ensures.same c.if-not-same.false) ∙ get_or_default seen l.i _ w inside)

-- a queue of another length is another one
pub returns-then-queued-queue-clause-every : goal.returns-then-queued-queue-clause-every
returns-then-queued-queue-clause-every g c = λ e.
    let n : length (g.N.Nvm.device c.args.nvm.now).queue ≡ length c.args.queue.now = ap length e in
    absurd (omega (arith, c.queued.ensures, c.if-queued-queue.true, n))

-- a queue that has another write is another one too
pub returns-then-not-same-clause-every : goal.returns-then-not-same-clause-every
returns-then-not-same-clause-every g c = λ e.
    let l = c.loop-i in
    let w : Write = c.waiting-write.result in
    let seen = c.args.queue.now in
    let inside : l.i < length seen = c.loop-i-test.true in
    let same = c.is_same_write-same.ensures.every
    (sym (c.waiting-write.ensures.write w) ∙ ap (λ q. get_or q l.i w) e ∙ sym (get_or_default seen l.i _ w inside)) in
    absurd (cc (same, c.if-not-same.true))
