use Rattle.std.proofs.Common.{◌<◌, ◌≤◌, [], ◌∷◌, ◌++◌, length, take, sym, ◌∙◌, ap, arith}
use Rattle.std.proofs.lemmas.List.{take_all, take_more}
use Rattle.thy_block.specs.declared.nvm.Write.{Write}
use Rattle.sweep.proofs.account.keep_queue.Goals as goal

pub loop-i-init : goal.loop-i-init
loop-i-init g c = c.clear.ensures.items

pub loop-i-preserved : goal.loop-i-preserved
loop-i-preserved g c =
    let l = c.loop-i in
    let w : Write = c.waiting.result in
    let queue = (g.N.Nvm.device c.args.nvm.now).queue in
    let inside : l.i < length queue = omega (arith, c.queued-i-end.ensures, c.loop-i-test.true) in
    c.in_ok-push.ensures.items ∙ ap (λ xs. xs ++ w ∷ []) l.invariant
    ∙ ap (λ (x : Write). take l.i queue ++ x ∷ []) (sym (c.waiting.ensures.write w)) ∙ sym (take_more queue l.i w inside)

pub returns : goal.returns
returns g c =
    let l = c.loop-i in
    let queue = (g.N.Nvm.device c.args.nvm.now).queue in
    let end : length queue ≤ l.i = omega (arith, c.queued-i-end.ensures, c.loop-i-test.false) in
    l.invariant ∙ take_all l.i queue end
