use Rattle.std.proofs.Common.{◌≡◌, ◌+◌, length, get_or, sym, ◌∙◌, ap, arith}
use Rattle.thy_block.specs.declared.nvm.Write.{Write}
use Rattle.thy_block.specs.Device.{block_at}
use Rattle.sweep.proofs.account.first_of.Goals as goal

pub returns-then-queued-eq0 : goal.returns-then-queued-eq0
returns-then-queued-eq0 g c = λ v vs q.
    let some : length (g.N.Nvm.device c.args.nvm.now).queue ≡ length vs + 1 = ap length q ∙ omega arith in
    absurd (omega (arith, c.queued.ensures, c.if-queued-eq0.true, some))

pub returns : goal.returns
returns g c = λ v vs q.
    let oldest : c.waiting-at.result ≡ v = sym (c.waiting-at.ensures.write v) ∙ ap (λ xs. get_or xs 0 v) q in
    c.landed.ensures ∙ ap (λ (x : Write). block_at (g.N.Nvm.device c.args.nvm.now).image x.at) oldest
