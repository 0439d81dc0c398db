use Rattle.std.proofs.Common.{◌≡◌, ◌<◌, get_or, length, refl, sym, ◌∙◌, ap, subst, true, arith}
use Rattle.thy_block.specs.declared.block.Block.{Block}
use Rattle.thy_block.specs.declared.nvm.Write.{Write}
use Rattle.thy_block.specs.Device.{block_at}
use Rattle.thy_sweep.specs.Images.{is_same_block}
use Rattle.thy_sweep.proofs.ImageLemmas.{block_same, same_block}
use Rattle.thy_sweep.proofs.RepeatLemmas.{seen_first}
use Rattle.thy_sweep.proofs.seen.has_first.Goals as goal

pub returns-clause-seen : goal.returns-clause-seen
returns-clause-seen g c = λ e. record {
  queued = refl;
  landed = λ v vs q.
      let oldest : c.waiting-at.result ≡ v = sym (c.waiting-at.ensures.write v) ∙ ap (λ xs. get_or xs 0 v) q in
      same_block c.args.first.now c.landed.result (sym c.eq.ensures ∙ e) ∙ c.landed.ensures
      ∙ ap (λ (x : Write). block_at (g.N.Nvm.device c.args.nvm.now).image x.at) oldest;
}

pub returns-clause-every : goal.returns-clause-every
returns-clause-every g c = λ seen.
    let n = (g.N.Nvm.device c.args.nvm.now) in
    let first = c.args.first.now in
    let oldest = c.waiting-at.result in
    let some : 0 < length n.queue = omega (arith, c.queued.ensures, c.if-queued-eq0.false) in
    let here : first ≡ c.landed.result
    = seen_first n first oldest seen some ∙ ap (λ (x : Write). block_at n.image x.at) (c.waiting-at.ensures.write oldest) ∙ sym c.landed.ensures in
    c.eq.ensures ∙ subst (λ (b : Block). is_same_block first b ≡ true) here (block_same first)
