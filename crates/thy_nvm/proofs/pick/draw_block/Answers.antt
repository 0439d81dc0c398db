use Rattle.std.proofs.Common.{◌<◌, ◌+◌, ◌%◌, length, Contains, sym, ap, subst, ◌∙◌, arith}
use Rattle.thy_block.specs.Device.{possible, queued_for, block_at}
use Rattle.thy_block.specs.Lcg.{lcg_draw, lcg_next}
use Rattle.thy_dram.specs.Held.{device_of, choice_at}
use Rattle.thy_nvm.proofs.PickLemmas.{Contains-drawn_block, drawn_block-some}
use Rattle.thy_nvm.proofs.pick.draw_block.Goals as goal

pub returns-clause-block : goal.returns-clause-block
returns-clause-block c =
    let some : 0 < length (queued_for c.args.ring.now.queue c.args.at) = omega (arith, c.requires.count, c.requires.some) in
    c.choice.ensures
    ∙ ap (λ d. choice_at c.args.ring.now c.args.at (d % (c.args.count + 1))) (c.next.ensures.draw ∙ ap lcg_draw c.next.ensures.state)
    ∙ ap (λ n. choice_at c.args.ring.now c.args.at (lcg_draw (lcg_next c.args.draws.now) % (n + 1))) c.requires.count
    ∙ sym (drawn_block-some c.args.draws.now (block_at c.args.ring.now.image c.args.at) (queued_for c.args.ring.now.queue c.args.at) some)

pub returns-clause-one_of : goal.returns-clause-one_of
returns-clause-one_of c =
    subst (λ b. Contains (possible (device_of c.args.ring.now) c.args.at) b) (sym (returns-clause-block c))
    (Contains-drawn_block c.args.draws.now (block_at c.args.ring.now.image c.args.at) (queued_for c.args.ring.now.queue c.args.at))
