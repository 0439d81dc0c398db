use Rattle.std.proofs.Common.{◌<◌, length, sym, ap, ◌∙◌, arith}
use Rattle.thy_block.specs.Device.{queued_for}
use Rattle.thy_dram.specs.Held.{put_at}
use Rattle.thy_nvm.proofs.PickLemmas.{drawn_seed-some}
use Rattle.thy_nvm.proofs.pick.draw_place.Goals as goal

pub returns-then-count-gt0-clause-ring : goal.returns-then-count-gt0-clause-ring
returns-then-count-gt0-clause-ring c = c.put.ensures ∙ ap (put_at c.args.ring.now c.args.at) c.draw_block-chosen.ensures.block

pub returns-then-count-gt0-clause-draws : goal.returns-then-count-gt0-clause-draws
returns-then-count-gt0-clause-draws c =
    let some : 0 < length (queued_for c.args.ring.now.queue c.args.at) = omega arith in
    c.draw_block-chosen.ensures.draws ∙ sym (drawn_seed-some c.args.draws.now (queued_for c.args.ring.now.queue c.args.at) some)
