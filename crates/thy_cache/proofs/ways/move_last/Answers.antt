use Rattle.std.proofs.Common.{◌≡◌, ◌+◌, ◌-◌, length, ap, ◌∙◌, arith}
use Rattle.std.specs.List.{slice_set}
use Rattle.thy_cache.proofs.ShiftLemmas.{shift-step, shift-end}
use Rattle.thy_cache.proofs.ways.move_last.Goals as goal

pub loop-k-preserved : goal.loop-k-preserved
loop-k-preserved c =
    shift-step c.args.order.now.items c.loop-k.order.items c.args.at c.loop-k.k c.index.result.now c.requires (omega arith) (omega arith)
    c.loop-k.invariant c.index.ensures

pub returns : goal.returns
returns c =
    let end : c.loop-k.k + 1 ≡ length c.args.order.now.items = omega (arith, c.requires) in
    let last : c.len-last.result - 1 ≡ c.loop-k.k = omega (arith, c.requires) in
    ap (λ j. slice_set c.loop-k.order.items j c.args.way) last
    ∙ shift-end c.args.order.now.items c.loop-k.order.items c.args.at c.loop-k.k c.args.way c.requires end c.loop-k.invariant
