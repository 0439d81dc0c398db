use Rattle.std.proofs.Common.{◌≡◌, ◌+◌, ◌-◌, ◌++◌, [], ◌∷◌, sym, ◌∙◌, ap, arith}
use Rattle.std.proofs.lemmas.List.{append-nil}
use Rattle.thy_dram.specs.Jumps.{block_powers, doublings}
use Rattle.thy_dram.proofs.JumpLemmas.{doublings-more}
use Rattle.thy_dram.proofs.jumps.block_powers.Goals as goal

pub loop-init : goal.loop-init
unfolding block_powers
loop-init c = ap (λ js. js ++ doublings 64 c.over_a_block-jump.result) c.in_ok-powers.ensures.items ∙ ap (doublings 64) c.over_a_block-jump.ensures

pub loop-preserved : goal.loop-preserved
loop-preserved c =
    ap (λ js. js ++ doublings (64 - (c.loop.counter + 1)) c.twice-jump.result) c.in_ok-push.ensures.items
    ∙ ap (λ j. (c.loop.powers.items ++ c.loop.jump ∷ []) ++ doublings (64 - (c.loop.counter + 1)) j) c.twice-jump.ensures
    ∙ doublings-more c.loop.powers.items 64 c.loop.counter c.loop.jump c.loop-test.true
    ∙ c.loop.invariant

pub returns : goal.returns
returns c =
    let over : 64 - c.loop.counter ≡ 0 = omega arith in
    sym (append-nil c.loop.powers.items)
    ∙ ap (λ n. c.loop.powers.items ++ doublings n c.loop.jump) (sym over)
    ∙ c.loop.invariant
