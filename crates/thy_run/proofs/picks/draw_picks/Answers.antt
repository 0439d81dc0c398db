use Rattle.std.proofs.Common.{◌≡◌, ℕ, ◌∙◌, ap, arith}
use Rattle.thy_block.specs.Mix.{mix_next}
use Rattle.thy_run.specs.Picks.{after_picks}
use Rattle.thy_run.proofs.PicksLemmas.{after_picks-more}
use Rattle.thy_run.proofs.picks.draw_picks.Goals as goal

pub loop-drawn-preserved : goal.loop-drawn-preserved
loop-drawn-preserved c =
    c.next.ensures.after ∙ ap (mix_next c.args.harts) c.loop-drawn.invariant ∙ after_picks-more c.args.harts c.loop-drawn.drawn c.args.mix.now

pub returns : goal.returns
returns c =
    let end : c.loop-drawn.drawn ≡ c.args.picks = omega (arith, c.loop-drawn-test.false, c.loop-drawn.auto.drawn-end) in
    c.loop-drawn.invariant ∙ ap (λ (k : ℕ). after_picks c.args.harts k c.args.mix.now) end
