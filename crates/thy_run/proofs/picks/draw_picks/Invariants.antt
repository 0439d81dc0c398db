use Rattle.std.proofs.Common.{◌≡◌}
use Rattle.thy_run.specs.Picks.{after_picks}
use Rattle.thy_run.proofs.picks.draw_picks.Given as goal

abbrev pub invariant-loop-drawn : goal.invariant-loop-drawn
invariant-loop-drawn l = l.mix ≡ after_picks l.harts l.drawn l.fn.mix
