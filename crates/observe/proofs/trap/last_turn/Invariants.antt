use Rattle.std.proofs.Common.{◌≡◌, drop, None}
use Rattle.observe.specs.HeadText.{last_turn}
use Rattle.observe.proofs.trap.last_turn.Given as goal

abbrev pub invariant-loop-i : goal.invariant-loop-i
invariant-loop-i l = last_turn l.last (drop l.i l.events) ≡ last_turn None l.events
