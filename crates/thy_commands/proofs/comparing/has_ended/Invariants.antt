use Rattle.std.proofs.Common.{◌≡◌, take}
use Rattle.thy_run.specs.Cuts.{has_ended}
use Rattle.thy_commands.proofs.comparing.has_ended.Given as goal

abbrev pub invariant-loop-i : goal.invariant-loop-i
invariant-loop-i l = l.ended ≡ has_ended (take l.i l.events)
