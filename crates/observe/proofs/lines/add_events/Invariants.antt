use Rattle.std.proofs.Common.{map, string_bytes}
use Rattle.observe.specs.EventText.{made_in}
use Rattle.observe.proofs.EventLemmas.{Continues, between}
use Rattle.observe.proofs.lines.add_events.Given as goal

abbrev pub invariant-loop-i : goal.invariant-loop-i
invariant-loop-i l =
    Continues l.fn.reporting (map (made_in l.fn.stamp) (between l.i l.fn.end l.events)) (string_bytes l.text) l.losses
    (map (made_in l.fn.stamp) (between l.fn.first l.fn.end l.events)) (string_bytes l.fn.text) l.fn.losses
