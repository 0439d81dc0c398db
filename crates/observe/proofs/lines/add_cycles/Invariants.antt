use Rattle.std.proofs.Common.{◌≤◌, drop, length, string_bytes}
use Rattle.observe.specs.EventText.{stamped}
use Rattle.observe.proofs.EventLemmas.{Continues}
use Rattle.observe.proofs.lines.add_cycles.Given as goal

abbrev pub invariant-loop-cycle : goal.invariant-loop-cycle
invariant-loop-cycle l =
    (l.next ≤ length l.events)
    × Continues l.fn.reporting (stamped l.fn.broken (drop l.cycle-index l.cycles) (drop l.next l.events)) (string_bytes l.text) l.losses
    (stamped l.fn.broken l.cycles l.events) (string_bytes l.fn.text) l.fn.losses
