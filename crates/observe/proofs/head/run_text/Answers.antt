use Rattle.std.proofs.Common.{ℕ, Option, List, ◌++◌, ◌∙◌, ap, ap₂, string_bytes}
use Rattle.thy_observe.specs.declared.event_cycle.EventCycle.{EventCycle}
use Rattle.thy_observe.specs.declared.trap.Trap.{Trap}
use Rattle.observe.specs.declared.lines.Stamp.{Stamp}
use Rattle.observe.specs.EventText.{lines_of, stamped}
use Rattle.observe.specs.HeadText.{reporting_of, trap_text}
use Rattle.observe.proofs.HeadLemmas.{run-parts}
use Rattle.observe.proofs.head.run_text.Goals as goal

pub returns : goal.returns
returns c =
    let a = c.args.asked in
    let events = c.args.events.now in
    let broken = c.broken_after-broken.result in
    let cycles = c.in-Some.cycles.now in
    let first = string_bytes c.add_lines.new.text in
    let second = string_bytes c.add_trap.new.text in
    run-parts a c.args.tally.now c.args.calls.now events broken cycles c.totals_of-totals.result c.in_ok-lost.lost first second
    (string_bytes c.add_totals.new.text)
    (λ seen h. ap₂ (λ (s : Stamp) (cs : List EventCycle). stamped s cs events) (c.broken_after-broken.ensures seen h) (c.in-Some.ensures.cycles seen h))
    c.totals_of-totals.ensures
    (c.in_ok-lost.ensures.lines ∙ ap (λ (t : List ℕ). t ++ lines_of (reporting_of a.harts) (stamped broken cycles events)) c.new-text.ensures.bytes)
    c.in_ok-lost.ensures.lost
    (c.in_ok-add_trap.ensures ∙ ap (λ (t : Option Trap). first ++ trap_text a.harts t) c.trap_in.ensures)
    c.in_ok-add_totals.ensures
