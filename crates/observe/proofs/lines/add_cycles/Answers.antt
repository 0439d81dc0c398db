use Rattle.std.proofs.Common.{map, subst, string_bytes, arith}
use Rattle.observe.specs.declared.lines.Stamp.{Stamp}
use Rattle.observe.specs.EventText.{HasAdded, made_in}
use Rattle.observe.proofs.EventLemmas.{Continues-first, between, cycles-more}
use Rattle.observe.proofs.lines.add_cycles.Goals as goal

pub loop-cycle-init : goal.loop-cycle-init
loop-cycle-init c = (omega arith, Continues-first c.args.reporting _ (string_bytes c.args.text.now) c.args.losses.now)

pub end_of-end-requires : goal.end_of-end-requires
end_of-end-requires c = omega (arith, c.loop-cycle.invariant.0, c.len-count.ensures)

pub add_events-requires : goal.add_events-requires
add_events-requires c = record {
  order = omega (arith, c.loop-cycle.invariant.0, c.len-count.ensures, c.end_of-end.ensures);
  inside = omega (arith, c.len-count.ensures, c.end_of-end.ensures);
}

pub loop-cycle-preserved : goal.loop-cycle-preserved
loop-cycle-preserved c =
    let events = c.args.events.now in (
      omega (arith, c.len-count.ensures, c.end_of-end.ensures),
      cycles-more c.args.reporting c.args.broken c.args.cycles.now events c.loop-cycle.cycle-index c.loop-cycle.next c.end_of-end.result c.len-count.result _ _
          (string_bytes c.loop-cycle.text) (string_bytes c.add_events.new.text) (string_bytes c.args.text.now) c.loop-cycle.losses
          c.add_events.new.losses c.args.losses.now (omega arith) c.loop-cycle.invariant.0 c.len-count.ensures c.end_of-end.ensures
          (subst (λ (stamp : Stamp). HasAdded c.args.reporting (map (made_in stamp) (between c.loop-cycle.next c.end_of-end.result events))
          (string_bytes c.loop-cycle.text) c.loop-cycle.losses (string_bytes c.add_events.new.text) c.add_events.new.losses)
          c.stamp_of.ensures c.in_ok-add_events.ensures)
          c.loop-cycle.invariant.1,
    )

pub add_events-requires-2 : goal.add_events-requires-2
add_events-requires-2 c = record {
  order = omega (arith, c.loop-cycle.invariant.0, c.len-count.ensures);
  inside = omega (arith, c.len-count.ensures);
}
