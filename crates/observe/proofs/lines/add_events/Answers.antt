use Rattle.std.proofs.Common.{arith, string_bytes}
use Rattle.thy_text.specs.Seen.{event_of}
use Rattle.observe.proofs.EventLemmas.{Continues-first, events-done, events-more}
use Rattle.observe.proofs.lines.add_events.Goals as goal

pub loop-i-init : goal.loop-i-init
loop-i-init c = Continues-first c.args.reporting _ (string_bytes c.args.text.now) c.args.losses.now

pub loop-i-preserved : goal.loop-i-preserved
loop-i-preserved c =
    events-more c.args.reporting c.args.stamp c.args.events.now c.loop-i.i c.args.end (event_of c.get.result.now) _ (string_bytes c.loop-i.text)
    (string_bytes c.add_event.new.text) (string_bytes c.args.text.now) c.loop-i.losses c.add_event.new.losses c.args.losses.now
    (omega arith) c.requires.inside c.get.ensures c.in_ok-add_event.ensures.text c.in_ok-add_event.ensures.losses c.loop-i.invariant

pub returns : goal.returns
returns c =
    events-done c.args.reporting c.args.stamp c.args.events.now c.loop-i.i c.args.end _ (string_bytes c.loop-i.text) (string_bytes c.args.text.now)
    c.loop-i.losses c.args.losses.now (omega arith) c.loop-i.invariant
