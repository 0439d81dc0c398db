use Rattle.std.proofs.Common.{arith}
use Rattle.thy_text.specs.Seen.{event_of}
use Rattle.observe.proofs.HeadLemmas.{turn-done, turn-more}
use Rattle.observe.proofs.trap.last_turn.Goals as goal

pub loop-i-preserved : goal.loop-i-preserved
loop-i-preserved c =
    turn-more c.loop-i.last _ _ c.args.events.now c.loop-i.i (event_of c.get.result.now) (omega (arith, c.len-i-end.ensures)) c.get.ensures c.turn_after-last.ensures
    c.loop-i.invariant

pub returns : goal.returns
returns c = turn-done c.loop-i.last _ c.args.events.now c.loop-i.i (omega (arith, c.len-i-end.ensures)) c.loop-i.invariant
