use Rattle.std.proofs.Common.{◌≡◌, ◌≤◌, take}
use Rattle.thy_text.specs.Lines.{turns_by}
use Rattle.thy_text.proofs.line.count_turns.Given as goal

-- how many of the first turns are the hart's, and no more than they are
abbrev pub invariant-loop-turn : goal.invariant-loop-turn
invariant-loop-turn l = record {
  count : l.count ≡ turns_by l.hart (take l.turn-index l.turns);
  few : l.count ≤ l.turn-index;
}
