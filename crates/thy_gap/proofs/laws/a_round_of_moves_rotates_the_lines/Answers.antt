use Rattle.thy_gap.proofs.RoundLemmas.{round-rotates, round-shifts, round-moves_each}
use Rattle.thy_gap.proofs.TurnLemmas.{each-place_comes}
use Rattle.thy_gap.proofs.laws.a_round_of_moves_rotates_the_lines.Goals as goal

pub returns-clause-registers : goal.returns-clause-registers
returns-clause-registers c = round-rotates

pub returns-clause-lines : goal.returns-clause-lines
returns-clause-lines c = round-shifts

pub returns-clause-each : goal.returns-clause-each
returns-clause-each c = round-moves_each

pub returns-clause-places : goal.returns-clause-places
returns-clause-places c = each-place_comes
