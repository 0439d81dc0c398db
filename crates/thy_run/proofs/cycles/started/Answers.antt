use Rattle.thy_run.proofs.StartLemmas.{first_is}
use Rattle.thy_run.proofs.cycles.started.Goals as goal

pub returns : goal.returns
returns g c = record {
  powered = c.in_ok-machine.ensures.powered;
  dram = c.in_ok-machine.ensures.dram;
  first = first_is c.args.plan.now c.in_ok-machine.machine c.in_ok-turns.turns c.new.result c.new-2.result c.new.ensures c.new-2.ensures;
  empty = c.in_ok-turns.ensures.empty;
  room = c.in_ok-turns.ensures.room;
}
