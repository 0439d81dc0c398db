use Rattle.std.proofs.Common.{◌∙◌, ap}
use Rattle.thy_computer.specs.NextActor.{stall_at}
use Rattle.thy_scheme.specs.declared.scheme_store.SchemeStore.{SchemeStore}
use Rattle.thy_core.specs.Cycles.{reported}
use Rattle.thy_core.specs.MachineParts.{machine_of, actor_seen}
use Rattle.thy_core.proofs.cycle.take_other.Goals as goal

pub returns-clause-steps : goal.returns-clause-steps
returns-clause-steps g c = record {
  cycle = c.cycle-taken.result;
  behind = machine_of c.cycle-taken.new.m;
  taken = c.cycle-taken.ensures;
  next_is = c.report.ensures.notes;
  result_is = c.report.ensures.says
      ∙ ap (λ stall. reported stall c.has_halted-ended.result c.cycle-taken.result) c.stall_reported.ensures
      ∙ ap (λ ended. reported (stall_at (actor_seen c.args.actor)) ended c.cycle-taken.result) c.has_halted-ended.ensures;
}

pub returns-clause-unmarked : goal.returns-clause-unmarked
returns-clause-unmarked g c = ap (λ (s : SchemeStore _). s.calm) c.report.ensures.store
