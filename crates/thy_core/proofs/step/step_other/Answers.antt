use Rattle.std.proofs.Common.{sym, ◌∙◌, ap}
use Rattle.thy_computer.specs.NextActor.{Advances}
use Rattle.thy_scheme.proofs.MomentLaws.{sound-here}
use Rattle.thy_core.specs.MachineParts.{machine_of, actor_seen, next_actor_seen}
use Rattle.thy_core.proofs.CalmLaws.{knows_nothing}
use Rattle.thy_core.proofs.TakenLaws.{at_run, moment_of, actor_is, turned, reported_steps, reported_fails, reported_counts, reported_notes}
use Rattle.thy_core.proofs.step.step_other.Goals as goal

pub queued-requires : goal.queued-requires
queued-requires g c =
    let run = c.requires.can in
    (sound-here g.S.Scheme.scheme run.o run.cycles (machine_of c.args.m.now) (g.N.Nvm.device c.args.nvm.now) run.at_moment).up

-- no hart that advances has the turn
pub unreachable-requires : goal.unreachable-requires
unreachable-requires g c =
    let K = g.S.Scheme.scheme in
    let m = machine_of c.args.m.now in
    let n = g.N.Nvm.device c.args.nvm.now in
    let run = c.requires.can in
    let at = at_run K g.met.S.Scheme.lawful run.o run.cycles m n (sound-here K run.o run.cycles m n run.at_moment) run.few in
    c.requires.others run.o run.cycles c.in-Advances.field-0 run.at_moment
    (sym (actor_is K run.o run.cycles c.args.pick c.queued.result (Advances c.in-Advances.field-0) m n (moment_of K run.o run.cycles m n at) c.queued.ensures
    (sym (ap next_actor_seen c.in-Advances.is) ∙ c.actor_of.ensures)))

pub take_other-requires : goal.take_other-requires
take_other-requires g c =
    let K = g.S.Scheme.scheme in
    let m = machine_of c.args.m.now in
    let n = g.N.Nvm.device c.args.nvm.now in
    let run = c.requires.can in
    let at = at_run K g.met.S.Scheme.lawful run.o run.cycles m n (sound-here K run.o run.cycles m n run.at_moment) run.few in
    record {
      o = run.o;
      cycles = run.cycles;
      of_kind = run.begins;
      at_moment = at;
      turn = turned K run.o run.cycles c.args.pick c.queued.result (actor_seen c.in-Other.actor) m n
          (moment_of K run.o run.cycles m n at) c.queued.ensures
          (sym (ap next_actor_seen c.in-Other.is) ∙ c.actor_of.ensures);
    }

pub returns-clause-steps : goal.returns-clause-steps
returns-clause-steps g c =
    reported_steps g.S.Scheme.scheme g.met.S.Scheme.lawful c.args.start.now c.args.pick c.queued.result (actor_seen c.in-Other.actor)
    (machine_of c.args.m.now) (machine_of c.take_other.new.m) (g.N.Nvm.device c.args.nvm.now)
    (g.N.Nvm.device c.take_other.new.nvm) c.take_other.result
    c.queued.ensures (sym (ap next_actor_seen c.in-Other.is) ∙ c.actor_of.ensures) c.take_other.ensures.steps

pub returns-clause-safe : goal.returns-clause-safe
returns-clause-safe g c =
    reported_fails g.S.Scheme.scheme g.met.S.Scheme.lawful c.args.start.now c.args.pick c.queued.result (actor_seen c.in-Other.actor)
    (machine_of c.args.m.now) (machine_of c.take_other.new.m) (g.N.Nvm.device c.args.nvm.now)
    (g.N.Nvm.device c.take_other.new.nvm) c.take_other.result
    c.queued.ensures (sym (ap next_actor_seen c.in-Other.is) ∙ c.actor_of.ensures) c.take_other.ensures.steps

pub returns-clause-frame : goal.returns-clause-frame
returns-clause-frame g c = c.take_other.ensures.steps.taken.frame

pub returns-clause-cause : goal.returns-clause-cause
returns-clause-cause g c =
    reported_counts g.S.Scheme.scheme g.met.S.Scheme.lawful c.args.start.now c.args.pick c.queued.result (actor_seen c.in-Other.actor)
    (machine_of c.args.m.now) (machine_of c.take_other.new.m) (g.N.Nvm.device c.args.nvm.now)
    (g.N.Nvm.device c.take_other.new.nvm) c.take_other.result
    c.queued.ensures (sym (ap next_actor_seen c.in-Other.is) ∙ c.actor_of.ensures) c.take_other.ensures.steps

pub returns-clause-failed : goal.returns-clause-failed
returns-clause-failed g c =
    reported_notes g.S.Scheme.scheme g.met.S.Scheme.lawful c.args.start.now c.args.pick c.queued.result (actor_seen c.in-Other.actor)
    (machine_of c.args.m.now) (machine_of c.take_other.new.m) (g.N.Nvm.device c.args.nvm.now)
    (g.N.Nvm.device c.take_other.new.nvm) c.take_other.result
    c.queued.ensures (sym (ap next_actor_seen c.in-Other.is) ∙ c.actor_of.ensures) c.take_other.ensures.steps c.requires.can

pub returns-clause-known : goal.returns-clause-known
returns-clause-known g c = knows_nothing g.S.Scheme.scheme c.take_other.new.m c.take_other.ensures.unmarked
