use Rattle.std.proofs.Common.{length, Result, Ok, Err, refl, sym, ◌∙◌, ap}
use Rattle.thy_block.specs.declared.nvm.NvmError.{NvmError}
use Rattle.thy_computer.specs.declared.did.Stepped.{Stepped}
use Rattle.thy_computer.specs.Advances.{stepped_of}
use Rattle.thy_computer.specs.NextActor.{Advances}
use Rattle.thy_scheme.proofs.MomentLaws.{sound-here}
use Rattle.thy_core.specs.MachineParts.{machine_of, next_actor_seen}
use Rattle.thy_core.proofs.TakenLaws.{at_run, moment_of, turned, others_turn, reported_steps, reported_fails, reported_notes}
use Rattle.thy_core.proofs.step.step_hart.Goals as goal

pub actor_now-requires-clause-up : goal.actor_now-requires-clause-up
actor_now-requires-clause-up g c =
    let run = c.requires.can in
    (sound-here g.S.Scheme.scheme run.o run.cycles (machine_of c.args.m.now) (g.N.Nvm.device c.args.nvm.now) run.at_moment).up

pub take_hart-requires-clause-take : goal.take_hart-requires-clause-take
take_hart-requires-clause-take g c =
    let K = g.S.Scheme.scheme in
    let m = machine_of c.args.m.now in
    let n = g.N.Nvm.device c.args.nvm.now in
    let run = c.requires.can in
    let at = at_run K g.met.S.Scheme.lawful run.o run.cycles m n (sound-here K run.o run.cycles m n run.at_moment) run.few in
    record {
      o = run.o;
      cycles = run.cycles;
      of_kind = run.begins;
      at_moment = at;
      turn = turned K run.o run.cycles c.args.pick (length n.queue) (Advances c.in-Advances.hart) m n (moment_of K run.o run.cycles m n at) refl
          (sym (ap next_actor_seen c.in-Advances.is) ∙ c.actor_now.ensures);
    }

pub returns-in-Ok-clause-steps : goal.returns-in-Ok-clause-steps
returns-in-Ok-clause-steps g c =
    reported_steps g.S.Scheme.scheme g.met.S.Scheme.lawful c.args.start.now c.args.pick (length (g.N.Nvm.device c.args.nvm.now).queue)
    (Advances c.in-Advances.hart)
    (machine_of c.args.m.now) (machine_of c.take_hart.new.m) (g.N.Nvm.device c.args.nvm.now) (g.N.Nvm.device c.take_hart.new.nvm)
    (Ok (stepped_of c.in-Ok.advance))
    refl (sym (ap next_actor_seen c.in-Advances.is) ∙ c.actor_now.ensures) c.in-Ok.ensures.steps

pub returns-in-Ok-clause-failed : goal.returns-in-Ok-clause-failed
returns-in-Ok-clause-failed g c =
    reported_notes g.S.Scheme.scheme g.met.S.Scheme.lawful c.args.start.now c.args.pick (length (g.N.Nvm.device c.args.nvm.now).queue)
    (Advances c.in-Advances.hart)
    (machine_of c.args.m.now) (machine_of c.take_hart.new.m) (g.N.Nvm.device c.args.nvm.now) (g.N.Nvm.device c.take_hart.new.nvm)
    (Ok (stepped_of c.in-Ok.advance))
    refl (sym (ap next_actor_seen c.in-Advances.is) ∙ c.actor_now.ensures) c.in-Ok.ensures.steps c.requires.can

pub returns-in-Err-clause-safe : goal.returns-in-Err-clause-safe
returns-in-Err-clause-safe g c =
    let result : Result Stepped NvmError = Err c.in-Err.error in
    reported_fails g.S.Scheme.scheme g.met.S.Scheme.lawful c.args.start.now c.args.pick (length (g.N.Nvm.device c.args.nvm.now).queue)
    (Advances c.in-Advances.hart)
    (machine_of c.args.m.now) (machine_of c.take_hart.new.m) (g.N.Nvm.device c.args.nvm.now) (g.N.Nvm.device c.take_hart.new.nvm) result
    refl (sym (ap next_actor_seen c.in-Advances.is) ∙ c.actor_now.ensures) c.in-Err.ensures.steps

pub returns-in-Other-clause-others : goal.returns-in-Other-clause-others
returns-in-Other-clause-others g c = λ _.
    others_turn g.S.Scheme.scheme g.met.S.Scheme.lawful c.args.pick (length (g.N.Nvm.device c.args.nvm.now).queue) c.in-Other.field-0
    (machine_of c.args.m.now) (g.N.Nvm.device c.args.nvm.now)
    refl (sym (ap next_actor_seen c.in-Other.is) ∙ c.actor_now.ensures)

pub returns-in-Other-clause-failed : goal.returns-in-Other-clause-failed
returns-in-Other-clause-failed g c =
    let run = c.requires.can in
    (sound-here g.S.Scheme.scheme run.o run.cycles (machine_of c.args.m.now) (g.N.Nvm.device c.args.nvm.now) run.at_moment).unfailed
