use Rattle.std.proofs.Common.{◌==◌, length, refl, sym, ◌∙◌}
use Rattle.std.proofs.lemmas.Bool.{and_parts, eqb-true}
use Rattle.thy_computer.specs.NextActor.{Advances}
use Rattle.thy_scheme.proofs.MomentLaws.{sound-here}
use Rattle.thy_core.specs.MachineParts.{machine_of}
use Rattle.thy_core.specs.Turns.{hart_of}
use Rattle.thy_core.proofs.CalmLaws.{calm_turn}
use Rattle.thy_core.proofs.TakenLaws.{at_run, moment_of, turned}
use Rattle.thy_core.proofs.step.step_row.Goals as goal

pub only_harts-requires : goal.only_harts-requires
only_harts-requires g c =
    let run = c.requires.can in
    (sound-here g.S.Scheme.scheme run.o run.cycles (machine_of c.args.m.now) (g.N.Nvm.device c.args.nvm.now) run.at_moment).up

pub execute_row-requires-clause-calm : goal.execute_row-requires-clause-calm
execute_row-requires-clause-calm g c =
    let queued = length (g.N.Nvm.device c.args.nvm.now).queue in
    c.requires.known (and_parts c.args.m.now.store.calm (queued == 0) (sym c.only_harts.ensures ∙ c.if-only_harts.true)).0

pub execute_row-requires-clause-empty : goal.execute_row-requires-clause-empty
execute_row-requires-clause-empty g c =
    let queued = length (g.N.Nvm.device c.args.nvm.now).queue in
    eqb-true queued 0 (and_parts c.args.m.now.store.calm (queued == 0) (sym c.only_harts.ensures ∙ c.if-only_harts.true)).1

pub execute_row-requires-clause-turn : goal.execute_row-requires-clause-turn
execute_row-requires-clause-turn g c =
    let K = g.S.Scheme.scheme in
    let m = machine_of c.args.m.now in
    let n = g.N.Nvm.device c.args.nvm.now in
    let run = c.requires.can in
    let at = at_run K g.met.S.Scheme.lawful run.o run.cycles m n (sound-here K run.o run.cycles m n run.at_moment) run.few in
    record {
      o = run.o;
      cycles = run.cycles;
      of_kind = run.begins;
      at_moment = at;
      turn = turned K run.o run.cycles c.args.pick (length n.queue) (Advances (hart_of K c.args.pick m)) m n
          (moment_of K run.o run.cycles m n at) refl
          (sym (calm_turn K m (execute_row-requires-clause-calm g c) c.args.pick (length n.queue) (execute_row-requires-clause-empty g c)));
    }
