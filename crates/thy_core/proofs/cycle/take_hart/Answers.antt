use Rattle.std.proofs.Common.{None, refl, sym, ◌∙◌, ap}
use Rattle.thy_computer.specs.NextActor.{Advances}
use Rattle.thy_core.specs.Cycles.{HasStart, HasInput, did_by, stepped_by, reported}
use Rattle.thy_core.specs.MachineParts.{machine_of}
use Rattle.thy_core.proofs.CalmLaws.{knows_noted, not_halted}
use Rattle.thy_core.proofs.CycleLaws.{taken_is, reported_by}
use Rattle.thy_core.proofs.cycle.take_hart.Goals as goal

pub returns-clause-steps : goal.returns-clause-steps
returns-clause-steps g c =
    let K = g.S.Scheme.scheme in
    let m = machine_of c.args.m.now in
    let n = g.N.Nvm.device c.args.nvm.now in
    let behind = machine_of c.execute-taken.new.m in
    let new = g.N.Nvm.device c.execute-taken.new.nvm in
    let run = c.requires.take in
    record {
      cycle = did_by c.execute-taken.result;
      behind = behind;
      taken = taken_is K (HasInput c.as_slice.result.now) (HasStart c.args.start.now) (Advances c.args.hart) (Advances c.args.hart) m behind n new
          (did_by c.execute-taken.result) refl (λ o begins. begins.input ∙ sym c.as_slice.ensures) c.execute-taken.ensures.taken;
      next_is = c.note.ensures.notes;
      result_is = ap stepped_by c.note.ensures.same
          ∙ reported_by c.execute-taken.result
          ∙ ap (λ ended. reported None ended (did_by c.execute-taken.result))
          (not_halted m.phase behind.phase run.turn.goes.phase c.execute-taken.ensures.phase);
    }

pub returns-clause-known : goal.returns-clause-known
returns-clause-known g c =
    knows_noted g.S.Scheme.scheme c.execute-taken.new.m c.note.new.m
    (did_by c.execute-taken.result) c.execute-taken.ensures.known c.note.ensures.store c.note.ensures.notes
