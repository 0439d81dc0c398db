use Rattle.std.proofs.Common.{ℕ, ◌∙◌, sym, ap, subst}
use Rattle.thy_block.specs.declared.mix.Pick.{Pick}
use Rattle.thy_block.specs.Bytes.{bytes_of, room_of}
use Rattle.thy_computer.specs.Kind.{LeavesSafe}
use Rattle.thy_run.specs.Going.{line_of, HasRoomToList}
use Rattle.thy_run.specs.World.{turns_after}
use Rattle.thy_run.proofs.AdvanceLemmas.{StepsAlong, progress_stepped, begins_of, at_of, can_step, steps_of, steps_room, steps_hart}
use Rattle.thy_run.proofs.advance.take_other.Goals as goal

pub take_other-requires-clause-can : goal.take_other-requires-clause-can
take_other-requires-clause-can g c =
    let h = c.requires.drawn in
    can_step g.M.Computer.kind g.met.M.Computer.lawful c.args.plan.now h.0 (record c.args.progress.now { mix = h.2.mix })
    (g.N.Nvm.device c.args.nvm.now) c.args.done h.1 c.requires.planned h.2.goes c.requires.few

pub list_turn-requires-clause-room : goal.list_turn-requires-clause-room
list_turn-requires-clause-room g c =
    let K = g.M.Computer.kind in
    let laws = g.met.M.Computer.lawful in
    let plan = c.args.plan.now in
    let h = c.requires.drawn in
    let p = record c.args.progress.now { mix = h.2.mix } in
    let n = g.N.Nvm.device c.args.nvm.now in
    let m = g.N.Nvm.device c.take_other.new.nvm in
    let s = steps_of K laws plan h.0 p n c.args.done h.1 c.requires.planned h.2.goes c.args.pick c.take_other.new.self m
    c.in-Ok.stepped c.requires.few
    (λ o i begins at few. c.in-Ok.ensures.steps o i begins at few) in
    let R : ℕ → Type 0 = λ harts. HasRoomToList harts (bytes_of p.turns) (room_of p.turns) c.in-Ok.stepped.did in
    subst R (sym c.harts.ensures.harts)
    (steps_room K laws plan h.0 p n c.args.done h.1 c.requires.planned h.2.goes c.args.pick c.take_other.new.self m c.in-Ok.stepped s)

pub list_turn-requires-clause-hart : goal.list_turn-requires-clause-hart
list_turn-requires-clause-hart g c =
    let K = g.M.Computer.kind in
    let laws = g.met.M.Computer.lawful in
    let plan = c.args.plan.now in
    let h = c.requires.drawn in
    let p = record c.args.progress.now { mix = h.2.mix } in
    let n = g.N.Nvm.device c.args.nvm.now in
    let m = g.N.Nvm.device c.take_other.new.nvm in
    let s = steps_of K laws plan h.0 p n c.args.done h.1 c.requires.planned h.2.goes c.args.pick c.take_other.new.self m
    c.in-Ok.stepped c.requires.few
    (λ o i begins at few. c.in-Ok.ensures.steps o i begins at few) in
    steps_hart K laws plan h.0 p n c.args.done h.1 c.requires.planned h.2.goes c.args.pick c.take_other.new.self m c.in-Ok.stepped s

pub returns-in-Err : goal.returns-in-Err
returns-in-Err g c = λ fitted turns d.
    let K = g.M.Computer.kind in
    let laws = g.met.M.Computer.lawful in
    let plan = c.args.plan.now in
    let p = record c.args.progress.now { mix = d.mix } in
    let n = g.N.Nvm.device c.args.nvm.now in
    let at = at_of K laws plan fitted p n c.args.done turns c.requires.planned d.goes in
    let begins = begins_of K laws plan fitted p n c.args.done turns c.requires.planned d.goes turns in
    let P : Pick → Type 0 = λ pick. LeavesSafe K (line_of plan turns) pick p.machine c.take_other.new.self n (g.N.Nvm.device c.take_other.new.nvm) in
    record {
      leaves = subst P d.drawn.pick_is (c.in-Err.ensures.safe (line_of plan turns) c.args.done begins at);
      framed = c.take_other.ensures.frame;
      rose = c.in-Err.ensures.cause;
      same = progress_stepped p c.take_other.new.self plan.geometry.harts c.args.progress.now.mix p.turns d.drawn.after_is;
    }

pub returns-in-Ok : goal.returns-in-Ok
returns-in-Ok g c = λ fitted turns d.
    let K = g.M.Computer.kind in
    let laws = g.met.M.Computer.lawful in
    let plan = c.args.plan.now in
    let p = record c.args.progress.now { mix = d.mix } in
    let n = g.N.Nvm.device c.args.nvm.now in
    let m = g.N.Nvm.device c.take_other.new.nvm in
    let r = c.in-Ok.stepped in
    let S : Pick → Type 0 = λ pick. StepsAlong K plan p n c.args.done turns pick c.take_other.new.self m r in
    let s = subst S d.drawn.pick_is
    (steps_of K laws plan fitted p n c.args.done turns c.requires.planned d.goes c.args.pick c.take_other.new.self m r c.requires.few
    (λ o i begins at few. c.in-Ok.ensures.steps o i begins at few)) in
    record {
      agree = s.agree;
      alike = s.alike;
      is_step = s.is_step;
      framed = c.take_other.ensures.frame;
      faults = c.in-Ok.ensures.cause;
      same = progress_stepped p c.take_other.new.self plan.geometry.harts c.args.progress.now.mix c.list_turn.new.turns d.drawn.after_is;
      listed = c.list_turn.ensures.turns ∙ ap (λ harts. turns_after harts (bytes_of p.turns) r.did) c.harts.ensures.harts;
      turns_room = c.list_turn.ensures.room;
    }
