use Rattle.std.proofs.Common.{Ok, ℕ, ◌∙◌, sym, ap, subst}
use Rattle.thy_block.specs.declared.mix.Pick.{Pick}
use Rattle.thy_block.specs.Bytes.{bytes_of, room_of}
use Rattle.thy_computer.specs.Kind.{LeavesSafe, Simulates}
use Rattle.thy_computer.specs.Advances.{IfAdvanced, stepped_of}
use Rattle.thy_run.specs.Going.{line_of, HasRoomToList}
use Rattle.thy_run.specs.World.{turns_after}
use Rattle.thy_run.proofs.AdvanceLemmas.{StepsAlong, progress_stepped, begins_of, at_of, can_step, steps_of, steps_room}
use Rattle.thy_run.proofs.advance.advance.Goals as goal

pub advance-requires : goal.advance-requires
advance-requires g c =
    let h = c.requires.drawn in
    can_step g.M.Computer.kind g.met.M.Computer.lawful c.args.plan.now h.0 (record c.args.progress.now { mix = h.2.mix })
    (g.N.Nvm.device c.args.nvm.now) c.args.done h.1 c.requires.planned h.2.goes c.requires.few

pub list_advance-requires : goal.list_advance-requires
list_advance-requires g c =
    let K = g.M.Computer.kind in
    let laws = g.met.M.Computer.lawful in
    let plan = c.args.plan.now in
    let h = c.requires.drawn in
    let p = record c.args.progress.now { mix = h.2.mix } in
    let n = g.N.Nvm.device c.args.nvm.now in
    let m = g.N.Nvm.device c.advance.new.nvm in
    let r = stepped_of c.in-Ok-Some.advance in
    let s = steps_of K laws plan h.0 p n c.args.done h.1 c.requires.planned h.2.goes c.args.pick c.advance.new.self m r c.requires.few
    (subst (λ a. IfAdvanced a (Simulates K plan.start c.args.pick p.machine c.advance.new.self n m))
    (c.in-Ok-Some.is ∙ ap Ok c.in-Ok-Some.field-0-is) c.advance.ensures.steps) in
    let R : ℕ → Type 0 = λ harts. HasRoomToList harts (bytes_of p.turns) (room_of p.turns) r.did in
    subst R (sym c.harts.ensures.harts)
    (steps_room K laws plan h.0 p n c.args.done h.1 c.requires.planned h.2.goes c.args.pick c.advance.new.self m r s)

pub returns-in-Ok-Some-clause-advances : goal.returns-in-Ok-Some-clause-advances
returns-in-Ok-Some-clause-advances g c = λ fitted turns d.
    let K = g.M.Computer.kind in
    let laws = g.met.M.Computer.lawful in
    let plan = c.args.plan.now in
    let p = record c.args.progress.now { mix = d.mix } in
    let n = g.N.Nvm.device c.args.nvm.now in
    let m = g.N.Nvm.device c.advance.new.nvm in
    let r = stepped_of c.in-Ok-Some.advance in
    let S : Pick → Type 0 = λ pick. StepsAlong K plan p n c.args.done turns pick c.advance.new.self m r in
    let s = subst S d.drawn.pick_is
    (steps_of K laws plan fitted p n c.args.done turns c.requires.planned d.goes c.args.pick c.advance.new.self m r c.requires.few
    (subst (λ a. IfAdvanced a (Simulates K plan.start c.args.pick p.machine c.advance.new.self n m)) (c.in-Ok-Some.is ∙ ap Ok c.in-Ok-Some.field-0-is) c.advance.ensures.steps)) in
    record {
      agree = s.agree;
      alike = s.alike;
      is_step = s.is_step;
      framed = c.advance.ensures.frame;
      faults = c.in-Ok-Some.ensures.cause;
      same = progress_stepped p c.advance.new.self plan.geometry.harts c.args.progress.now.mix c.list_advance.new.turns d.drawn.after_is;
      listed = c.list_advance.ensures.turns ∙ ap (λ harts. turns_after harts (bytes_of p.turns) r.did) c.harts.ensures.harts;
      turns_room = c.list_advance.ensures.room;
    }

-- no hart advanced, and nothing is done
pub returns-in-Ok-None-clause-advances : goal.returns-in-Ok-None-clause-advances
returns-in-Ok-None-clause-advances g c = λ fitted turns d.
    let left = c.advance.ensures.left (c.in-Ok-None.is ∙ ap Ok c.in-Ok-None.field-0-is) in (
      ap (λ m. record c.args.progress.now { machine = m }) left.0,
      ap g.N.Nvm.device left.1,
    )

pub returns-in-Err-clause-advances : goal.returns-in-Err-clause-advances
returns-in-Err-clause-advances g c = λ fitted turns d.
    let K = g.M.Computer.kind in
    let laws = g.met.M.Computer.lawful in
    let plan = c.args.plan.now in
    let p = record c.args.progress.now { mix = d.mix } in
    let n = g.N.Nvm.device c.args.nvm.now in
    let at = at_of K laws plan fitted p n c.args.done turns c.requires.planned d.goes in
    let begins = begins_of K laws plan fitted p n c.args.done turns c.requires.planned d.goes turns in
    let P : Pick → Type 0 = λ pick. LeavesSafe K (line_of plan turns) pick p.machine c.advance.new.self n (g.N.Nvm.device c.advance.new.nvm) in
    record {
      leaves = subst P d.drawn.pick_is (c.in-Err.ensures.safe (line_of plan turns) c.args.done begins at);
      framed = c.advance.ensures.frame;
      rose = c.in-Err.ensures.cause;
      same = progress_stepped p c.advance.new.self plan.geometry.harts c.args.progress.now.mix p.turns d.drawn.after_is;
    }

pub returns-in-Ok-None-clause-others : goal.returns-in-Ok-None-clause-others
returns-in-Ok-None-clause-others g c = λ _. c.advance.ensures.others (c.in-Ok-None.is ∙ ap Ok c.in-Ok-None.field-0-is)
