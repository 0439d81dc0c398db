use Rattle.std.proofs.Common.{◌<◌, ◌^◌, ℕ, sym, subst, arith}
use Rattle.std.specs.Prelude.{Ok, Err}
use Rattle.thy_block.specs.Device.{Device}
use Rattle.thy_computer.specs.declared.did.Stepped.{Stepped}
use Rattle.thy_computer.specs.Advances.{IsOthersCycle}
use Rattle.thy_run.specs.declared.progress.Progress.{Progress}
use Rattle.thy_run.specs.Going.{HasDrawn, IsStepped}
use Rattle.thy_run.specs.Promises.{StepsOn}
use Rattle.thy_run.specs.Singles.{NextStep}
use Rattle.thy_run.proofs.QuietLemmas.{drawn_on}
use Rattle.thy_run.proofs.singles.step_next.Goals as goal

pub advance-requires-clause-drawn : goal.advance-requires-clause-drawn
advance-requires-clause-drawn g c =
    let h = c.requires.goes in (
      h.0,
      h.1,
      drawn_on g.M.Computer.kind c.args.plan.now h.0 c.args.progress.now
          (g.N.Nvm.device c.args.nvm.now) c.args.done h.1 c.harts.result c.next-pick.new.self c.next-pick.result
          c.harts.ensures.harts c.next-pick.ensures.pick c.next-pick.ensures.after h.2,
    )

-- a hart advanced
pub returns-in-Advanced : goal.returns-in-Advanced
returns-in-Advanced g c = λ fitted turns goes.
    let K = g.M.Computer.kind in
    let plan = c.args.plan.now in
    let p = c.args.progress.now in
    let n = g.N.Nvm.device c.args.nvm.now in
    let d = drawn_on K plan fitted p n c.args.done turns c.harts.result c.next-pick.new.self c.next-pick.result
    c.harts.ensures.harts c.next-pick.ensures.pick c.next-pick.ensures.after goes in
    subst (λ (r : Stepped). IsStepped K plan p c.advance.new.progress n (g.N.Nvm.device c.advance.new.nvm) c.args.done turns r)
    (sym c.stepped.ensures)
    (c.in-Advanced.ensures.advances fitted turns d)

-- the step of the hart failed
pub returns-in-Failed : goal.returns-in-Failed
returns-in-Failed g c = λ fitted turns goes.
    let d = drawn_on g.M.Computer.kind c.args.plan.now fitted c.args.progress.now
    (g.N.Nvm.device c.args.nvm.now) c.args.done turns c.harts.result c.next-pick.new.self c.next-pick.result
    c.harts.ensures.harts c.next-pick.ensures.pick c.next-pick.ensures.after goes in
    c.in-Failed.ensures.advances fitted turns d

-- the cycle is another actor's: nothing was done before it
pub take_other-requires-clause-drawn : goal.take_other-requires-clause-drawn
take_other-requires-clause-drawn g c =
    let K = g.M.Computer.kind in
    let plan = c.args.plan.now in
    let p = c.args.progress.now in
    let n = g.N.Nvm.device c.args.nvm.now in
    let h = c.requires.goes in
    let q : Progress g.row.M.Denot = record p { mix = c.next-pick.new.self } in
    let m = g.N.Nvm.device c.advance.new.nvm in
    let d = drawn_on K plan h.0 p n c.args.done h.1 c.harts.result c.next-pick.new.self c.next-pick.result
    c.harts.ensures.harts c.next-pick.ensures.pick c.next-pick.ensures.after h.2 in
    let left = c.in-Left.ensures.advances h.0 h.1 d in (
      h.0,
      h.1,
      subst (λ (x : Progress g.row.M.Denot). HasDrawn K plan h.0 x m c.args.done h.1 c.next-pick.result) (sym left.0)
          (subst (λ (x : Device). HasDrawn K plan h.0 q x c.args.done h.1 c.next-pick.result) (sym left.1) d),
    )

pub take_other-requires-clause-others : goal.take_other-requires-clause-others
take_other-requires-clause-others g c =
    let K = g.M.Computer.kind in
    let plan = c.args.plan.now in
    let p = c.args.progress.now in
    let n = g.N.Nvm.device c.args.nvm.now in
    let h = c.requires.goes in
    let q : Progress g.row.M.Denot = record p { mix = c.next-pick.new.self } in
    let m = g.N.Nvm.device c.advance.new.nvm in
    let d = drawn_on K plan h.0 p n c.args.done h.1 c.harts.result c.next-pick.new.self c.next-pick.result
    c.harts.ensures.harts c.next-pick.ensures.pick c.next-pick.ensures.after h.2 in
    let left = c.in-Left.ensures.advances h.0 h.1 d in
    subst (λ (x : Progress g.row.M.Denot). IsOthersCycle K c.next-pick.result x.machine m) (sym left.0)
    (subst (λ (x : Device). IsOthersCycle K c.next-pick.result q.machine x) (sym left.1) (c.advance.ensures.others c.in-Left.is))

pub returns-in-Ok : goal.returns-in-Ok
returns-in-Ok g c = λ fitted turns goes.
    let K = g.M.Computer.kind in
    let plan = c.args.plan.now in
    let p = c.args.progress.now in
    let n = g.N.Nvm.device c.args.nvm.now in
    let q : Progress g.row.M.Denot = record p { mix = c.next-pick.new.self } in
    let left_m = g.N.Nvm.device c.advance.new.nvm in
    let next = c.take_other.new.progress in
    let m = g.N.Nvm.device c.take_other.new.nvm in
    let d = drawn_on K plan fitted p n c.args.done turns c.harts.result c.next-pick.new.self c.next-pick.result
    c.harts.ensures.harts c.next-pick.ensures.pick c.next-pick.ensures.after goes in
    let left = c.in-Left.ensures.advances fitted turns d in
    subst (λ (x : Device). StepsOn K plan q next x m c.args.done c.next-pick.result (Ok c.in-Ok.stepped)) left.1
    (subst (λ (x : Progress g.row.M.Denot). StepsOn K plan x next left_m m c.args.done c.next-pick.result (Ok c.in-Ok.stepped)) left.0
    c.in-Ok.ensures) fitted turns d

pub returns-in-Err : goal.returns-in-Err
returns-in-Err g c = λ fitted turns goes.
    let K = g.M.Computer.kind in
    let plan = c.args.plan.now in
    let p = c.args.progress.now in
    let n = g.N.Nvm.device c.args.nvm.now in
    let q : Progress g.row.M.Denot = record p { mix = c.next-pick.new.self } in
    let left_m = g.N.Nvm.device c.advance.new.nvm in
    let next = c.take_other.new.progress in
    let m = g.N.Nvm.device c.take_other.new.nvm in
    let d = drawn_on K plan fitted p n c.args.done turns c.harts.result c.next-pick.new.self c.next-pick.result
    c.harts.ensures.harts c.next-pick.ensures.pick c.next-pick.ensures.after goes in
    let left = c.in-Left.ensures.advances fitted turns d in
    subst (λ (x : Device). StepsOn K plan q next x m c.args.done c.next-pick.result (Err c.in-Err.field-0)) left.1
    (subst (λ (x : Progress g.row.M.Denot). StepsOn K plan x next left_m m c.args.done c.next-pick.result (Err c.in-Err.field-0)) left.0
    c.in-Err.ensures) fitted turns d
