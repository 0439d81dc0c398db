use Rattle.std.proofs.Common.{◌≡◌, ◌∙◌, ap, subst, arith}
use Rattle.std.specs.Prelude.{IfSome}
use Rattle.thy_block.specs.declared.nvm.Shape.{Shape}
use Rattle.thy_block.specs.Device.{Device, fitted}
use Rattle.thy_outcome.proofs.LawLemmas.{some_blocks}
use Rattle.thy_execute.proofs.PlanLemmas.{fitted_for_plan}
use Rattle.thy_execute.specs.Planning.{shape_of}
use Rattle.thy_observe.specs.Accesses.{HasAccesses}
use Rattle.observe.proofs.again.rows_over.Goals as goal

pub fit-requires-clause-blocks : goal.fit-requires-clause-blocks
fit-requires-clause-blocks g c =
    let some = some_blocks c.args.plan.now.geometry in
    omega (arith, some, ap (λ (s : Shape). s.blocks) c.shape_of-shape.ensures.shape ∙ c.requires.reads.blocks)

pub fit-requires-clause-start : goal.fit-requires-clause-start
fit-requires-clause-start g c =
    (fitted_for_plan g.M.Computer.kind g.met.M.Computer.lawful c.args.plan.now c.requires.reads c.args.blocks.items c.shape_of-shape.result
    (g.N.Nvm.device c.args.nvm.now.inner) c.requires.can (ap (λ (s : Shape). s.blocks) c.shape_of-shape.ensures.shape)).fits

pub list_accesses-requires-clause-planned : goal.list_accesses-requires-clause-planned
list_accesses-requires-clause-planned g c = c.requires.can.planned

pub list_accesses-requires-clause-fitted : goal.list_accesses-requires-clause-fitted
list_accesses-requires-clause-fitted g c = record {
  shape = c.shape_of-shape.result;
  start = c.args.blocks.items;
  before = g.N.Nvm.device c.args.nvm.now.inner;
  fits =
      fitted_for_plan g.M.Computer.kind g.met.M.Computer.lawful c.args.plan.now c.requires.reads c.args.blocks.items c.shape_of-shape.result
      (g.N.Nvm.device c.args.nvm.now.inner) c.requires.can (ap (λ (s : Shape). s.blocks) c.shape_of-shape.ensures.shape);
  queue = ap (λ (s : Shape). s.queue) c.shape_of-shape.ensures.shape;
  cuts = ap (λ (s : Shape). s.cuts) c.shape_of-shape.ensures.shape;
  is_fitted = c.in-Ok.ensures.ok;
}

pub returns-in-Ok : goal.returns-in-Ok
returns-in-Ok g c =
    let K = g.M.Computer.kind in
    let plan = c.args.plan.now in
    let blocks = c.args.blocks.items in
    let old : Device = g.N.Nvm.device c.args.nvm.now.inner in
    let fit : g.N.Nvm.device c.fit.new.self.inner ≡ fitted (shape_of K plan) blocks old =
    c.in-Ok.ensures.ok ∙ ap (λ (s : Shape). fitted s blocks old) c.shape_of-shape.ensures.shape in
    subst (λ (n : Device). IfSome c.list_accesses.result (λ rows. HasAccesses K plan n c.args.window rows.items)) fit c.list_accesses.ensures
