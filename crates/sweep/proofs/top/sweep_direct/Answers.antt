use Rattle.std.proofs.Common.{◌≡◌, nat_lt, length, refl, sym, ◌∙◌, ap, subst, inl, inr, arith}
use Rattle.thy_block.specs.declared.nvm.Shape.{Shape}
use Rattle.thy_block.specs.Device.{Device, fitted}
use Rattle.thy_outcome.proofs.LawLemmas.{some_blocks}
use Rattle.thy_execute.proofs.LevellingLemmas.{IsFoundAs-direct, IsLeftAs-direct}
use Rattle.thy_execute.proofs.PlanLemmas.{fitted_for_plan}
use Rattle.thy_outcome.specs.Answering.{Outside, outside}
use Rattle.thy_outcome.specs.Kept.{named}
use Rattle.thy_execute.specs.Planning.{shape_of}
use Rattle.sweep.specs.Swept.{SweepsOver}
use Rattle.sweep.proofs.SweptLemmas.{fitted_size}
use Rattle.sweep.proofs.top.sweep_direct.Goals as goal

pub fit-requires-clause-blocks : goal.fit-requires-clause-blocks
fit-requires-clause-blocks g c =
    let some = some_blocks c.args.plan.now.geometry in
    omega (arith, some, ap (λ (s : Shape). s.blocks) c.shape_of-shape.ensures.shape ∙ c.requires.reads.blocks)

pub fit-requires-clause-start : goal.fit-requires-clause-start
fit-requires-clause-start g c =
    (fitted_for_plan g.M.Computer.kind g.met.M.Computer.lawful c.args.plan.now c.requires.reads c.args.blocks.items c.shape_of-shape.result c.args.nvm.now.device c.requires.can
    (ap (λ (s : Shape). s.blocks) c.shape_of-shape.ensures.shape)).fits

pub sweep_fitted-requires-clause-fitted : goal.sweep_fitted-requires-clause-fitted
sweep_fitted-requires-clause-fitted g c = record {
  shape = c.shape_of-shape.result;
  start = c.args.blocks.items;
  before = c.args.nvm.now.device;
  fits =
      fitted_for_plan g.M.Computer.kind g.met.M.Computer.lawful c.args.plan.now c.requires.reads c.args.blocks.items c.shape_of-shape.result c.args.nvm.now.device c.requires.can
      (ap (λ (s : Shape). s.blocks) c.shape_of-shape.ensures.shape);
  queue = ap (λ (s : Shape). s.queue) c.shape_of-shape.ensures.shape;
  cuts = ap (λ (s : Shape). s.cuts) c.shape_of-shape.ensures.shape;
  is_fitted = c.in-Ok.ensures.ok;
}

pub sweep_fitted-requires-clause-planned : goal.sweep_fitted-requires-clause-planned
sweep_fitted-requires-clause-planned g c = c.requires.can.planned

pub sweep_fitted-requires-clause-levels : goal.sweep_fitted-requires-clause-levels
sweep_fitted-requires-clause-levels g c = sym (ap (λ k. nat_lt 0 k) c.requires.direct)

pub sweep_fitted-requires-clause-sized : goal.sweep_fitted-requires-clause-sized
sweep_fitted-requires-clause-sized g c =
    let some = some_blocks c.args.plan.now.geometry in
    let start = c.args.blocks.items in
    let shape : Shape = c.shape_of-shape.result in
    let blocks = ap (λ (s : Shape). s.blocks) c.shape_of-shape.ensures.shape in
    let fits = (fitted_for_plan g.M.Computer.kind g.met.M.Computer.lawful c.args.plan.now c.requires.reads start shape c.args.nvm.now.device c.requires.can blocks).fits in
    let size : length c.fit.new.self.device.image ≡ shape.blocks
    = ap (λ (n : Device). length n.image) c.in-Ok.ensures.ok ∙ fitted_size shape start c.args.nvm.now.device fits in
    omega (arith, some, size, blocks ∙ c.requires.reads.blocks)

pub sweep_fitted-requires-clause-blocks : goal.sweep_fitted-requires-clause-blocks
sweep_fitted-requires-clause-blocks g c =
    let start = c.args.blocks.items in
    let shape : Shape = c.shape_of-shape.result in
    let fits = (fitted_for_plan g.M.Computer.kind g.met.M.Computer.lawful c.args.plan.now c.requires.reads start shape c.args.nvm.now.device c.requires.can
    (ap (λ (s : Shape). s.blocks) c.shape_of-shape.ensures.shape)).fits in
    sym (ap (λ (n : Device). length n.image) c.in-Ok.ensures.ok ∙ fitted_size shape start c.args.nvm.now.device fits)

pub sweep_fitted-requires-clause-queue : goal.sweep_fitted-requires-clause-queue
sweep_fitted-requires-clause-queue g c = sym (ap (λ (n : Device). n.queue_room) c.in-Ok.ensures.ok)

pub sweep_fitted-requires-clause-cuts : goal.sweep_fitted-requires-clause-cuts
sweep_fitted-requires-clause-cuts g c =
    let none : c.shape_of-shape.result.cuts ≡ 0 = ap (λ (s : Shape). s.cuts) c.shape_of-shape.ensures.shape ∙ ap length c.requires.uncut in
    omega (arith, none)

pub returns-in-Ok : goal.returns-in-Ok
returns-in-Ok g c =
    let K = g.M.Computer.kind in
    let plan = c.args.plan.now in
    let blocks = c.args.blocks.items in
    let n : Device = c.args.nvm.now.device in
    let x = c.sweep_fitted.new in
    let after : Outside = outside (g.H.Shelf.stock x.shelf) x.nvm.device (g.T.Sink.stream x.terminal) (g.R.Sink.stream x.report) in
    let fit : c.fit.new.self.device ≡ fitted (shape_of K plan) blocks n =
    c.in-Ok.ensures.ok ∙ ap (λ (s : Shape). fitted s blocks n) c.shape_of-shape.ensures.shape in
    inr (record {
      found = n;
      left = x.nvm.device;
      is_found = IsFoundAs-direct plan.config.gap n;
      is_left = IsLeftAs-direct plan.config.gap x.nvm.device c.requires.direct;
      sweeps =
          subst (λ (m : Device). SweepsOver K c.args.out.now c.args.asked.now (named c.args.source) plan (outside (g.H.Shelf.stock c.args.shelf.now) m (g.T.Sink.stream c.args.terminal.now) (g.R.Sink.stream c.args.report.now)) after c.sweep_fitted.result)
          fit c.sweep_fitted.ensures.sweeps;
    })

pub returns-in-Err : goal.returns-in-Err
returns-in-Err g c =
    inl (
      c.in-Err.error,
      record {
        failed = c.in-Err.ensures.err;
        shelf = refl;
        unrun = record { is_status = c.refuse.ensures.status; held = refl; terminal = refl; closes = c.refuse.ensures.closes };
      },
    )
