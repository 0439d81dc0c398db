use Rattle.std.proofs.Common.{◌≡◌, ap, sym, refl, ◌∙◌, arith}
use Rattle.thy_base.specs.declared.config.Config.{Config}
use Rattle.thy_block.specs.declared.nvm.Shape.{Shape}
use Rattle.thy_block.specs.Device.{Device, fitted}
use Rattle.thy_outcome.proofs.LawLemmas.{some_blocks}
use Rattle.thy_outcome.specs.Answering.{Outside, outside, shape_for}
use Rattle.thy_outcome.specs.Kept.{named}
use Rattle.thy_execute.proofs.LevellingLemmas.{IsFoundAs-direct, IsLeftAs-direct, RunOverSeen-seen}
use Rattle.thy_execute.proofs.PlanLemmas.{fitted_for_plan, shape_planned}
use Rattle.thy_execute.proofs.running.run_direct.Goals as goal

pub fit-requires-clause-blocks : goal.fit-requires-clause-blocks
fit-requires-clause-blocks g c =
    let some = some_blocks c.args.plan.now.geometry in
    omega (arith, some, ap (λ (s : Shape). s.blocks) c.shape_of-shape.ensures.shape ∙ c.requires.reads.blocks)

pub fit-requires-clause-start : goal.fit-requires-clause-start
fit-requires-clause-start g c =
    (fitted_for_plan g.M.Computer.kind g.met.M.Computer.lawful c.args.plan.now c.requires.reads c.args.blocks.items c.shape_of-shape.result
    (g.N.Nvm.device c.args.nvm.now) c.requires.can
    (ap (λ (s : Shape). s.blocks) c.shape_of-shape.ensures.shape)).fits

pub returns-in-Err-clause-unfitted : goal.returns-in-Err-clause-unfitted
returns-in-Err-clause-unfitted g c = record { failed = c.in-Err.ensures.err; shelf = refl; terminal = refl; report = refl }

pub returns-in-Err-clause-unseen : goal.returns-in-Err-clause-unseen
returns-in-Err-clause-unseen g c = c.requires.unseen

pub run_fitted-requires-clause-fitted : goal.run_fitted-requires-clause-fitted
run_fitted-requires-clause-fitted g c = record {
  shape = c.shape_of-shape.result;
  start = c.args.blocks.items;
  before = g.N.Nvm.device c.args.nvm.now;
  fits =
      fitted_for_plan g.M.Computer.kind g.met.M.Computer.lawful c.args.plan.now c.requires.reads c.args.blocks.items c.shape_of-shape.result
      (g.N.Nvm.device c.args.nvm.now) c.requires.can
      (ap (λ (s : Shape). s.blocks) c.shape_of-shape.ensures.shape);
  queue = ap (λ (s : Shape). s.queue) c.shape_of-shape.ensures.shape;
  cuts = ap (λ (s : Shape). s.cuts) c.shape_of-shape.ensures.shape;
  is_fitted = c.in-Ok.ensures.ok;
}

pub returns-in-Ok-clause-runs : goal.returns-in-Ok-clause-runs
returns-in-Ok-clause-runs g c = λ job names p.
    let K = g.M.Computer.kind in
    let n : Device = g.N.Nvm.device c.args.nvm.now in
    let before : Outside = outside (g.H.Shelf.stock c.args.shelf.now) n (g.T.Sink.stream c.args.terminal.now) (g.R.Sink.stream c.args.report.now) in
    let after : Outside = outside (g.H.Shelf.stock c.run_fitted.new.shelf) (g.N.Nvm.device c.run_fitted.new.nvm)
    (g.T.Sink.stream c.run_fitted.new.terminal) (g.R.Sink.stream c.run_fitted.new.report) in
    let none : job.config.gap ≡ 0 = ap (λ (x : Config). x.gap) (sym p.config) ∙ c.requires.direct in
    let fit : g.N.Nvm.device c.fit.new.self ≡ fitted (shape_for K job.config) c.args.blocks.items n =
    c.in-Ok.ensures.ok ∙ ap (λ s. fitted s c.args.blocks.items n)
    (c.shape_of-shape.ensures.shape ∙ shape_planned K (named c.args.source) job before.shelf c.args.plan.now c.args.blocks.items p) in
    RunOverSeen-seen K g.O.Observer.has_seen (named c.args.source) job before p.program after n after.device c.run_fitted.result
    c.run_fitted.new.observer (IsFoundAs-direct job.config.gap n) (IsLeftAs-direct job.config.gap after.device none)
    (c.run_fitted.ensures.runs job c.args.blocks.items n names p fit)
