use Rattle.std.proofs.Common.{◌≡◌, ◌<◌, ap, subst, sym, refl, ◌∙◌, arith, length, slice_index_or, List}
use Rattle.std.specs.Borrow.{GName}
use Rattle.thy_base.specs.declared.config.Config.{Config}
use Rattle.thy_block.specs.declared.nvm.FitError.{FitError}
use Rattle.thy_block.specs.declared.nvm.Shape.{Shape}
use Rattle.thy_block.specs.Device.{Device, HasFailedToFit, Plain, fitted, lent_by}
use Rattle.thy_gap.specs.Levelled.{looks}
use Rattle.thy_gap.proofs.SeenLemmas.{length-unmap}
use Rattle.thy_run.proofs.EveryLemmas.{every-unworn}
use Rattle.thy_outcome.proofs.LawLemmas.{some_blocks}
use Rattle.thy_outcome.specs.Answering.{Outside, outside, shape_for}
use Rattle.thy_outcome.specs.Levelling.{IsFoundAs, IsLeftAs}
use Rattle.thy_outcome.specs.Kept.{named}
use Rattle.thy_execute.proofs.LevellingLemmas.{IsFoundAs-levelled, IsLeftAs-levelled, RunOverSeen-seen, every-levelled, failed_within, same_loan_failed}
use Rattle.thy_execute.proofs.PlanLemmas.{fitted_for_plan, shape_planned}
use Rattle.thy_execute.proofs.running.run_levelled.Goals as goal
use Rattle.thy_run.specs.Every.{every_of}

pub fit-requires-clause-blocks : goal.fit-requires-clause-blocks
fit-requires-clause-blocks g c =
    let some = some_blocks c.args.plan.now.geometry in
    omega (arith, some, ap (λ (s : Shape). s.blocks) c.shape_of-shape.ensures.shape ∙ c.requires.reads.blocks)

pub fit-requires-clause-start : goal.fit-requires-clause-start
fit-requires-clause-start g c =
    (fitted_for_plan g.M.Computer.kind g.met.M.Computer.lawful c.args.plan.now c.requires.reads c.args.blocks.items c.shape_of-shape.result
    (g.N.Nvm.device c.args.nvm.now) c.requires.can
    (ap (λ (s : Shape). s.blocks) c.shape_of-shape.ensures.shape)).fits

pub run_fitted-ran-requires-clause-fitted : goal.run_fitted-ran-requires-clause-fitted
run_fitted-ran-requires-clause-fitted g c = record {
  shape = c.shape_of-shape.result;
  start = c.args.blocks.items;
  before = looks c.over-lines.result.every c.over-lines.result.since c.over-lines.result.moves c.over-lines.result.registers
      (lent_by c.over-lines.result.inner.ghost_name (g.N.Nvm.device c.over-lines.result.inner.now));
  fits =
      fitted_for_plan g.M.Computer.kind g.met.M.Computer.lawful c.args.plan.now c.requires.reads c.args.blocks.items c.shape_of-shape.result
      (looks c.over-lines.result.every c.over-lines.result.since c.over-lines.result.moves c.over-lines.result.registers
      (lent_by c.over-lines.result.inner.ghost_name (g.N.Nvm.device c.over-lines.result.inner.now))) c.requires.can
      (ap (λ (s : Shape). s.blocks) c.shape_of-shape.ensures.shape);
  queue = ap (λ (s : Shape). s.queue) c.shape_of-shape.ensures.shape;
  cuts = ap (λ (s : Shape). s.cuts) c.shape_of-shape.ensures.shape;
  is_fitted = c.in-Ok.ensures.ok;
}

pub returns-in-Err-clause-unfitted : goal.returns-in-Err-clause-unfitted
returns-in-Err-clause-unfitted g c =
    let e : FitError = c.in-Err.error in
    let first = c.over-lines.result.inner in
    let last = c.fit.new.self.inner in
    let inner : HasFailedToFit e (lent_by first.ghost_name (g.N.Nvm.device first.now)) (lent_by last.ghost_name (g.N.Nvm.device last.now)) =
    c.in-Err.ensures.inner_err in
    let name : last.ghost_name ≡ first.ghost_name =
    same_loan_failed e first.ghost_name last.ghost_name (g.N.Nvm.device first.now) (g.N.Nvm.device last.now) inner in
    let lent = sym (ap (λ l. l.ghost_name) c.into_inner-loan-in-Err.ensures ∙ name ∙ ap (λ l. l.inner.ghost_name) c.over-lines.ensures) in
    let stands : c.nvm-in-Err-1.given.0 ≡ last.now = c.nvm-in-Err-1.given.1 lent ∙ ap (λ l. l.now) c.into_inner-loan-in-Err.ensures in
    let failed : HasFailedToFit e (g.N.Nvm.device c.args.nvm.now) (g.N.Nvm.device c.nvm-in-Err-1.given.0) =
    subst (λ x. HasFailedToFit e (g.N.Nvm.device c.args.nvm.now) (g.N.Nvm.device x)) (sym stands)
    (subst (λ x. HasFailedToFit e (g.N.Nvm.device x) (g.N.Nvm.device last.now)) (ap (λ l. l.inner.now) c.over-lines.ensures)
    (failed_within e first.ghost_name last.ghost_name (g.N.Nvm.device first.now) (g.N.Nvm.device last.now) inner)) in
    record { failed = failed; shelf = refl; terminal = refl; report = refl }

pub returns-in-Err-clause-unseen : goal.returns-in-Err-clause-unseen
returns-in-Err-clause-unseen g c = c.requires.unseen

pub returns-in-Ok-clause-runs : goal.returns-in-Ok-clause-runs
returns-in-Ok-clause-runs g c = λ job names p.
    let K = g.M.Computer.kind in
    let first = c.over-lines.result.inner in
    let filled = c.fit.new.self.inner in
    let last = c.run_fitted-ran.new.nvm.inner in
    let before : Outside = outside (g.H.Shelf.stock c.args.shelf.now) (g.N.Nvm.device c.args.nvm.now) (g.T.Sink.stream c.args.terminal.now)
    (g.R.Sink.stream c.args.report.now) in
    let after : Outside = outside (g.H.Shelf.stock c.run_fitted-ran.new.shelf) (g.N.Nvm.device c.nvm-1.given.0)
    (g.T.Sink.stream c.run_fitted-ran.new.terminal) (g.R.Sink.stream c.run_fitted-ran.new.report) in
    let found : Device = looks c.over-lines.result.every c.over-lines.result.since c.over-lines.result.moves c.over-lines.result.registers
    (lent_by first.ghost_name (g.N.Nvm.device first.now)) in
    let left : Device = looks c.run_fitted-ran.new.nvm.every c.run_fitted-ran.new.nvm.since c.run_fitted-ran.new.nvm.moves
    c.run_fitted-ran.new.nvm.registers (lent_by last.ghost_name (g.N.Nvm.device last.now)) in
    let some : 0 < job.config.gap = subst (λ (x : Config). 0 < x.gap) p.config c.requires.levelled in
    let fit : looks c.fit.new.self.every c.fit.new.self.since c.fit.new.self.moves c.fit.new.self.registers
    (lent_by filled.ghost_name (g.N.Nvm.device filled.now)) ≡ fitted (shape_for K job.config) c.args.blocks.items found =
    c.in-Ok.ensures.ok ∙ ap (λ s. fitted s c.args.blocks.items found)
    (c.shape_of-shape.ensures.shape ∙ shape_planned K (named c.args.source) job before.shelf c.args.plan.now c.args.blocks.items p) in
    let blocks : 0 < c.shape_of-shape.result.blocks =
    (let has = some_blocks c.args.plan.now.geometry in
    omega (arith, has, ap (λ (s : Shape). s.blocks) c.shape_of-shape.ensures.shape ∙ c.requires.reads.blocks)) in
    let many : c.fit.new.self.registers.lines ≡ c.shape_of-shape.result.blocks = ap (λ l. l.registers.lines) c.in-Ok.ensures.fitted in
    let lines : 0 < length left.image =
    omega (arith, blocks, many, c.run_fitted-ran.ensures.stays.blocks, length-unmap c.fit.new.self.registers (g.N.Nvm.device filled.now).image) in
    let ran : last.ghost_name ≡ filled.ghost_name =
    ap (λ (ns : List GName). slice_index_or ns 0 last.ghost_name) c.run_fitted-ran.ensures.stays.lent in
    let made : filled.ghost_name ≡ first.ghost_name = ap (λ (n : Device). slice_index_or n.lent 0 filled.ghost_name) c.in-Ok.ensures.inner in
    let lent = sym (ap (λ l. l.ghost_name) c.into_inner-loan.ensures ∙ ran ∙ made ∙ ap (λ l. l.inner.ghost_name) c.over-lines.ensures) in
    let stands : c.nvm-1.given.0 ≡ last.now = c.nvm-1.given.1 lent ∙ ap (λ l. l.now) c.into_inner-loan.ensures in
    let is_found : IsFoundAs job.config.gap before.device found =
    subst (λ x. IsFoundAs job.config.gap (g.N.Nvm.device x) found) (ap (λ l. l.inner.now) c.over-lines.ensures)
    (subst (λ r. IsFoundAs job.config.gap (g.N.Nvm.device first.now) (looks c.over-lines.result.every c.over-lines.result.since c.over-lines.result.moves r (lent_by first.ghost_name (g.N.Nvm.device first.now)))) (sym (ap (λ l. l.registers) c.over-lines.ensures))
    (IsFoundAs-levelled job.config.gap c.over-lines.result.every c.over-lines.result.since c.over-lines.result.moves first.ghost_name (g.N.Nvm.device first.now) some)) in
    let every : every_of left.wear ≡ every_of found.wear
    = c.run_fitted-ran.ensures.stays.every ∙ ap (λ (n : Device). every_of n.wear) c.in-Ok.ensures.ok ∙ every-unworn found.wear in
    let gaps : (g.N.Nvm.device last.now).wear ≡ Plain → c.run_fitted-ran.new.nvm.every ≡ job.config.gap
    = λ plain.
    every-levelled (g.N.Nvm.device last.now).wear (g.N.Nvm.device first.now).wear c.run_fitted-ran.new.nvm.every c.run_fitted-ran.new.nvm.since
    c.run_fitted-ran.new.nvm.moves c.over-lines.result.every c.over-lines.result.since c.over-lines.result.moves plain every
    ∙ ap (λ l. l.every) c.over-lines.ensures ∙ ap (λ (x : Config). x.gap) p.config in
    let is_left : IsLeftAs job.config.gap after.device left =
    subst (λ x. IsLeftAs job.config.gap (g.N.Nvm.device x) left) (sym stands)
    (IsLeftAs-levelled job.config.gap c.run_fitted-ran.new.nvm.every c.run_fitted-ran.new.nvm.since c.run_fitted-ran.new.nvm.moves
    last.ghost_name c.run_fitted-ran.new.nvm.registers (g.N.Nvm.device last.now) some lines
    c.recall_meaning.ensures.image c.recall_meaning.ensures.crash c.recall_meaning.ensures.left
    c.recall_meaning.ensures.moves gaps) in
    RunOverSeen-seen K g.O.Observer.has_seen
    (named c.args.source) job before p.program after found left c.run_fitted-ran.result c.run_fitted-ran.new.observer is_found is_left
    (c.run_fitted-ran.ensures.runs job c.args.blocks.items found names p fit)
