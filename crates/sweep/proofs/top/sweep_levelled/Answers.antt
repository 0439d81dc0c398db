use Rattle.std.proofs.Common.{◌≡◌, ◌<◌, ap, subst, sym, refl, ◌∙◌, inl, inr, arith, length, slice_index_or, List}
use Rattle.std.specs.Borrow.{GName}
use Rattle.thy_block.specs.declared.nvm.FitError.{FitError}
use Rattle.thy_block.specs.declared.nvm.Shape.{Shape}
use Rattle.thy_block.specs.Device.{Device, HasFailedToFit, Plain, fitted, lent_by}
use Rattle.thy_gap.specs.Levelled.{looks}
use Rattle.thy_gap.proofs.SeenLemmas.{length-unmap}
use Rattle.thy_run.specs.Every.{every_of}
use Rattle.thy_run.proofs.EveryLemmas.{every-unworn}
use Rattle.thy_outcome.proofs.LawLemmas.{some_blocks}
use Rattle.thy_outcome.specs.Answering.{Outside, outside}
use Rattle.thy_outcome.specs.Kept.{named}
use Rattle.thy_outcome.specs.Levelling.{IsFoundAs, IsLeftAs}
use Rattle.thy_execute.specs.Planning.{shape_of}
use Rattle.thy_execute.proofs.LevellingLemmas.{IsFoundAs-levelled, IsLeftAs-levelled, every-levelled, failed_within, same_loan_failed}
use Rattle.thy_execute.proofs.PlanLemmas.{fitted_for_plan}
use Rattle.sweep.specs.Swept.{SweepsOver}
use Rattle.sweep.proofs.top.sweep_levelled.Goals as goal

pub sweep_fitted-status-requires-clause-fitted : goal.sweep_fitted-status-requires-clause-fitted
sweep_fitted-status-requires-clause-fitted g c = record {
  shape = c.shape_of-shape.result;
  start = c.args.blocks.items;
  before = looks c.over-lines.result.every c.over-lines.result.since c.over-lines.result.moves c.over-lines.result.registers
      (lent_by c.over-lines.result.inner.ghost_name c.over-lines.result.inner.now.device);
  fits =
      fitted_for_plan g.M.Computer.kind g.met.M.Computer.lawful c.args.plan.now c.requires.reads c.args.blocks.items c.shape_of-shape.result
      (looks c.over-lines.result.every c.over-lines.result.since c.over-lines.result.moves c.over-lines.result.registers
      (lent_by c.over-lines.result.inner.ghost_name c.over-lines.result.inner.now.device)) c.requires.can
      (ap (λ (s : Shape). s.blocks) c.shape_of-shape.ensures.shape);
  queue = ap (λ (s : Shape). s.queue) c.shape_of-shape.ensures.shape;
  cuts = ap (λ (s : Shape). s.cuts) c.shape_of-shape.ensures.shape;
  is_fitted = c.in-Ok.ensures.ok;
}

pub returns-in-Err : goal.returns-in-Err
returns-in-Err g c =
    let e : FitError = c.in-Err.error in
    let first = c.over-lines.result.inner in
    let last = c.fit.new.self.inner in
    let inner : HasFailedToFit e (lent_by first.ghost_name first.now.device) (lent_by last.ghost_name last.now.device) = c.in-Err.ensures.inner_err in
    let name : last.ghost_name ≡ first.ghost_name = same_loan_failed e first.ghost_name last.ghost_name first.now.device last.now.device inner in
    let lent = sym (ap (λ l. l.ghost_name) c.into_inner-loan-in-Err.ensures ∙ name ∙ ap (λ l. l.inner.ghost_name) c.over-lines.ensures) in
    let stands : c.nvm-in-Err-1.given.0 ≡ last.now = c.nvm-in-Err-1.given.1 lent ∙ ap (λ l. l.now) c.into_inner-loan-in-Err.ensures in
    let failed : HasFailedToFit e c.args.nvm.now.device c.nvm-in-Err-1.given.0.device =
    subst (λ x. HasFailedToFit e c.args.nvm.now.device x.device) (sym stands)
    (subst (λ x. HasFailedToFit e x.device last.now.device) (ap (λ l. l.inner.now) c.over-lines.ensures)
    (failed_within e first.ghost_name last.ghost_name first.now.device last.now.device inner)) in
    inl (
      e,
      record {
        failed = failed;
        shelf = refl;
        unrun = record { is_status = c.refuse.ensures.status; held = refl; terminal = refl; closes = c.refuse.ensures.closes };
      },
    )

pub returns-in-Ok : goal.returns-in-Ok
returns-in-Ok g c =
    let K = g.M.Computer.kind in
    let plan = c.args.plan.now in
    let start = c.args.blocks.items in
    let first = c.over-lines.result.inner in
    let filled = c.fit.new.self.inner in
    let x = c.sweep_fitted-status.new in
    let last = x.nvm.inner in
    let found : Device = looks c.over-lines.result.every c.over-lines.result.since c.over-lines.result.moves c.over-lines.result.registers
    (lent_by first.ghost_name first.now.device) in
    let left : Device = looks x.nvm.every x.nvm.since x.nvm.moves x.nvm.registers (lent_by last.ghost_name last.now.device) in
    let after : Outside = outside (g.H.Shelf.stock x.shelf) left (g.T.Sink.stream x.terminal) (g.R.Sink.stream x.report) in
    let fit : looks c.fit.new.self.every c.fit.new.self.since c.fit.new.self.moves c.fit.new.self.registers
    (lent_by filled.ghost_name filled.now.device) ≡ fitted (shape_of K plan) start found =
    c.in-Ok.ensures.ok ∙ ap (λ (s : Shape). fitted s start found) c.shape_of-shape.ensures.shape in
    let blocks : 0 < c.shape_of-shape.result.blocks =
    (let has = some_blocks plan.geometry in
    omega (arith, has, ap (λ (s : Shape). s.blocks) c.shape_of-shape.ensures.shape ∙ c.requires.reads.blocks)) in
    let many : c.fit.new.self.registers.lines ≡ c.shape_of-shape.result.blocks = ap (λ l. l.registers.lines) c.in-Ok.ensures.fitted in
    let stays = c.sweep_fitted-status.ensures.stays in
    let lines : 0 < length left.image =
    omega (arith, blocks, many, stays.blocks, length-unmap c.fit.new.self.registers filled.now.device.image) in
    let ran : last.ghost_name ≡ filled.ghost_name = ap (λ (ns : List GName). slice_index_or ns 0 last.ghost_name) stays.lent in
    let made : filled.ghost_name ≡ first.ghost_name = ap (λ (n : Device). slice_index_or n.lent 0 filled.ghost_name) c.in-Ok.ensures.inner in
    let lent = sym (ap (λ l. l.ghost_name) c.into_inner-loan.ensures ∙ ran ∙ made ∙ ap (λ l. l.inner.ghost_name) c.over-lines.ensures) in
    let stands : c.nvm-1.given.0 ≡ last.now = c.nvm-1.given.1 lent ∙ ap (λ l. l.now) c.into_inner-loan.ensures in
    let is_found : IsFoundAs plan.config.gap c.args.nvm.now.device found =
    subst (λ n. IsFoundAs plan.config.gap n.device found) (ap (λ l. l.inner.now) c.over-lines.ensures)
    (subst (λ r. IsFoundAs plan.config.gap first.now.device (looks c.over-lines.result.every c.over-lines.result.since c.over-lines.result.moves r (lent_by first.ghost_name first.now.device))) (sym (ap (λ l. l.registers) c.over-lines.ensures))
    (IsFoundAs-levelled plan.config.gap c.over-lines.result.every c.over-lines.result.since c.over-lines.result.moves first.ghost_name first.now.device c.requires.levelled)) in
    let every : every_of left.wear ≡ every_of found.wear
    = stays.every ∙ ap (λ (n : Device). every_of n.wear) c.in-Ok.ensures.ok ∙ every-unworn found.wear in
    let gaps : last.now.device.wear ≡ Plain → x.nvm.every ≡ plan.config.gap
    = λ plain.
    every-levelled last.now.device.wear first.now.device.wear x.nvm.every x.nvm.since x.nvm.moves c.over-lines.result.every c.over-lines.result.since
    c.over-lines.result.moves plain every ∙ ap (λ l. l.every) c.over-lines.ensures in
    let is_left : IsLeftAs plan.config.gap c.nvm-1.given.0.device left =
    subst (λ n. IsLeftAs plan.config.gap n.device left) (sym stands)
    (IsLeftAs-levelled plan.config.gap x.nvm.every x.nvm.since x.nvm.moves last.ghost_name x.nvm.registers last.now.device c.requires.levelled lines
    c.recall_meaning.ensures.image c.recall_meaning.ensures.crash c.recall_meaning.ensures.left c.recall_meaning.ensures.moves gaps) in
    inr (record {
      found = found;
      left = left;
      is_found = is_found;
      is_left = is_left;
      sweeps =
          subst (λ (m : Device). SweepsOver K c.args.out.now c.args.asked.now (named c.args.source) plan (outside (g.H.Shelf.stock c.args.shelf.now) m (g.T.Sink.stream c.args.terminal.now) (g.R.Sink.stream c.args.report.now)) after c.sweep_fitted-status.result)
          fit c.sweep_fitted-status.ensures.sweeps;
    })
