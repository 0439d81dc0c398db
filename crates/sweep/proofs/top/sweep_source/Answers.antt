use Rattle.std.proofs.Common.{◌≡◌, refl, sym, subst, inl}
use Rattle.thy_base.specs.Config.{parameters_of}
use Rattle.thy_block.specs.Outside.{Stock}
use Rattle.thy_base.specs.Settings.{Job, job_of}
use Rattle.thy_outcome.specs.Answering.{Outside, outside}
use Rattle.thy_outcome.specs.Kept.{named}
use Rattle.thy_outcome.proofs.ShelfLemmas.{stock_same}
use Rattle.thy_execute.proofs.PlanLemmas.{IsBegun, IsBegun-begins, RunDue-program, plan_with}
use Rattle.thy_files.specs.Beginnings.{IsPlannedFor}
use Rattle.thy_files.specs.Restoring.{ReadsFiles}
use Rattle.sweep.specs.Swept.{SweepsPlan}
use Rattle.sweep.proofs.SweptLemmas.{SweepsJob-plan}
use Rattle.sweep.proofs.top.sweep_source.Goals as goal

pub sweep_plan-requires-clause-can : goal.sweep_plan-requires-clause-can
sweep_plan-requires-clause-can g c =
    let job : Job = job_of c.args.job in
    let numbers : c.of-geometry.result ≡ parameters_of job.config = c.of-geometry.ensures in
    (IsBegun-begins (named c.args.source) job (g.H.Shelf.stock c.args.shelf.now) c.in-Ok.beginning c.of-geometry.result c.requires.range numbers
    (c.in-Ok.ensures.begins job (record { numbers = numbers; reads = sym c.as_deref.ensures.value }))).can

pub sweep_plan-requires-clause-reads : goal.sweep_plan-requires-clause-reads
sweep_plan-requires-clause-reads g c = subst (ReadsFiles g.M.Computer.kind) (sym c.of-geometry.ensures) c.requires.reads

pub returns-in-Err : goal.returns-in-Err
returns-in-Err g c =
    let job : Job = job_of c.args.job in
    let t = g.T.Sink.stream c.args.terminal.now in
    let n = c.args.nvm.now.device in
    let before : Outside = outside (g.H.Shelf.stock c.args.shelf.now) n t (g.R.Sink.stream c.args.report.now) in
    let after : Outside = outside (g.H.Shelf.stock c.prepare.new.shelf) n t (g.R.Sink.stream c.refuse.new.report) in
    let planned : IsPlannedFor job c.of-geometry.result _ = record { numbers = c.of-geometry.ensures; reads = sym c.as_deref.ensures.value } in
    inl (
      c.in-Err.refusal,
      RunDue-program (named c.args.source) job before after c.in-Err.refusal (c.in-Err.ensures.refusal job planned) refl,
      record {
        is_status = c.refuse.ensures.status;
        held = c.in-Err.ensures.held;
        terminal = refl;
        closes = c.refuse.ensures.closes;
      },
    )

pub returns : goal.returns
returns g c =
    let K = g.M.Computer.kind in
    let source = named c.args.source in
    let job : Job = job_of c.args.job in
    let blocks = c.in-Ok.beginning.blocks.items in
    let old : Stock = g.H.Shelf.stock c.args.shelf.now in
    let middle : Stock = g.H.Shelf.stock c.prepare.new.shelf in
    let same : middle ≡ old = stock_same old middle c.in-Ok.ensures.held c.in-Ok.ensures.calm in
    let numbers : c.of-geometry.result ≡ parameters_of job.config = c.of-geometry.ensures in
    let plan = plan_with job.config c.of-geometry.result c.in-Ok.beginning.start job.digest in
    let begun : IsBegun source job old plan blocks =
    IsBegun-begins source job old c.in-Ok.beginning c.of-geometry.result c.requires.range numbers
    (c.in-Ok.ensures.begins job (record { numbers = numbers; reads = sym c.as_deref.ensures.value })) in
    let n = c.args.nvm.now.device in
    let t = g.T.Sink.stream c.args.terminal.now in
    let r = g.R.Sink.stream c.args.report.now in
    let x = c.sweep_plan.new in
    let after : Outside = outside (g.H.Shelf.stock x.shelf) x.nvm.device (g.T.Sink.stream x.terminal) (g.R.Sink.stream x.report) in
    SweepsJob-plan K c.args.out.now c.args.asked.now source job plan blocks (outside old n t r) after c.sweep_plan.result begun.is_plan
    (subst (λ (s : Stock). SweepsPlan K c.args.out.now c.args.asked.now source plan blocks (outside s n t r) after c.sweep_plan.result) same c.sweep_plan.ensures)
