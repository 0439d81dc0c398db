use Rattle.std.proofs.Common.{◌≡◌, ap, sym, subst, refl, inl}
use Rattle.thy_block.specs.declared.nvm.FitError.{FitError}
use Rattle.thy_base.specs.Config.{parameters_of}
use Rattle.thy_block.specs.Outside.{Stock}
use Rattle.thy_base.specs.Settings.{Job, job_of}
use Rattle.thy_outcome.specs.declared.refusal.Refusal.TheVariants.{Device as DeviceRefusal}
use Rattle.thy_outcome.specs.Answering.{Outside, Closes, outside}
use Rattle.thy_files.specs.Restoring.{ReadsFiles}
use Rattle.thy_files.specs.Beginnings.{Begins, IsPlannedFor}
use Rattle.thy_outcome.specs.Kept.{named, refused_line}
use Rattle.thy_outcome.specs.Sources.{IsProgram}
use Rattle.thy_execute.proofs.PlanLemmas.{IsBegun, IsBegun-begins, plan_with, RunSeen-over, RunSeen-same, RunDue-program, RunDue-unfitted}
use Rattle.thy_outcome.proofs.ShelfLemmas.{stock_same}
use Rattle.thy_execute.proofs.running.run_source.Goals as goal

pub returns-in-Err : goal.returns-in-Err
returns-in-Err g c =
    let job : Job = job_of c.args.job in
    let before : Outside = outside (g.H.Shelf.stock c.args.shelf.now) (g.N.Nvm.device c.args.nvm.now) (g.T.Sink.stream c.args.terminal.now)
    (g.R.Sink.stream c.args.report.now) in
    let after : Outside = outside (g.H.Shelf.stock c.prepare.new.shelf) (g.N.Nvm.device c.args.nvm.now)
    (g.T.Sink.stream c.args.terminal.now) (g.R.Sink.stream c.refuse.new.report) in
    let planned : IsPlannedFor job c.of-geometry.result _ = record { numbers = c.of-geometry.ensures; reads = sym c.as_deref.ensures.value } in (
      inl (
        c.in-Err.refusal,
        RunDue-program (named c.args.source) job before after c.in-Err.refusal (c.in-Err.ensures.refusal job planned) refl,
        record {
          status = c.refuse.ensures.status;
          events = c.refuse.ensures.events;
          cycles = c.refuse.ensures.cycles;
          shown_none = refl;
          held = c.in-Err.ensures.held;
          closes = c.refuse.ensures.closes;
        },
      ),
      c.requires.unseen,
    )

pub run_plan-requires-clause-can : goal.run_plan-requires-clause-can
run_plan-requires-clause-can g c =
    let job : Job = job_of c.args.job in
    let numbers : c.of-geometry.result ≡ parameters_of job.config = c.of-geometry.ensures in
    (IsBegun-begins (named c.args.source) job (g.H.Shelf.stock c.args.shelf.now) c.in-Ok.beginning c.of-geometry.result c.requires.range numbers
    (c.in-Ok.ensures.begins job (record { numbers = numbers; reads = sym c.as_deref.ensures.value }))).can

pub returns-in-Ok-run_plan : goal.returns-in-Ok-run_plan
returns-in-Ok-run_plan g c =
    let job : Job = job_of c.args.job in
    let old : Stock = g.H.Shelf.stock c.args.shelf.now in
    let middle : Stock = g.H.Shelf.stock c.prepare.new.shelf in
    let same : middle ≡ old = stock_same old middle c.in-Ok.ensures.held c.in-Ok.ensures.calm in
    let numbers : c.of-geometry.result ≡ parameters_of job.config = c.of-geometry.ensures in
    let begun : IsBegun (named c.args.source) job middle
    (plan_with job.config c.of-geometry.result c.in-Ok.beginning.start job.digest) c.in-Ok.beginning.blocks.items =
    IsBegun-begins (named c.args.source) job middle c.in-Ok.beginning c.of-geometry.result c.requires.range numbers
    (subst (λ s. Begins (named c.args.source) job s c.in-Ok.beginning) (sym same)
    (c.in-Ok.ensures.begins job (record { numbers = numbers; reads = sym c.as_deref.ensures.value }))) in
    let here : Outside = outside middle (g.N.Nvm.device c.args.nvm.now) (g.T.Sink.stream c.args.terminal.now) (g.R.Sink.stream c.args.report.now) in
    let after : Outside = outside (g.H.Shelf.stock c.run_plan.new.shelf) (g.N.Nvm.device c.run_plan.new.nvm)
    (g.T.Sink.stream c.run_plan.new.terminal) (g.R.Sink.stream c.run_plan.new.report) in
    RunSeen-same g.M.Computer.kind g.O.Observer.has_seen (named c.args.source) job old middle (g.H.Shelf.stock c.run_plan.new.shelf)
    (g.N.Nvm.device c.args.nvm.now) (g.N.Nvm.device c.run_plan.new.nvm)
    (g.T.Sink.stream c.args.terminal.now) (g.T.Sink.stream c.run_plan.new.terminal) (g.R.Sink.stream c.args.report.now)
    (g.R.Sink.stream c.run_plan.new.report) c.answer.result c.run_plan.new.observer same
    (RunSeen-over g.M.Computer.kind g.O.Observer.has_seen (named c.args.source) job here begun.is_plan.program after c.in-Ok-run_plan.ran
    c.answer.result c.run_plan.new.observer c.answer.ensures
    (c.in-Ok-run_plan.ensures.runs job (sym c.as_deref-2.ensures.value) begun.is_plan))

pub returns : goal.returns
returns g c =
    let job : Job = job_of c.args.job in
    let old : Stock = g.H.Shelf.stock c.args.shelf.now in
    let middle : Stock = g.H.Shelf.stock c.prepare.new.shelf in
    let same : middle ≡ old = stock_same old middle c.in-Ok.ensures.held c.in-Ok.ensures.calm in
    let e : FitError = c.in-Err-run_plan.error in
    let unfitted = c.in-Err-run_plan.ensures.unfitted in
    let here : Outside = outside middle (g.N.Nvm.device c.args.nvm.now) (g.T.Sink.stream c.args.terminal.now) (g.R.Sink.stream c.args.report.now) in
    let there : Outside = outside (g.H.Shelf.stock c.run_plan.new.shelf) (g.N.Nvm.device c.run_plan.new.nvm)
    (g.T.Sink.stream c.run_plan.new.terminal) (g.R.Sink.stream c.run_plan.new.report) in
    let after : Outside = outside (g.H.Shelf.stock c.run_plan.new.shelf) (g.N.Nvm.device c.run_plan.new.nvm)
    (g.T.Sink.stream c.run_plan.new.terminal) (g.R.Sink.stream c.refuse-in-Err-run_plan.new.report) in
    let numbers : c.of-geometry.result ≡ parameters_of job.config = c.of-geometry.ensures in
    let begins = c.in-Ok.ensures.begins job (record { numbers = numbers; reads = sym c.as_deref.ensures.value }) in
    let closes = subst (λ x. Closes (refused_line (DeviceRefusal e)) x (g.R.Sink.stream c.refuse-in-Err-run_plan.new.report))
    unfitted.report c.refuse-in-Err-run_plan.ensures.closes in
    RunSeen-same g.M.Computer.kind g.O.Observer.has_seen (named c.args.source) job old middle (g.H.Shelf.stock c.run_plan.new.shelf)
    (g.N.Nvm.device c.args.nvm.now) (g.N.Nvm.device c.run_plan.new.nvm)
    (g.T.Sink.stream c.args.terminal.now) (g.T.Sink.stream c.run_plan.new.terminal) (g.R.Sink.stream c.args.report.now)
    (g.R.Sink.stream c.refuse-in-Err-run_plan.new.report) c.refuse-in-Err-run_plan.result c.run_plan.new.observer same (
      inl (
        DeviceRefusal e,
        RunDue-unfitted (named c.args.source) job e here there after
            (subst (IsProgram (named c.args.source) job) (sym same) begins.program) unfitted refl refl,
        record {
          status = c.refuse-in-Err-run_plan.ensures.status;
          events = c.refuse-in-Err-run_plan.ensures.events;
          cycles = c.refuse-in-Err-run_plan.ensures.cycles;
          shown_none = unfitted.terminal;
          held = ap (λ (x : Stock). x.held) unfitted.shelf;
          closes = closes;
        },
      ),
      c.in-Err-run_plan.ensures.unseen,
    )

pub run_plan-requires-clause-reads : goal.run_plan-requires-clause-reads
run_plan-requires-clause-reads g c =
    subst (ReadsFiles g.M.Computer.kind) (sym c.of-geometry.ensures) c.requires.reads
