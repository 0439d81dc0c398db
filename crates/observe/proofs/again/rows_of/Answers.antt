use Rattle.std.proofs.Common.{◌≡◌, refl, sym, subst, inl, inr}
use Rattle.thy_base.specs.Config.{parameters_of}
use Rattle.thy_block.specs.Outside.{Stock}
use Rattle.thy_base.specs.Settings.{Job, job_of}
use Rattle.thy_outcome.specs.Kept.{named}
use Rattle.thy_outcome.proofs.ShelfLemmas.{stock_same}
use Rattle.thy_execute.proofs.PlanLemmas.{IsBegun, IsBegun-begins, plan_with}
use Rattle.thy_files.specs.Beginnings.{IsPlannedFor}
use Rattle.thy_files.specs.Restoring.{ReadsFiles}
use Rattle.observe.proofs.again.rows_of.Goals as goal

pub rows_over-requires-clause-can : goal.rows_over-requires-clause-can
rows_over-requires-clause-can g c =
    let job : Job = job_of c.args.job in
    let numbers : c.of-geometry.result ≡ parameters_of job.config = c.of-geometry.ensures in
    (IsBegun-begins (named c.args.source) job (g.H.Shelf.stock c.args.shelf.now) c.in-Ok.beginning c.of-geometry.result c.requires.range numbers
    (c.in-Ok.ensures.begins job (record { numbers = numbers; reads = sym c.as_deref.ensures.value }))).can

pub rows_over-requires-clause-reads : goal.rows_over-requires-clause-reads
rows_over-requires-clause-reads g c = subst (ReadsFiles g.M.Computer.kind) (sym c.of-geometry.ensures) c.requires.reads

pub returns-in-Err : goal.returns-in-Err
returns-in-Err g c =
    let job : Job = job_of c.args.job in
    let planned : IsPlannedFor job c.of-geometry.result _ = record { numbers = c.of-geometry.ensures; reads = sym c.as_deref.ensures.value } in
    inl (record {
      why = c.in-Err.refusal;
      due = c.in-Err.ensures.refusal job planned;
      held = c.in-Err.ensures.held;
      is_status = c.refuse.ensures.status;
      closes = c.refuse.ensures.closes;
    })

pub returns-in-Some : goal.returns-in-Some
returns-in-Some g c =
    let source = named c.args.source in
    let job : Job = job_of c.args.job in
    let old : Stock = g.H.Shelf.stock c.args.shelf.now in
    let middle : Stock = g.H.Shelf.stock c.prepare.new.shelf in
    let same : middle ≡ old = stock_same old middle c.in-Ok.ensures.held c.in-Ok.ensures.calm in
    let numbers : c.of-geometry.result ≡ parameters_of job.config = c.of-geometry.ensures in
    let plan = plan_with job.config c.of-geometry.result c.in-Ok.beginning.start job.digest in
    let blocks = c.in-Ok.beginning.blocks.items in
    let begun : IsBegun source job old plan blocks =
    IsBegun-begins source job old c.in-Ok.beginning c.of-geometry.result c.requires.range numbers
    (c.in-Ok.ensures.begins job (record { numbers = numbers; reads = sym c.as_deref.ensures.value })) in (
      same,
      refl,
      record {
        plan = plan;
        blocks = blocks;
        device = g.N.Nvm.device c.args.nvm.now.inner;
        is_plan = begun.is_plan;
        accesses = c.in-Some.ensures;
      },
    )

pub returns : goal.returns
returns g c =
    let old : Stock = g.H.Shelf.stock c.args.shelf.now in
    let middle : Stock = g.H.Shelf.stock c.prepare.new.shelf in
    inr (record {
      shelf = stock_same old middle c.in-Ok.ensures.held c.in-Ok.ensures.calm;
      is_status = refl;
      closes = (c.close.result, c.close.ensures);
    })
