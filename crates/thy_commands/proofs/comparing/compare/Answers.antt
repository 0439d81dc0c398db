use Rattle.std.proofs.Common.{◌≡◌, inl, inr, refl, sym, subst}
use Rattle.thy_block.specs.declared.parameters.SchemeName.{SchemeName}
use Rattle.thy_block.specs.Outside.{Stock}
use Rattle.thy_outcome.specs.Answering.{around, nvm_of}
use Rattle.thy_outcome.specs.Machines.{by_scheme}
use Rattle.thy_execute.specs.Planning.{CanRun}
use Rattle.thy_base.specs.Settings.{Job, job_of}
use Rattle.thy_commands.specs.Compared.{Compares, plan_under}
use Rattle.thy_commands.proofs.ComparisonLaws.{IsComparison-compares}
use Rattle.thy_commands.proofs.NextLaws.{begun_under_each, no_blocks, plan_for_each}
use Rattle.thy_execute.proofs.PlanLemmas.{plan_with}
use Rattle.thy_outcome.proofs.ShelfLemmas.{stock_same}
use Rattle.thy_commands.proofs.comparing.compare.Goals as goal

pub compare_plan-requires-clause-can : goal.compare_plan-requires-clause-can
compare_plan-requires-clause-can g c = λ (scheme : SchemeName).
    let job : Job = job_of c.args.job in
    let begins = c.in-Ok.ensures.begins job (record { numbers = c.of-geometry.ensures; reads = sym c.as_deref.ensures.value }) in
    let stock = g.H.Shelf.stock c.args.shelf.now in
    subst (λ bs. CanRun (plan_under scheme (plan_with job.config c.of-geometry.result c.in-Ok.beginning.start job.digest)) bs)
    (no_blocks c.args.name.now job stock c.in-Ok.beginning begins)
    (begun_under_each job c.args.name.now stock c.in-Ok.beginning c.of-geometry.result c.requires.range c.of-geometry.ensures begins scheme).can

pub returns-in-Err : goal.returns-in-Err
returns-in-Err g c = inl (
  c.in-Err.refusal,
  c.in-Err.ensures.refusal (job_of c.args.job) (record { numbers = c.of-geometry.ensures; reads = sym c.as_deref.ensures.value }),
  refl,
  record {
    status = c.refuse.ensures.status;
    events = c.refuse.ensures.events;
    cycles = c.refuse.ensures.cycles;
    shown_none = refl;
    held = c.in-Err.ensures.held;
    closes = c.refuse.ensures.closes;
  },
)

pub returns : goal.returns
returns g c =
    let job : Job = job_of c.args.job in
    let machines = by_scheme g.A.Computer.kind g.B.Computer.kind g.C.Computer.kind in
    let d = nvm_of g.N.Nvm.device in
    let old : Stock = g.H.Shelf.stock c.args.shelf.now in
    let middle : Stock = g.H.Shelf.stock c.prepare.new.shelf in
    let same : middle ≡ old = stock_same old middle c.in-Ok.ensures.held c.in-Ok.ensures.calm in
    let before = around old c.args.nvm.now (g.T.Sink.stream c.args.terminal.now) (g.R.Sink.stream c.args.report.now) in
    let after = around (g.H.Shelf.stock c.compare_plan.new.shelf) c.compare_plan.new.nvm (g.T.Sink.stream c.compare_plan.new.terminal)
    (g.R.Sink.stream c.compare_plan.new.report) in
    let begins = c.in-Ok.ensures.begins job (record { numbers = c.of-geometry.ensures; reads = sym c.as_deref.ensures.value }) in
    let plan = plan_with job.config c.of-geometry.result c.in-Ok.beginning.start job.digest in
    inr (
    IsComparison-compares machines d c.args.name.now job plan before after c.compare_plan.result begins.program
    (plan_for_each job c.args.name.now old c.in-Ok.beginning c.of-geometry.result begins)
    (subst (λ s. Compares machines d c.args.name.now plan (around s c.args.nvm.now (g.T.Sink.stream c.args.terminal.now) (g.R.Sink.stream c.args.report.now)) after c.compare_plan.result) same c.compare_plan.ensures)
    )
