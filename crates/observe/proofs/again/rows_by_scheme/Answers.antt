use Rattle.std.proofs.Common.{sym, subst}
use Rattle.thy_block.specs.declared.parameters.SchemeName.{SchemeName}
use Rattle.thy_base.specs.Config.{parameters_of}
use Rattle.thy_base.specs.Settings.{job_of}
use Rattle.thy_outcome.specs.Kept.{named}
use Rattle.thy_outcome.specs.Machines.{by_scheme}
use Rattle.observe.specs.Again.{MakesRows}
use Rattle.observe.proofs.again.rows_by_scheme.Goals as goal

pub rows_of-requires-clause-reads : goal.rows_of-requires-clause-reads
rows_of-requires-clause-reads g c = c.requires.thynvm (parameters_of c.args.job.config) c.in-Thynvm.is

pub rows_of-requires-in-Journal-clause-reads : goal.rows_of-requires-in-Journal-clause-reads
rows_of-requires-in-Journal-clause-reads g c = c.requires.journal (parameters_of c.args.job.config) c.in-Journal.is

pub rows_of-requires-in-Shadow-clause-reads : goal.rows_of-requires-in-Shadow-clause-reads
rows_of-requires-in-Shadow-clause-reads g c = c.requires.shadow (parameters_of c.args.job.config) c.in-Shadow.is

pub returns-in-Thynvm : goal.returns-in-Thynvm
returns-in-Thynvm g c =
    let x = c.rows_of.new in
    subst (λ (s : SchemeName). MakesRows (by_scheme g.A.Computer.kind g.B.Computer.kind g.C.Computer.kind s).kind (named c.args.source) (job_of c.args.job) c.args.window (g.H.Shelf.stock c.args.shelf.now) (g.H.Shelf.stock x.shelf) (g.R.Sink.stream c.args.report.now) (g.R.Sink.stream x.report) c.rows_of.result)
    (sym c.in-Thynvm.is) c.rows_of.ensures

pub returns-in-Journal : goal.returns-in-Journal
returns-in-Journal g c =
    let x = c.rows_of-in-Journal.new in
    subst (λ (s : SchemeName). MakesRows (by_scheme g.A.Computer.kind g.B.Computer.kind g.C.Computer.kind s).kind (named c.args.source) (job_of c.args.job) c.args.window (g.H.Shelf.stock c.args.shelf.now) (g.H.Shelf.stock x.shelf) (g.R.Sink.stream c.args.report.now) (g.R.Sink.stream x.report) c.rows_of-in-Journal.result)
    (sym c.in-Journal.is) c.rows_of-in-Journal.ensures

pub returns-in-Shadow : goal.returns-in-Shadow
returns-in-Shadow g c =
    let x = c.rows_of-in-Shadow.new in
    subst (λ (s : SchemeName). MakesRows (by_scheme g.A.Computer.kind g.B.Computer.kind g.C.Computer.kind s).kind (named c.args.source) (job_of c.args.job) c.args.window (g.H.Shelf.stock c.args.shelf.now) (g.H.Shelf.stock x.shelf) (g.R.Sink.stream c.args.report.now) (g.R.Sink.stream x.report) c.rows_of-in-Shadow.result)
    (sym c.in-Shadow.is) c.rows_of-in-Shadow.ensures
