use Rattle.std.proofs.Common.{sym, subst}
use Rattle.thy_block.specs.declared.parameters.SchemeName.{SchemeName}
use Rattle.thy_base.specs.Config.{parameters_of}
use Rattle.thy_base.specs.Settings.{job_of}
use Rattle.thy_outcome.specs.Answering.{Outside, outside}
use Rattle.thy_outcome.specs.Kept.{named}
use Rattle.thy_outcome.specs.Machines.{by_scheme}
use Rattle.sweep.specs.Swept.{SweepsJob}
use Rattle.sweep.proofs.top.sweep_by_scheme.Goals as goal

pub sweep_source-requires-clause-reads : goal.sweep_source-requires-clause-reads
sweep_source-requires-clause-reads g c = c.requires.thynvm (parameters_of c.args.job.config) c.in-Thynvm.is

pub sweep_source-requires-in-Journal-clause-reads : goal.sweep_source-requires-in-Journal-clause-reads
sweep_source-requires-in-Journal-clause-reads g c = c.requires.journal (parameters_of c.args.job.config) c.in-Journal.is

pub sweep_source-requires-in-Shadow-clause-reads : goal.sweep_source-requires-in-Shadow-clause-reads
sweep_source-requires-in-Shadow-clause-reads g c = c.requires.shadow (parameters_of c.args.job.config) c.in-Shadow.is

pub returns-in-Thynvm : goal.returns-in-Thynvm
returns-in-Thynvm g c =
    let before : Outside = outside (g.H.Shelf.stock c.args.shelf.now) c.args.nvm.now.device (g.T.Sink.stream c.args.terminal.now) (g.R.Sink.stream c.args.report.now) in
    let x = c.sweep_source.new in
    let after : Outside = outside (g.H.Shelf.stock x.shelf) x.nvm.device (g.T.Sink.stream x.terminal) (g.R.Sink.stream x.report) in
    subst (λ (s : SchemeName). SweepsJob (by_scheme g.A.Computer.kind g.B.Computer.kind g.C.Computer.kind s).kind c.args.out.now c.args.asked.now (named c.args.source) (job_of c.args.job) before after c.sweep_source.result)
    (sym c.in-Thynvm.is) c.sweep_source.ensures

pub returns-in-Journal : goal.returns-in-Journal
returns-in-Journal g c =
    let before : Outside = outside (g.H.Shelf.stock c.args.shelf.now) c.args.nvm.now.device (g.T.Sink.stream c.args.terminal.now) (g.R.Sink.stream c.args.report.now) in
    let x = c.sweep_source-in-Journal.new in
    let after : Outside = outside (g.H.Shelf.stock x.shelf) x.nvm.device (g.T.Sink.stream x.terminal) (g.R.Sink.stream x.report) in
    subst (λ (s : SchemeName). SweepsJob (by_scheme g.A.Computer.kind g.B.Computer.kind g.C.Computer.kind s).kind c.args.out.now c.args.asked.now (named c.args.source) (job_of c.args.job) before after c.sweep_source-in-Journal.result)
    (sym c.in-Journal.is) c.sweep_source-in-Journal.ensures

pub returns-in-Shadow : goal.returns-in-Shadow
returns-in-Shadow g c =
    let before : Outside = outside (g.H.Shelf.stock c.args.shelf.now) c.args.nvm.now.device (g.T.Sink.stream c.args.terminal.now) (g.R.Sink.stream c.args.report.now) in
    let x = c.sweep_source-in-Shadow.new in
    let after : Outside = outside (g.H.Shelf.stock x.shelf) x.nvm.device (g.T.Sink.stream x.terminal) (g.R.Sink.stream x.report) in
    subst (λ (s : SchemeName). SweepsJob (by_scheme g.A.Computer.kind g.B.Computer.kind g.C.Computer.kind s).kind c.args.out.now c.args.asked.now (named c.args.source) (job_of c.args.job) before after c.sweep_source-in-Shadow.result)
    (sym c.in-Shadow.is) c.sweep_source-in-Shadow.ensures
