use Rattle.std.proofs.Common.{sym, subst}
use Rattle.thy_block.specs.declared.parameters.SchemeName.{SchemeName}
use Rattle.thy_base.specs.Config.{parameters_of}
use Rattle.thy_base.specs.Settings.{job_of}
use Rattle.thy_outcome.specs.Answering.{Outside, outside}
use Rattle.thy_outcome.specs.Watching.{RunSeen}
use Rattle.thy_outcome.specs.Machines.{by_scheme}
use Rattle.thy_outcome.specs.Kept.{named}
use Rattle.thy_execute.proofs.running.run_by_scheme.Goals as goal

pub run_source-requires-clause-reads : goal.run_source-requires-clause-reads
run_source-requires-clause-reads g c = c.requires.thynvm (parameters_of c.args.job.config) c.in-Thynvm.is

pub run_source-requires-in-Journal-clause-reads : goal.run_source-requires-in-Journal-clause-reads
run_source-requires-in-Journal-clause-reads g c = c.requires.journal (parameters_of c.args.job.config) c.in-Journal.is

pub run_source-requires-in-Shadow-clause-reads : goal.run_source-requires-in-Shadow-clause-reads
run_source-requires-in-Shadow-clause-reads g c = c.requires.shadow (parameters_of c.args.job.config) c.in-Shadow.is

pub returns-in-Thynvm : goal.returns-in-Thynvm
returns-in-Thynvm g c =
    let before : Outside = outside (g.H.Shelf.stock c.args.shelf.now) (g.N.Nvm.device c.args.nvm.now) (g.T.Sink.stream c.args.terminal.now)
    (g.R.Sink.stream c.args.report.now) in
    let after : Outside = outside (g.H.Shelf.stock c.run_source.new.shelf) (g.N.Nvm.device c.run_source.new.nvm)
    (g.T.Sink.stream c.run_source.new.terminal) (g.R.Sink.stream c.run_source.new.report) in
    subst (λ (x : SchemeName). RunSeen (by_scheme g.A.Computer.kind g.B.Computer.kind g.C.Computer.kind x).kind g.O.Observer.has_seen
    (named c.args.source) (job_of c.args.job) before after c.run_source.result c.run_source.new.observer)
    (sym c.in-Thynvm.is) c.run_source.ensures

pub returns-in-Journal : goal.returns-in-Journal
returns-in-Journal g c =
    let before : Outside = outside (g.H.Shelf.stock c.args.shelf.now) (g.N.Nvm.device c.args.nvm.now) (g.T.Sink.stream c.args.terminal.now)
    (g.R.Sink.stream c.args.report.now) in
    let after : Outside = outside (g.H.Shelf.stock c.run_source-in-Journal.new.shelf) (g.N.Nvm.device c.run_source-in-Journal.new.nvm)
    (g.T.Sink.stream c.run_source-in-Journal.new.terminal) (g.R.Sink.stream c.run_source-in-Journal.new.report) in
    subst (λ (x : SchemeName). RunSeen (by_scheme g.A.Computer.kind g.B.Computer.kind g.C.Computer.kind x).kind g.O.Observer.has_seen
    (named c.args.source) (job_of c.args.job) before after c.run_source-in-Journal.result c.run_source-in-Journal.new.observer)
    (sym c.in-Journal.is) c.run_source-in-Journal.ensures

pub returns-in-Shadow : goal.returns-in-Shadow
returns-in-Shadow g c =
    let before : Outside = outside (g.H.Shelf.stock c.args.shelf.now) (g.N.Nvm.device c.args.nvm.now) (g.T.Sink.stream c.args.terminal.now)
    (g.R.Sink.stream c.args.report.now) in
    let after : Outside = outside (g.H.Shelf.stock c.run_source-in-Shadow.new.shelf) (g.N.Nvm.device c.run_source-in-Shadow.new.nvm)
    (g.T.Sink.stream c.run_source-in-Shadow.new.terminal) (g.R.Sink.stream c.run_source-in-Shadow.new.report) in
    subst (λ (x : SchemeName). RunSeen (by_scheme g.A.Computer.kind g.B.Computer.kind g.C.Computer.kind x).kind g.O.Observer.has_seen
    (named c.args.source) (job_of c.args.job) before after c.run_source-in-Shadow.result c.run_source-in-Shadow.new.observer)
    (sym c.in-Shadow.is) c.run_source-in-Shadow.ensures
