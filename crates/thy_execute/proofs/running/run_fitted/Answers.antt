use Rattle.std.proofs.Common.{ap, subst, sym, ◌∙◌, ℕ}
use Rattle.std.specs.Prelude.{option_map}
use Rattle.thy_block.specs.declared.parameters.Parameters.{Parameters}
use Rattle.thy_run.specs.Going.{origin_of, given_of}
use Rattle.thy_outcome.specs.Answering.{Outside, outside, ClosesAs}
use Rattle.thy_execute.specs.Planning.{HasRoom}
use Rattle.thy_outcome.specs.Kept.{named}
use Rattle.thy_outcome.specs.Saving.{saves}
use Rattle.thy_execute.proofs.LevellingLemmas.{HasStayed-ran}
use Rattle.thy_execute.proofs.PlanLemmas.{HasRoom-ran, IsRunOf-ran, planned_promise}
use Rattle.thy_execute.proofs.running.run_fitted.Goals as goal

pub save_run-why-requires : goal.save_run-why-requires
save_run-why-requires g c =
    let f = c.requires.fitted in
    subst (HasRoom (g.N.Nvm.device c.run-ending.new.nvm) c.run-ending.result.events) (f.fits.blocks ∙ sym c.nvm_blocks-blocks.ensures)
    (HasRoom-ran g.M.Computer.kind g.met.M.Computer.lawful c.args.plan.now f.start f.shape f.before (g.N.Nvm.device c.args.nvm.now)
    (g.N.Nvm.device c.run-ending.new.nvm) c.run-ending.result
    (g.T.Sink.stream c.args.terminal.now) (g.T.Sink.stream c.run-ending.new.terminal) (g.R.Sink.stream c.args.report.now)
    (g.R.Sink.stream c.run-ending.new.report)
    c.requires.planned f.is_fitted f.fits.fits f.cuts c.run-ending.ensures.ran)

pub returns-clause-runs : goal.returns-clause-runs
returns-clause-runs g c = λ job blocks found names p fit.
    let before : Outside = outside (g.H.Shelf.stock c.args.shelf.now) found (g.T.Sink.stream c.args.terminal.now)
    (g.R.Sink.stream c.args.report.now) in
    let after : Outside = outside (g.H.Shelf.stock c.save_run-why.new.shelf) (g.N.Nvm.device c.save_run-why.new.nvm)
    (g.T.Sink.stream c.run-ending.new.terminal) (g.R.Sink.stream c.stopped.new.report) in
    let e = c.run-ending.result in
    IsRunOf-ran g.M.Computer.kind g.met.M.Computer.lawful g.O.Observer.has_seen (named c.args.source) job
    (option_map (λ n. n.now) c.args.save) before after c.args.plan.now blocks
    (g.N.Nvm.device c.args.nvm.now) (g.N.Nvm.device c.run-ending.new.nvm) e c.stopped.result
    (g.R.Sink.stream c.run-ending.new.report) c.save_run-why.result c.run-ending.new.observer c.requires.planned p names
    fit c.run-ending.ensures.seen c.save_run-why.ensures
    (subst (λ (l : ℕ). ClosesAs (named c.args.source) l (option_map (λ n. n.now) c.args.save) e c.save_run-why.result
    c.stopped.result.status (g.R.Sink.stream c.run-ending.new.report) (g.R.Sink.stream c.stopped.new.report))
    (ap (λ (x : Parameters). x.limit) c.numbers-limit.ensures.same) c.stopped.ensures.closes)
    c.stopped.ensures.stop c.stopped.ensures.events c.stopped.ensures.cycles

pub returns-clause-stays : goal.returns-clause-stays
returns-clause-stays g c =
    let e = c.run-ending.result in
    HasStayed-ran g.M.Computer.kind (origin_of c.args.plan.now) (given_of c.args.plan.now (g.N.Nvm.device c.args.nvm.now)) e.cycles e.events
    (option_map (λ n. n.now) c.args.save) (saves e.stop) c.args.plan.now.config (g.N.Nvm.device c.run-ending.new.nvm)
    (g.N.Nvm.device c.save_run-why.new.nvm)
    (g.H.Shelf.stock c.args.shelf.now) (g.H.Shelf.stock c.save_run-why.new.shelf) c.save_run-why.result
    (planned_promise g.M.Computer.kind g.met.M.Computer.lawful c.args.plan.now (g.N.Nvm.device c.args.nvm.now)
    (g.N.Nvm.device c.run-ending.new.nvm) e
    (g.T.Sink.stream c.args.terminal.now) (g.T.Sink.stream c.run-ending.new.terminal) (g.R.Sink.stream c.args.report.now)
    (g.R.Sink.stream c.run-ending.new.report)
    c.requires.planned c.run-ending.ensures.ran)
    c.save_run-why.ensures
