use Rattle.std.proofs.Common.{refl, sym, ◌∙◌, map, string_bytes}
use Rattle.thy_outcome.specs.Answering.{around, nvm_of}
use Rattle.observe.specs.CountText.{counts_of}
use Rattle.observe.proofs.TabledLemmas.{Unnamed-observed, Unnamed-turned}
use Rattle.observe.proofs.tabled.observe_unnamed.Goals as goal

pub returns-then-has_cycle : goal.returns-then-has_cycle
returns-then-has_cycle g c =
    let shelf = g.H.Shelf.stock c.args.shelf.now in
    let terminal = g.T.Sink.stream c.args.terminal.now in
    Unnamed-turned _ (nvm_of g.N.Nvm.device) (counts_of g.N.Counts.calls g.N.Counts.wear) c.args.options c.args.out.now (map string_bytes c.args.words.now)
    (around shelf c.args.nvm.now terminal (g.R.Sink.stream c.args.report.now)) (around shelf c.args.nvm.now terminal (g.R.Sink.stream c.refuse.new.report))
    c.refuse.result.status (sym c.has_cycle.ensures ∙ c.if-has_cycle.true) (record {
      is_status = c.refuse.ensures.status;
      shelf = refl;
      device = refl;
      terminal = refl;
      closes = c.refuse.ensures.closes;
    })

pub returns : goal.returns
returns g c =
    let x = c.observe.new in
    Unnamed-observed _ (nvm_of g.N.Nvm.device) (counts_of g.N.Counts.calls g.N.Counts.wear) c.args.options c.args.out.now (map string_bytes c.args.words.now)
    (around (g.H.Shelf.stock c.args.shelf.now) c.args.nvm.now (g.T.Sink.stream c.args.terminal.now) (g.R.Sink.stream c.args.report.now))
    (around (g.H.Shelf.stock x.shelf) x.nvm (g.T.Sink.stream x.terminal) (g.R.Sink.stream x.report))
    c.observe.result (sym c.has_cycle.ensures ∙ c.if-has_cycle.false) c.observe.ensures
