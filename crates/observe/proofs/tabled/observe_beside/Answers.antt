use Rattle.std.proofs.Common.{ℕ, List, ap, map, string_bytes, subst}
use Rattle.std.specs.Prelude.{option_map}
use Rattle.thy_outcome.specs.Answering.{around, nvm_of}
use Rattle.observe.specs.CountText.{counts_of}
use Rattle.observe.proofs.TabledLemmas.{Beside-named, Beside-none}
use Rattle.observe.proofs.tabled.observe_beside.Goals as goal

pub returns-in-Some : goal.returns-in-Some
returns-in-Some g c =
    let x = c.observe_named.new in
    Beside-named _ (nvm_of g.N.Nvm.device) (counts_of g.N.Counts.calls g.N.Counts.wear) c.args.options c.args.out.now (map string_bytes c.args.words.now)
    (around (g.H.Shelf.stock c.args.shelf.now) c.args.nvm.now (g.T.Sink.stream c.args.terminal.now) (g.R.Sink.stream c.args.report.now))
    (around (g.H.Shelf.stock x.shelf) x.nvm (g.T.Sink.stream x.terminal) (g.R.Sink.stream x.report))
    c.observe_named.result (option_map string_bytes c.args.name.now)
    (string_bytes c.in-Some.name) c.as_str.result.now (ap (option_map string_bytes) c.in-Some.is) c.as_str.ensures.value c.observe_named.ensures

pub returns-in-None : goal.returns-in-None
returns-in-None g c =
    let x = c.observe_unnamed.new in
    Beside-none _ (nvm_of g.N.Nvm.device) (counts_of g.N.Counts.calls g.N.Counts.wear) c.args.options c.args.out.now (map string_bytes c.args.words.now)
    (around (g.H.Shelf.stock c.args.shelf.now) c.args.nvm.now (g.T.Sink.stream c.args.terminal.now) (g.R.Sink.stream c.args.report.now))
    (around (g.H.Shelf.stock x.shelf) x.nvm (g.T.Sink.stream x.terminal) (g.R.Sink.stream x.report))
    c.observe_unnamed.result (option_map string_bytes c.args.name.now)
    (ap (option_map string_bytes) c.in-None.is) c.observe_unnamed.ensures
