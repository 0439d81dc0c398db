use Rattle.std.proofs.Common.{ℕ, List, refl, sym, subst, string_bytes}
use Rattle.thy_outcome.specs.Machines.{by_scheme}
use Rattle.thy_outcome.specs.Sources.{file, made, image}
use Rattle.thy_base.specs.declared.arguments.words.Command.{Command}
use Rattle.thy_base.specs.Settings.{Job, job_of, order_of}
use Rattle.observe.specs.Again.{MakesRows, MakesRowsOf}
use Rattle.observe.proofs.again.rows_for.Goals as goal

pub returns-in-Run : goal.returns-in-Run
returns-in-Run g c =
    let machines = by_scheme g.A.Computer.kind g.B.Computer.kind g.C.Computer.kind in
    let old = g.H.Shelf.stock c.args.shelf.now in
    let new = g.H.Shelf.stock c.rows_by_scheme.new.shelf in
    let before = g.R.Sink.stream c.args.report.now in
    let after = g.R.Sink.stream c.rows_by_scheme.new.report in
    let job : Job = job_of c.in-Run.job in
    let K = (machines job.config.scheme).kind in
    let rows : MakesRows K (file (string_bytes c.in-Run.file)) job c.args.window old new before after c.rows_by_scheme.result =
    subst (λ (l : List ℕ). MakesRows K (file l) job c.args.window old new before after c.rows_by_scheme.result) c.as_str.ensures.value c.rows_by_scheme.ensures in
    subst (λ (command : Command). MakesRowsOf machines (order_of command) c.args.window old new before after c.rows_by_scheme.result) (sym c.in-Run.is)
    (record { source = file (string_bytes c.in-Run.file); job = job; runs = refl; makes = rows })

pub returns-in-Resume : goal.returns-in-Resume
returns-in-Resume g c =
    let machines = by_scheme g.A.Computer.kind g.B.Computer.kind g.C.Computer.kind in
    let old = g.H.Shelf.stock c.args.shelf.now in
    let new = g.H.Shelf.stock c.rows_by_scheme-in-Resume.new.shelf in
    let before = g.R.Sink.stream c.args.report.now in
    let after = g.R.Sink.stream c.rows_by_scheme-in-Resume.new.report in
    let job : Job = job_of c.in-Resume.job in
    let K = (machines job.config.scheme).kind in
    let rows : MakesRows K (image (string_bytes c.in-Resume.image)) job c.args.window old new before after c.rows_by_scheme-in-Resume.result =
    subst (λ (l : List ℕ). MakesRows K (image l) job c.args.window old new before after c.rows_by_scheme-in-Resume.result) c.as_str-in-Resume.ensures.value c.rows_by_scheme-in-Resume.ensures in
    subst (λ (command : Command). MakesRowsOf machines (order_of command) c.args.window old new before after c.rows_by_scheme-in-Resume.result) (sym c.in-Resume.is)
    (record { source = image (string_bytes c.in-Resume.image); job = job; runs = refl; makes = rows })

pub returns-in-Bench : goal.returns-in-Bench
returns-in-Bench g c =
    let machines = by_scheme g.A.Computer.kind g.B.Computer.kind g.C.Computer.kind in
    let old = g.H.Shelf.stock c.args.shelf.now in
    let new = g.H.Shelf.stock c.rows_by_scheme-in-Bench.new.shelf in
    let before = g.R.Sink.stream c.args.report.now in
    let after = g.R.Sink.stream c.rows_by_scheme-in-Bench.new.report in
    let job : Job = job_of c.in-Bench.job in
    let K = (machines job.config.scheme).kind in
    subst (λ (command : Command). MakesRowsOf machines (order_of command) c.args.window old new before after c.rows_by_scheme-in-Bench.result) (sym c.in-Bench.is)
    (record { source = made c.in-Bench.number; job = job; runs = refl; makes = c.rows_by_scheme-in-Bench.ensures })
