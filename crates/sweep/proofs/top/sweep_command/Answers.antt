use Rattle.std.proofs.Common.{ℕ, List, refl, sym, subst, string_bytes}
use Rattle.thy_outcome.specs.Answering.{Outside, outside}
use Rattle.thy_outcome.specs.Machines.{by_scheme}
use Rattle.thy_outcome.specs.Sources.{file, made, image}
use Rattle.thy_base.specs.declared.arguments.words.Command.{Command}
use Rattle.thy_base.specs.Settings.{Job, job_of, order_of}
use Rattle.sweep.specs.Swept.{SweepsJob, SweepsOrder}
use Rattle.sweep.proofs.top.sweep_command.Goals as goal

pub returns-in-Run : goal.returns-in-Run
returns-in-Run g c =
    let machines = by_scheme g.A.Computer.kind g.B.Computer.kind g.C.Computer.kind in
    let before : Outside = outside (g.H.Shelf.stock c.args.shelf.now) c.args.nvm.now.device (g.T.Sink.stream c.args.terminal.now) (g.R.Sink.stream c.args.report.now) in
    let x = c.sweep_by_scheme.new in
    let after : Outside = outside (g.H.Shelf.stock x.shelf) x.nvm.device (g.T.Sink.stream x.terminal) (g.R.Sink.stream x.report) in
    let status = c.sweep_by_scheme.result in
    let job : Job = job_of c.in-Run.job in
    let K = (machines job.config.scheme).kind in
    let swept : SweepsJob K c.args.out.now c.args.asked.now (file (string_bytes c.in-Run.file)) job before after status
    = subst (λ (l : List ℕ). SweepsJob K c.args.out.now c.args.asked.now (file l) job before after status) c.as_str.ensures.value c.sweep_by_scheme.ensures in
    subst (λ (command : Command). SweepsOrder machines c.args.out.now c.args.asked.now (order_of command) before after status)
    (sym c.in-Run.is) (record { source = file (string_bytes c.in-Run.file); job = job; is_job = (refl, refl); sweeps = swept })

pub returns-in-Resume : goal.returns-in-Resume
returns-in-Resume g c =
    let machines = by_scheme g.A.Computer.kind g.B.Computer.kind g.C.Computer.kind in
    let before : Outside = outside (g.H.Shelf.stock c.args.shelf.now) c.args.nvm.now.device (g.T.Sink.stream c.args.terminal.now) (g.R.Sink.stream c.args.report.now) in
    let x = c.sweep_by_scheme-in-Resume.new in
    let after : Outside = outside (g.H.Shelf.stock x.shelf) x.nvm.device (g.T.Sink.stream x.terminal) (g.R.Sink.stream x.report) in
    let status = c.sweep_by_scheme-in-Resume.result in
    let job : Job = job_of c.in-Resume.job in
    let K = (machines job.config.scheme).kind in
    let swept : SweepsJob K c.args.out.now c.args.asked.now (image (string_bytes c.in-Resume.image)) job before after status
    = subst (λ (l : List ℕ). SweepsJob K c.args.out.now c.args.asked.now (image l) job before after status) c.as_str-in-Resume.ensures.value c.sweep_by_scheme-in-Resume.ensures in
    subst (λ (command : Command). SweepsOrder machines c.args.out.now c.args.asked.now (order_of command) before after status)
    (sym c.in-Resume.is) (record { source = image (string_bytes c.in-Resume.image); job = job; is_job = (refl, refl); sweeps = swept })

pub returns-in-Bench : goal.returns-in-Bench
returns-in-Bench g c =
    let machines = by_scheme g.A.Computer.kind g.B.Computer.kind g.C.Computer.kind in
    let before : Outside = outside (g.H.Shelf.stock c.args.shelf.now) c.args.nvm.now.device (g.T.Sink.stream c.args.terminal.now) (g.R.Sink.stream c.args.report.now) in
    let x = c.sweep_by_scheme-in-Bench.new in
    let after : Outside = outside (g.H.Shelf.stock x.shelf) x.nvm.device (g.T.Sink.stream x.terminal) (g.R.Sink.stream x.report) in
    let status = c.sweep_by_scheme-in-Bench.result in
    let job : Job = job_of c.in-Bench.job in
    let K = (machines job.config.scheme).kind in
    subst (λ (command : Command). SweepsOrder machines c.args.out.now c.args.asked.now (order_of command) before after status)
    (sym c.in-Bench.is) (record { source = made c.in-Bench.number; job = job; is_job = (refl, refl); sweeps = c.sweep_by_scheme-in-Bench.ensures })
