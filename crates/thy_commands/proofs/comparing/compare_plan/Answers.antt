use Rattle.std.proofs.Common.{true, false, [], refl, sym, ◌∙◌, ap, subst, arith}
use Rattle.std.proofs.lemmas.Bool.{le-leb, lt-leb}
use Rattle.thy_block.specs.declared.parameters.SchemeName.TheVariants.{Thynvm, Journal, Shadow}
use Rattle.thy_run.specs.declared.plan.Plan.{Plan}
use Rattle.thy_outcome.specs.Answering.{around, nvm_of}
use Rattle.thy_commands.specs.Compared.{RunsNext, plan_under}
use Rattle.thy_outcome.specs.Machines.{by_scheme}
use Rattle.thy_execute.specs.Planning.{CanRun}
use Rattle.thy_commands.proofs.NextLaws.{IsNothing, Nexts, compares_one, compares_three, compares_two, for_run}
use Rattle.thy_commands.proofs.comparing.compare_plan.Goals as goal

pub run_next-first-requires-clause-can : goal.run_next-first-requires-clause-can
run_next-first-requires-clause-can g c = subst (λ (p : Plan). CanRun p []) (sym c.put_under.ensures.under) (c.requires.can Thynvm)

pub run_next-first-requires-clause-reads : goal.run_next-first-requires-clause-reads
run_next-first-requires-clause-reads g c =
    c.requires.thynvm c.put_under.new.plan.geometry (ap (λ (p : Plan). p.geometry.scheme) c.put_under.ensures.under)

pub run_next-second-requires-clause-can : goal.run_next-second-requires-clause-can
run_next-second-requires-clause-can g c = subst (λ (p : Plan). CanRun p [])
    (sym (c.put_under-2.ensures.under ∙ ap (plan_under Journal) c.put_under.ensures.under)) (c.requires.can Journal)

pub run_next-second-requires-clause-reads : goal.run_next-second-requires-clause-reads
run_next-second-requires-clause-reads g c =
    c.requires.journal c.put_under-2.new.plan.geometry (ap (λ (p : Plan). p.geometry.scheme) c.put_under-2.ensures.under)

pub run_next-third-requires-clause-can : goal.run_next-third-requires-clause-can
run_next-third-requires-clause-can g c =
    subst (λ (p : Plan). CanRun p [])
    (sym (c.put_under-3.ensures.under ∙ ap (plan_under Shadow) (c.put_under-2.ensures.under ∙ ap (plan_under Journal) c.put_under.ensures.under))) (c.requires.can Shadow)

pub run_next-third-requires-clause-reads : goal.run_next-third-requires-clause-reads
run_next-third-requires-clause-reads g c =
    c.requires.shadow c.put_under-3.new.plan.geometry (ap (λ (p : Plan). p.geometry.scheme) c.put_under-3.ensures.under)

pub returns-then-first-gt1 : goal.returns-then-first-gt1
returns-then-first-gt1 g c =
    let machines = by_scheme g.A.Computer.kind g.B.Computer.kind g.C.Computer.kind in
    let d = nvm_of g.N.Nvm.device in
    let before = around (g.H.Shelf.stock c.args.shelf.now) c.args.nvm.now (g.T.Sink.stream c.args.terminal.now)
    (g.R.Sink.stream c.args.report.now) in
    let w = around (g.H.Shelf.stock c.run_next-first.new.shelf) c.run_next-first.new.nvm (g.T.Sink.stream c.run_next-first.new.terminal)
    (g.R.Sink.stream c.run_next-first.new.report) in
    let nothing : IsNothing c.nothing-nothing.result = record {
      events = c.nothing-nothing.ensures.events;
      status = c.nothing-nothing.ensures.status;
      cycles = c.nothing-nothing.ensures.cycles;
    } in
    let ran : Nexts machines d c.args.name.now c.args.plan true Thynvm before w c.nothing-nothing.result c.run_next-first.result =
    subst (λ p. RunsNext g.A.Computer.kind d c.args.name.now p before w c.nothing-nothing.result c.run_next-first.result)
    c.put_under.ensures.under c.run_next-first.ensures in
    compares_one machines d c.args.name.now c.args.plan before w c.nothing-nothing.result c.run_next-first.result c.answer.result nothing ran
    (record { status = c.answer.ensures.status; events = c.answer.ensures.events; cycles = c.answer.ensures.cycles })
    (lt-leb c.run_next-first.result.status 1 c.if-first-gt1.true)

pub returns-then-second-gt1 : goal.returns-then-second-gt1
returns-then-second-gt1 g c =
    let machines = by_scheme g.A.Computer.kind g.B.Computer.kind g.C.Computer.kind in
    let d = nvm_of g.N.Nvm.device in
    let before = around (g.H.Shelf.stock c.args.shelf.now) c.args.nvm.now (g.T.Sink.stream c.args.terminal.now)
    (g.R.Sink.stream c.args.report.now) in
    let w = around (g.H.Shelf.stock c.run_next-first.new.shelf) c.run_next-first.new.nvm (g.T.Sink.stream c.run_next-first.new.terminal)
    (g.R.Sink.stream c.run_next-first.new.report) in
    let nothing : IsNothing c.nothing-nothing.result = record {
      events = c.nothing-nothing.ensures.events;
      status = c.nothing-nothing.ensures.status;
      cycles = c.nothing-nothing.ensures.cycles;
    } in
    let ran : Nexts machines d c.args.name.now c.args.plan true Thynvm before w c.nothing-nothing.result c.run_next-first.result =
    subst (λ p. RunsNext g.A.Computer.kind d c.args.name.now p before w c.nothing-nothing.result c.run_next-first.result)
    c.put_under.ensures.under c.run_next-first.ensures in
    let low = le-leb c.run_next-first.result.status 1 (omega (arith, c.if-first-gt1.false)) in
    let u = around (g.H.Shelf.stock c.run_next-second.new.shelf) c.run_next-second.new.nvm (g.T.Sink.stream c.run_next-first.new.terminal)
    (g.R.Sink.stream c.run_next-second.new.report) in
    let under_journal = c.put_under-2.ensures.under ∙ ap (plan_under Journal) c.put_under.ensures.under in
    let next : Nexts machines d c.args.name.now c.args.plan false Journal w u c.run_next-first.result c.run_next-second.result =
    subst (λ p. RunsNext g.B.Computer.kind d c.args.name.now p (for_run false w)
    (for_run false u) c.run_next-first.result c.run_next-second.result) under_journal c.run_next-second.ensures in
    compares_two machines d c.args.name.now c.args.plan before w c.nothing-nothing.result c.run_next-first.result
    c.answer-then-second-gt1.result nothing ran low u c.run_next-second.result refl next
    (record {
      status = c.answer-then-second-gt1.ensures.status;
      events = c.answer-then-second-gt1.ensures.events;
      cycles = c.answer-then-second-gt1.ensures.cycles;
    }) (lt-leb c.run_next-second.result.status 1 c.if-second-gt1.true)

pub returns : goal.returns
returns g c =
    let machines = by_scheme g.A.Computer.kind g.B.Computer.kind g.C.Computer.kind in
    let d = nvm_of g.N.Nvm.device in
    let before = around (g.H.Shelf.stock c.args.shelf.now) c.args.nvm.now (g.T.Sink.stream c.args.terminal.now)
    (g.R.Sink.stream c.args.report.now) in
    let w = around (g.H.Shelf.stock c.run_next-first.new.shelf) c.run_next-first.new.nvm (g.T.Sink.stream c.run_next-first.new.terminal)
    (g.R.Sink.stream c.run_next-first.new.report) in
    let nothing : IsNothing c.nothing-nothing.result = record {
      events = c.nothing-nothing.ensures.events;
      status = c.nothing-nothing.ensures.status;
      cycles = c.nothing-nothing.ensures.cycles;
    } in
    let ran : Nexts machines d c.args.name.now c.args.plan true Thynvm before w c.nothing-nothing.result c.run_next-first.result =
    subst (λ p. RunsNext g.A.Computer.kind d c.args.name.now p before w c.nothing-nothing.result c.run_next-first.result)
    c.put_under.ensures.under c.run_next-first.ensures in
    let low = le-leb c.run_next-first.result.status 1 (omega (arith, c.if-first-gt1.false)) in
    let u = around (g.H.Shelf.stock c.run_next-second.new.shelf) c.run_next-second.new.nvm (g.T.Sink.stream c.run_next-first.new.terminal)
    (g.R.Sink.stream c.run_next-second.new.report) in
    let under_journal = c.put_under-2.ensures.under ∙ ap (plan_under Journal) c.put_under.ensures.under in
    let next : Nexts machines d c.args.name.now c.args.plan false Journal w u c.run_next-first.result c.run_next-second.result =
    subst (λ p. RunsNext g.B.Computer.kind d c.args.name.now p (for_run false w)
    (for_run false u) c.run_next-first.result c.run_next-second.result) under_journal c.run_next-second.ensures in
    let low_again = le-leb c.run_next-second.result.status 1 (omega (arith, c.if-second-gt1.false)) in
    let v = around (g.H.Shelf.stock c.run_next-third.new.shelf) c.run_next-third.new.nvm (g.T.Sink.stream c.run_next-first.new.terminal)
    (g.R.Sink.stream c.run_next-third.new.report) in
    let final : Nexts machines d c.args.name.now c.args.plan false Shadow u v c.run_next-second.result c.run_next-third.result =
    subst (λ p. RunsNext g.C.Computer.kind d c.args.name.now p (for_run false u) (for_run false v) c.run_next-second.result c.run_next-third.result)
    (c.put_under-3.ensures.under ∙ ap (plan_under Shadow) under_journal) c.run_next-third.ensures in
    compares_three machines d c.args.name.now c.args.plan before w c.nothing-nothing.result c.run_next-first.result c.answer-2.result
    nothing ran low u c.run_next-second.result refl next
    v c.run_next-third.result low_again refl final
    (record { status = c.answer-2.ensures.status; events = c.answer-2.ensures.events; cycles = c.answer-2.ensures.cycles })
