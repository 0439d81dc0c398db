use Rattle.std.proofs.Common.{ℕ, List, sym, ◌∙◌, subst, inl}
use Rattle.thy_outcome.specs.Answering.{Closes}
use Rattle.observe.specs.declared.options.WindowFault.{WindowFault}
use Rattle.observe.specs.Wanting.{IsWindowRefused}
use Rattle.observe.proofs.options.refuse_window.Goals as goal

pub returns-in-First : goal.returns-in-First
returns-in-First g c =
    subst (λ (fault : WindowFault). IsWindowRefused fault (g.R.Sink.stream c.args.report.now) (g.R.Sink.stream c.refuse_by.new.report) c.refuse_by.result)
    (sym c.in-First.is) (inl (c.refuse_by.ensures.closes, c.refuse_by.ensures.status))

pub returns-in-Ok : goal.returns-in-Ok
returns-in-Ok g c =
    let old = g.R.Sink.stream c.args.report.now in
    let new = g.R.Sink.stream c.refuse_by-in-Ok.new.report in
    subst (λ (fault : WindowFault). IsWindowRefused fault old new c.refuse_by-in-Ok.result)
    (sym c.in-Last.is)
    (inl (
      subst (λ (l : List ℕ). Closes l old new) (c.as_str.ensures.value ∙ c.in-Ok.ensures.ok) c.refuse_by-in-Ok.ensures.closes,
      c.refuse_by-in-Ok.ensures.status,
    ))
