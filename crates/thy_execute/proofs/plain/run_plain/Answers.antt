use Rattle.std.proofs.Common.{◌≡◌, ◌∙◌, ap, sym, subst, refl, inl, inr}
use Rattle.thy_block.specs.declared.parameters.Parameters.{Parameters}
use Rattle.thy_block.specs.Bytes.{bytes_of}
use Rattle.thy_base.specs.Config.{parameters_of}
use Rattle.thy_block.specs.Outside.{Stock}
use Rattle.thy_isa.specs.declared.state.MachState.{MachState}
use Rattle.thy_isa.specs.Step.{state_of}
use Rattle.thy_text.specs.History.{of_run}
use Rattle.thy_text.specs.Lines.{ended_lines}
use Rattle.thy_run.specs.Sending.{Sent}
use Rattle.thy_outcome.specs.declared.answer.Answer.{Answer}
use Rattle.thy_outcome.specs.declared.refusal.Refusal.TheVariants.{Memory}
use Rattle.thy_outcome.specs.Answering.{outside}
use Rattle.thy_execute.proofs.PlainLemmas.{IsPlainOf-ran}
use Rattle.thy_outcome.proofs.ClosingLaws.{unsummed}
use Rattle.thy_outcome.proofs.ShelfLemmas.{stock_same}
use Rattle.thy_execute.proofs.plain.run_plain.Goals as goal

pub returns-in-Err : goal.returns-in-Err
returns-in-Err g c = λ n job h.
    let numbers : c.of-geometry.result ≡ parameters_of job.config = c.of-geometry.ensures ∙ ap parameters_of (sym h.configures) in (
      (
        refl,
        inl (
          c.in-Err.refusal,
          c.in-Err.ensures.refusal job (record { numbers = numbers; reads = h.reads }),
          record {
            status = c.refuse.ensures.status;
            events = c.refuse.ensures.events;
            cycles = c.refuse.ensures.cycles;
            shown_none = refl;
            held = c.in-Err.ensures.held;
            closes = c.refuse.ensures.closes;
          },
        ),
      ),
      c.requires.unseen,
    )

pub returns-in-Ok-load : goal.returns-in-Ok-load
returns-in-Ok-load g c = λ n job h.
    let numbers : c.of-geometry.result ≡ parameters_of job.config = c.of-geometry.ensures ∙ ap parameters_of (sym h.configures) in
    let old : Stock = g.H.Shelf.stock c.args.shelf.now in
    let new : Stock = g.H.Shelf.stock c.plain_program.new.shelf in
    let last : MachState = c.into_state-state.result in
    let program = c.in-Ok.ensures.program job (record { numbers = numbers; reads = h.reads }) in
    let closed = unsummed _ _ _ _ _ _ _ _ c.stopped.ensures.closes in
    let ran = IsPlainOf-ran c.args.name.now job (outside old n (g.T.Sink.stream c.args.terminal.now) (g.R.Sink.stream c.args.report.now))
    (outside new n (g.T.Sink.stream c.write_bytes-terminal_failed.new.terminal) (g.R.Sink.stream c.stopped.new.report))
    c.in-Ok.program c.in-Ok-load.machine _ last _ _ c.write_bytes-terminal_failed.result c.write_end-report_failed.result
    c.plain_stop.result c.answer.result (g.R.Sink.stream c.write_end-report_failed.new.report)
    program (stock_same old new c.in-Ok.ensures.held c.in-Ok.ensures.calm)
    c.in-Ok-load.ensures.machine (ap (λ (x : Parameters). x.limit) c.numbers-limit.ensures.same) c.run-cycles.ensures.stops
    c.run-cycles.ensures.state c.into_state-state.ensures
    (subst (Sent c.write_bytes-terminal_failed.result (g.T.Sink.stream c.args.terminal.now)
    (g.T.Sink.stream c.write_bytes-terminal_failed.new.terminal)) c.as_slice.ensures c.write_bytes-terminal_failed.ensures.bytes)
    (subst (λ d. Sent c.write_end-report_failed.result (g.R.Sink.stream c.args.report.now) (g.R.Sink.stream c.write_end-report_failed.new.report) (ended_lines d last.status last.count (bytes_of last.memory))) (sym h.digests) c.write_end-report_failed.ensures)
    c.plain_stop.ensures closed.0
    (ap (λ (a : Answer). a.events) c.answer.ensures ∙ ap of_run (c.stopped.ensures.events ∙ c.new.ensures))
    (ap (λ (a : Answer). a.cycles) c.answer.ensures ∙ c.stopped.ensures.cycles)
    (ap (λ (a : Answer). a.status) c.answer.ensures ∙ closed.1) in
    let base = ap (λ (x : Parameters). x.base) (c.numbers.ensures.same ∙ program.geometry) in (
      (refl, inr ran.0),
      subst (λ s. g.O.Observer.has_seen_last c.see_last.new.self job.config.base s) (sym ran.1)
          (subst (λ b. g.O.Observer.has_seen_last c.see_last.new.self b (state_of last)) base c.see_last.ensures),
    )

pub returns : goal.returns
returns g c = λ n job h. (
  (
    refl,
    inl (
      Memory c.in-Err-load.error,
      c.in-Ok.ensures.calm,
      record {
        status = c.refuse-in-Err-load.ensures.status;
        events = c.refuse-in-Err-load.ensures.events;
        cycles = c.refuse-in-Err-load.ensures.cycles;
        shown_none = refl;
        held = c.in-Ok.ensures.held;
        closes = c.refuse-in-Err-load.ensures.closes;
      },
    ),
  ),
  c.requires.unseen,
)
