use Rattle.std.proofs.Common.{◌≡◌, ℕ, List, true, refl, sym, ◌∙◌, ap, inl, inr, subst, map, string_bytes}
use Rattle.thy_block.specs.declared.parameters.SchemeName.TheVariants.{Thynvm, Journal, Shadow}
use Rattle.thy_files.proofs.RestoringLaws.{reads_by}
use Rattle.thy_base.specs.Settings.{order_of}
use Rattle.thy_outcome.specs.Answering.{nvm_of}
use Rattle.thy_outcome.specs.Saving.{IsPut}
use Rattle.observe.specs.AccessText.{table_text}
use Rattle.observe.specs.CountText.{counts_of}
use Rattle.observe.specs.Tabled.{is_turned}
use Rattle.observe.proofs.TabledLemmas.{LacksTable-made, LacksTable-text, PutsTable-made, uncut_of, words_due}
use Rattle.observe.proofs.tabled.observe_named.Goals as goal

pub returns-in-Err : goal.returns-in-Err
returns-in-Err g c = inl (c.in-Err.field-0, words_due (map string_bytes c.args.words.now) c.in-Err.field-0 c.in-Err.ensures.exact, c.observe.ensures)

pub returns-then-turned : goal.returns-then-turned
returns-then-turned g c =
    let why : is_turned c.args.options c.args.out.now c.args.name.now (order_of c.in-Ok.command) ≡ true = sym c.is_turned-turned.ensures ∙ c.if-turned.true in
    inr (
      order_of c.in-Ok.command,
      c.in-Ok.ensures.exact,
      inl (
        why,
        record {
          is_status = c.refuse.ensures.status;
          shelf = refl;
          device = refl;
          terminal = refl;
          closes = c.refuse.ensures.closes;
        },
      ),
    )

pub rows_for-requires-clause-uncut : goal.rows_for-requires-clause-uncut
rows_for-requires-clause-uncut g c =
    uncut_of c.args.options c.args.out.now c.args.name.now (order_of c.in-Ok.command) (sym c.is_turned-turned.ensures ∙ c.if-turned.false)

pub rows_for-requires-clause-thynvm : goal.rows_for-requires-clause-thynvm
rows_for-requires-clause-thynvm g c = reads_by _ Thynvm (λ p ceiling image. refl) (λ p. refl)

pub rows_for-requires-clause-journal : goal.rows_for-requires-clause-journal
rows_for-requires-clause-journal g c = reads_by _ Journal (λ p ceiling image. refl) (λ p. refl)

pub rows_for-requires-clause-shadow : goal.rows_for-requires-clause-shadow
rows_for-requires-clause-shadow g c = reads_by _ Shadow (λ p ceiling image. refl) (λ p. refl)

pub returns-in-Err-rows_for : goal.returns-in-Err-rows_for
returns-in-Err-rows_for g c =
    let x = c.rows_for.new in
    inr (
      order_of c.in-Ok.command,
      c.in-Ok.ensures.exact,
      inr (
        sym c.is_turned-turned.ensures ∙ c.if-turned.false,
        inl (LacksTable-made _ (order_of c.in-Ok.command) c.cycles_of-window.result _ (g.H.Shelf.stock x.shelf) _ _ _ (g.R.Sink.stream x.report) c.in-Err-rows_for.status
            c.rows_for.result c.in-Err-rows_for.is c.rows_for.ensures),
      ),
    )

-- memory ran out for the text
pub returns-in_default : goal.returns-in_default
returns-in_default g c =
    let x = c.rows_for.new in
    let order = order_of c.in-Ok.command in
    inr (
      order,
      c.in-Ok.ensures.exact,
      inr (
        sym c.is_turned-turned.ensures ∙ c.if-turned.false,
        inl (LacksTable-text _ order c.cycles_of-window.result _ (g.H.Shelf.stock x.shelf) _ _ _ (g.R.Sink.stream x.report) _ 9 c.rows_for.result
            c.in-Ok-rows_for.rows c.in-Ok-rows_for.is c.rows_for.ensures
            (record { shelf = refl; is_status = refl; closes = (c.close.result, c.close.ensures) })),
      ),
    )

pub returns : goal.returns
returns g c =
    let x = c.rows_for.new in
    let y = c.observe-status.new in
    let order = order_of c.in-Ok.command in
    let rows = c.in-Ok-rows_for.rows in
    let put = g.H.Shelf.stock c.put_text-why.new.shelf in
    let text : string_bytes c.in-Some.table ≡ table_text rows.items = c.in-Some.ensures ∙ ap table_text c.as_slice.ensures.value in
    inr (
      order,
      c.in-Ok.ensures.exact,
      inr (
        sym c.is_turned-turned.ensures ∙ c.if-turned.false,
        inr (PutsTable-made _ (nvm_of g.N.Nvm.device) (counts_of g.N.Counts.calls g.N.Counts.wear) c.args.options c.args.out.now c.args.name.now
            (map string_bytes c.args.words.now) order c.cycles_of-window.result (g.H.Shelf.stock c.args.shelf.now) (g.H.Shelf.stock x.shelf) put
            (g.H.Shelf.stock y.shelf) c.args.nvm.now y.nvm (g.T.Sink.stream c.args.terminal.now) (g.T.Sink.stream y.terminal)
            (g.R.Sink.stream c.args.report.now) (g.R.Sink.stream x.report) (g.R.Sink.stream y.report) (g.R.Sink.stream c.write_report.new.report)
            c.rows_for.result rows c.put_text-why.result c.observe-status.result c.write_report.result
            c.cycles_of-window.ensures c.in-Ok-rows_for.is c.rows_for.ensures
            (subst (λ (text : List ℕ). IsPut c.args.name.now text (g.H.Shelf.stock x.shelf) put c.put_text-why.result)
            (c.as_str.ensures.value ∙ text) c.put_text-why.ensures)
            c.observe-status.ensures c.write_report.ensures),
      ),
    )
