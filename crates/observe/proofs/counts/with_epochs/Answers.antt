use Rattle.std.proofs.Common.{Bool, refl, sym, subst, string_bytes}
use Rattle.observe.specs.CountText.{AreOf, epochs_part}
use Rattle.observe.specs.Sections.{GoesOn}
use Rattle.observe.proofs.CountLemmas.{epochs-asked, nothing-asked}
use Rattle.observe.proofs.counts.with_epochs.Goals as goal

pub returns-then-not-asked : goal.returns-then-not-asked
returns-then-not-asked c =
    nothing-asked epochs_part c.args.watch.now (string_bytes c.args.text) (λ seen. refl) c.args.asked c.if-not-asked.true

pub returns-in-Ok : goal.returns-in-Ok
returns-in-Ok c =
    subst (λ (asked : Bool). GoesOn (AreOf (epochs_part asked) c.args.watch.now) (string_bytes c.args.text) (string_bytes c.add_epochs.new.text))
    (sym c.if-not-asked.false)
    (epochs-asked c.args.watch.now c.in_ok-rows.rows.now c.last-last.result (string_bytes c.args.text) (string_bytes c.add_epochs.new.text)
    c.in_ok-rows.ensures.rows c.last-last.ensures c.in-Ok.ensures)
