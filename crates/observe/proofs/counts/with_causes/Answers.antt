use Rattle.std.proofs.Common.{Bool, refl, sym, subst, string_bytes}
use Rattle.observe.specs.CountText.{AreOf, causes_part}
use Rattle.observe.specs.Sections.{GoesOn}
use Rattle.observe.proofs.CountLemmas.{causes-asked, nothing-asked}
use Rattle.observe.proofs.counts.with_causes.Goals as goal

pub returns-then-not-asked : goal.returns-then-not-asked
returns-then-not-asked c =
    nothing-asked causes_part c.args.watch.now (string_bytes c.args.text) (λ seen. refl) c.args.asked c.if-not-asked.true

pub returns-in-Ok : goal.returns-in-Ok
returns-in-Ok c =
    subst (λ (asked : Bool). GoesOn (AreOf (causes_part asked) c.args.watch.now) (string_bytes c.args.text) (string_bytes c.add_causes.new.text))
    (sym c.if-not-asked.false)
    (causes-asked c.args.watch.now c.waiting-waiting.result (string_bytes c.args.text) (string_bytes c.add_causes.new.text)
    c.waiting-waiting.ensures c.in-Ok.ensures)
