use Rattle.std.proofs.Common.{Bool, ◌++◌, sym, ◌∙◌, ap, append-nil, string_bytes}
use Rattle.observe.specs.CountText.{wear_part}
use Rattle.observe.proofs.wear.with_wear.Goals as goal

pub returns-then-not-asked : goal.returns-then-not-asked
returns-then-not-asked c =
    sym (append-nil (string_bytes c.args.text))
    ∙ ap (λ (b : Bool). string_bytes c.args.text ++ wear_part b c.args.wear.now) (sym c.if-not-asked.true)

pub returns-in-Ok : goal.returns-in-Ok
returns-in-Ok c =
    c.in-Ok.ensures ∙ ap (λ (b : Bool). string_bytes c.args.text ++ wear_part b c.args.wear.now) (sym c.if-not-asked.false)
