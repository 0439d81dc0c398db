use Rattle.std.proofs.Common.{List, ℕ, ap, ◌∙◌, ◌++◌, subst, string_bytes}
use Rattle.thy_text.specs.Event.{Event}
use Rattle.thy_observe.specs.declared.counting.Calls.{Calls}
use Rattle.observe.specs.CountText.{wear_part}
use Rattle.observe.specs.HeadText.{IsHead}
use Rattle.observe.proofs.CountLemmas.{whole-of}
use Rattle.observe.proofs.SectionLemmas.{some-weaker}
use Rattle.observe.proofs.whole.whole_text.Goals as goal

pub returns : goal.returns
returns g c =
    let o = c.args.options in
    let w = c.args.watch.now in
    let head = string_bytes c.in-Ok.head in
    let next = string_bytes c.in_ok-counted.counted in
    let calls = g.C.Counts.calls c.args.nvm.now in
    let begins : IsHead c.args.asked w.tally calls c.args.answer.now.events.last head =
    subst (λ (es : List Event). IsHead c.args.asked w.tally calls es head) c.last-events.ensures
    (subst (λ (n : Calls). IsHead c.args.asked w.tally n c.last-events.result.now head) c.calls-calls.ensures c.in-Ok.ensures) in
    some-weaker c.with_wear.result _ _ (λ whole h.
    whole-of c.args.asked c.args.answer.now.events.last o c.args.begun w calls (g.C.Counts.wear c.args.nvm.now) head (string_bytes c.in_ok-text.text) next
    (string_bytes whole) begins c.in_ok-text.ensures c.in_ok-counted.ensures (h ∙ ap (λ (w : List ℕ). next ++ wear_part o.wear w) c.wear.ensures))
    c.with_wear.ensures
