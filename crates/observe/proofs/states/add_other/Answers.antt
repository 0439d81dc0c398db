use Rattle.std.proofs.Common.{◌≡◌, ◌++◌, Option, OnOk, sym, subst, string_bytes}
use Rattle.thy_isa.specs.declared.state.OtherHart.{OtherHart}
use Rattle.observe.specs.StateText.{hart_text, other_text, reserved_text}
use Rattle.observe.proofs.TextLemmas.{three-parts-if}
use Rattle.observe.proofs.states.add_other.Goals as goal

pub returns : goal.returns
returns c =
    let o = c.in-Some.other in
    let old = string_bytes c.args.text.now in
    let new = string_bytes c.add_reserved-2.new.text in
    subst (λ (other : Option OtherHart). OnOk c.add_reserved-2.result (new ≡ old ++ other_text other)) (sym c.in-Some.is)
    (three-parts-if c.add_reserved-2.result old (string_bytes c.add_reserved.new.text) (string_bytes c.add_hart.new.text) new
    (reserved_text o.front) (hart_text 1 o.pc o.regs) (reserved_text o.back)
    c.in_ok-add_reserved.ensures c.in_ok-add_hart.ensures c.add_reserved-2.ensures)
