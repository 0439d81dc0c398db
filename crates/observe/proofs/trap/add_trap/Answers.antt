use Rattle.std.proofs.Common.{◌≡◌, Option, ◌++◌, OnOk, sym, subst, string_bytes}
use Rattle.std.specs.Prelude.{codes}
use Rattle.thy_observe.specs.declared.trap.Trap.{Trap}
use Rattle.observe.specs.HeadText.{hart_part, hex_part, pc_part, trap_text}
use Rattle.observe.proofs.CountLemmas.{pushed-if}
use Rattle.observe.proofs.TextLemmas.{five-parts-if}
use Rattle.observe.proofs.trap.add_trap.Goals as goal

pub returns : goal.returns
returns c =
    let t = c.in-Some.trap in
    let old = string_bytes c.args.text.now in
    let fourth = string_bytes c.add_hart.new.text in
    let last = string_bytes c.push_str.new.self in
    subst (λ (o : Option Trap). OnOk c.push_str.result (last ≡ old ++ trap_text c.args.harts o)) (sym c.in-Some.is)
    (five-parts-if c.push_str.result old (string_bytes c.add_pc.new.text) (string_bytes c.add_word.new.text) (string_bytes c.add_address.new.text) fourth last
    (pc_part t.pc) (hex_part t.word) (hex_part t.address) (hart_part c.args.harts t.hart) (codes "\n")
    c.in_ok-add_pc.ensures c.in_ok-add_word.ensures c.in_ok-add_address.ensures c.in_ok-add_hart.ensures
    (pushed-if c.push_str.result fourth last (codes "\n") c.push_str.ensures.bytes))
