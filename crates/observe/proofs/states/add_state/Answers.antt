use Rattle.std.proofs.Common.{◌≡◌, ℕ, List, ◌++◌, OnOk, subst, string_bytes}
use Rattle.thy_isa.specs.Step.{state_of}
use Rattle.observe.specs.StateText.{hart_text, memory_text, numbers_text, other_text, status_text}
use Rattle.observe.proofs.TextLemmas.{five-parts-if}
use Rattle.observe.proofs.states.add_state.Goals as goal

pub returns : goal.returns
returns c =
    let s = state_of c.args.state.now in
    let last = string_bytes c.add_other.new.text in
    let new = string_bytes c.add_memory.new.text in
    five-parts-if c.add_memory.result (string_bytes c.args.text.now) (string_bytes c.add_status.new.text) (string_bytes c.add_numbers.new.text)
    (string_bytes c.add_hart.new.text) last new (status_text s.status) (numbers_text s) (hart_text 0 s.pc s.regs) (other_text s.other) (memory_text c.args.base s.memory)
    c.in_ok-add_status.ensures c.in_ok-add_numbers.ensures c.in_ok-add_hart.ensures c.in_ok-add_other.ensures
    (subst (λ (memory : List ℕ). OnOk c.add_memory.result (new ≡ last ++ memory_text c.args.base memory)) c.as_slice.ensures c.add_memory.ensures)
