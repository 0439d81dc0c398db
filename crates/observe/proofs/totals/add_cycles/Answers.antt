use Rattle.std.proofs.Common.{◌≡◌, ℕ, ap₂, ◌∙◌, append_assoc, string_bytes}
use Rattle.observe.specs.TotalsText.{cycles_by, cycles_line}
use Rattle.observe.proofs.HeadLemmas.{line-if}
use Rattle.observe.proofs.totals.add_cycles.Goals as goal

pub returns : goal.returns
returns c =
    let t = c.args.totals.now in
    let line : string_bytes c.in_ok-line.line ≡ cycles_by c.all_of_hart.result c.all_of_engine.result t
    = c.in_ok-line.ensures.ok ∙ simp append_assoc in
    line-if c.push_str.result (string_bytes c.args.text.now) (string_bytes c.push_str.new.self) c.as_str.result.now (cycles_line t)
    c.push_str.ensures.bytes
    (c.as_str.ensures.value ∙ (line ∙ ap₂ (λ (hart engine : ℕ). cycles_by hart engine t) c.all_of_hart.ensures c.all_of_engine.ensures))
