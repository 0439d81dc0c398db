use Rattle.std.proofs.Common.{◌≡◌, ◌∙◌, append_assoc, string_bytes}
use Rattle.observe.specs.TotalsText.{engine_line}
use Rattle.observe.proofs.HeadLemmas.{line-if}
use Rattle.observe.proofs.totals.add_engine.Goals as goal

pub returns : goal.returns
returns c =
    let line : string_bytes c.in_ok-line.line ≡ engine_line c.args.engine.now = simp append_assoc at c.in_ok-line.ensures.ok in
    line-if c.push_str.result (string_bytes c.args.text.now) (string_bytes c.push_str.new.self) c.as_str.result.now (engine_line c.args.engine.now)
    c.push_str.ensures.bytes (c.as_str.ensures.value ∙ line)
