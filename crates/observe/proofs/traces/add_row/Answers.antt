use Rattle.std.proofs.Common.{string_bytes}
use Rattle.std.specs.Prelude.{codes}
use Rattle.observe.specs.TraceText.{access_text, head_text, word_text}
use Rattle.observe.proofs.CountLemmas.{pushed-if}
use Rattle.observe.proofs.TextLemmas.{four-parts-if}
use Rattle.observe.proofs.traces.add_row.Goals as goal

pub returns : goal.returns
returns c =
    let row = c.args.row.now in
    let third = string_bytes c.add_access.new.text in
    let last = string_bytes c.push_str.new.self in
    four-parts-if c.push_str.result (string_bytes c.args.text.now) (string_bytes c.add_head.new.text) (string_bytes c.add_word.new.text) third last
    (head_text row) (word_text row.word) (access_text row.access) (codes "\n")
    c.in_ok-add_head.ensures c.in_ok-add_word.ensures c.in_ok-add_access.ensures
    (pushed-if c.push_str.result third last (codes "\n") c.push_str.ensures.bytes)
