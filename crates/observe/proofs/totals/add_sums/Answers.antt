use Rattle.std.proofs.Common.{drop, ◌∙◌, ap, string_bytes}
use Rattle.thy_text.specs.Summary.{summary_of}
use Rattle.thy_out.specs.Tape.{Tape}
use Rattle.observe.proofs.EventLemmas.{took-if}
use Rattle.observe.proofs.totals.add_sums.Goals as goal

pub returns : goal.returns
returns c =
    took-if (drop 8) c.push_str.result (string_bytes c.args.text.now) (string_bytes c.push_str.new.self) c.in-Ok-from_utf8.line.now
    c.in_ok-sink.sink.taken c.write_summary.new.report.taken (summary_of c.args.events.now) c.push_str.ensures.bytes
    (c.in-Ok-from_utf8.ensures.cases.0 ∙ (c.in-Some.ensures.cases.1 ∙ ap (drop 8) c.taken.ensures)) (ap (λ (t : Tape). t.taken) c.in_ok-sink.ensures)
    c.in-Ok.ensures.whole.taken
