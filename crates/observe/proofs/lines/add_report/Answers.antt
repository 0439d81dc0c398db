use Rattle.std.proofs.Common.{◌∙◌, ap, string_bytes}
use Rattle.thy_text.specs.Lines.{line_of}
use Rattle.thy_text.specs.Seen.{event_of}
use Rattle.thy_out.specs.Tape.{Tape}
use Rattle.observe.proofs.EventLemmas.{took-if}
use Rattle.observe.proofs.lines.add_report.Goals as goal

pub returns : goal.returns
returns c =
    took-if (λ t. t) c.push_str.result (string_bytes c.args.text.now) (string_bytes c.push_str.new.self) c.in-Ok-from_utf8.line.now
    c.in_ok-sink.sink.taken c.write_event.new.report.taken (line_of c.args.reporting (event_of c.args.event.now)) c.push_str.ensures.bytes
    (c.in-Ok-from_utf8.ensures.cases.0 ∙ c.taken.ensures) (ap (λ (t : Tape). t.taken) c.in_ok-sink.ensures) c.in-Ok.ensures.wrote.whole.taken
