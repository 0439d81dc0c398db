use Rattle.std.proofs.Common.{Option, ℕ, ◌++◌, ◌∙◌, ap, string_bytes}
use Rattle.thy_text.specs.Lines.{line_of}
use Rattle.thy_text.specs.Seen.{event_of}
use Rattle.observe.specs.EventText.{lost_by, stamp_cells}
use Rattle.observe.proofs.TextLemmas.{two-parts}
use Rattle.observe.proofs.lines.add_event.Goals as goal

pub returns-clause-text : goal.returns-clause-text
returns-clause-text c =
    let old = string_bytes c.args.text.now in
    let line = line_of c.args.reporting (event_of c.args.event.now) in
    two-parts old (string_bytes c.add_stamp.new.text) (string_bytes c.add_report.new.text) (stamp_cells c.args.stamp.cycle c.count_in-count.result) line
    c.in_ok-add_stamp.ensures c.in_ok-add_report.ensures
    ∙ ap (λ (n : Option ℕ). old ++ (stamp_cells c.args.stamp.cycle n ++ line)) c.count_in-count.ensures

pub returns-clause-losses : goal.returns-clause-losses
returns-clause-losses c =
    c.after-left.ensures ∙ ap (λ (n : Option ℕ). lost_by c.args.losses.now (event_of c.args.event.now) n) c.count_in-count.ensures
