use Rattle.std.proofs.Common.{ℕ, List, ◌++◌, ap, ◌∙◌, string_bytes}
use Rattle.std.specs.Prelude.{codes}
use Rattle.std.specs.List.{flat_map}
use Rattle.thy_observe.specs.declared.causes.Cause.{Cause}
use Rattle.thy_observe.specs.Causes.{all_causes}
use Rattle.thy_observe.specs.Ledgers.{count_in}
use Rattle.observe.specs.CountText.{cause_name, count_row}
use Rattle.observe.proofs.TextLemmas.{three-parts-if}
use Rattle.observe.proofs.counts.add_causes.Goals as goal

pub returns : goal.returns
returns c =
    let rows : List Cause → List ℕ = λ cs. flat_map (λ x. count_row (cause_name x) (count_in c.args.ledger.now x)) cs in
    let first = string_bytes c.push_str.new.self in
    three-parts-if c.add_count.result (string_bytes c.args.text.now) first (string_bytes c.add_lines.new.text) (string_bytes c.add_count.new.text)
    (codes "causes\n") (rows all_causes) (count_row (codes "waiting") c.args.waiting)
    c.in_ok-push_str.ensures.bytes
    (c.in_ok-add_lines.ensures ∙ ap (λ (cs : List Cause). first ++ rows cs) c.all-causes.ensures)
    c.add_count.ensures
