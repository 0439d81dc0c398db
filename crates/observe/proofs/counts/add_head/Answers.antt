use Rattle.std.proofs.Common.{ℕ, List, ◌++◌, ap, ◌∙◌, string_bytes}
use Rattle.std.specs.Prelude.{codes}
use Rattle.std.specs.List.{flat_map}
use Rattle.thy_observe.specs.declared.causes.Cause.{Cause}
use Rattle.thy_observe.specs.Causes.{all_causes}
use Rattle.observe.specs.CountText.{cause_name, tab}
use Rattle.observe.proofs.CountLemmas.{pushed-if}
use Rattle.observe.proofs.TextLemmas.{three-parts-if}
use Rattle.observe.proofs.counts.add_head.Goals as goal

pub returns : goal.returns
returns c =
    let names : List Cause → List ℕ = λ cs. flat_map (λ x. tab ++ cause_name x) cs in
    let old = string_bytes c.args.text.now in
    let first = string_bytes c.push_str.new.self in
    let second = string_bytes c.add_names.new.text in
    let last = string_bytes c.push_str-2.new.self in
    three-parts-if c.push_str-2.result old first second last (codes "epochs\nepoch\tfrom\tto\tend") (names all_causes) (codes "\twaiting\n")
    c.in_ok-push_str.ensures.bytes
    (c.in_ok-add_names.ensures ∙ ap (λ (cs : List Cause). first ++ names cs) c.all-causes.ensures)
    (pushed-if c.push_str-2.result second last (codes "\twaiting\n") c.push_str-2.ensures.bytes)
