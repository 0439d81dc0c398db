use Rattle.std.proofs.Common.{ℕ, List, ◌++◌, ap, ◌∙◌, sym, string_bytes, append_assoc, append-nil}
use Rattle.std.specs.List.{flat_map}
use Rattle.std.specs.Map.Iter.{deref_pair}
use Rattle.std.proofs.lemmas.Map.Iter.{rest_all, rest_more}
use Rattle.observe.specs.Sections.{pcs_row}
use Rattle.observe.proofs.sections.add_rows.Goals as goal

pub loop-pc-preserved : goal.loop-pc-preserved
loop-pc-preserved c =
    let rest = rest_more deref_pair c.loop-pc.pc-iterator c.next.new.self c.next.result (c.in-Some.pc, c.in-Some.count) c.in-Some.is c.next.ensures.steps in
    let text = string_bytes c.loop-pc.text in
    let left = c.next.new.self in
    ap (λ (t : List ℕ). t ++ flat_map pcs_row left) c.in_ok-add_row.ensures
    ∙ append_assoc text (pcs_row (c.in-Some.pc.now, c.in-Some.count.now)) (flat_map pcs_row left)
    ∙ ap (λ (l : List (ℕ × ℕ)). text ++ flat_map pcs_row l) (sym rest)
    ∙ c.loop-pc.invariant

pub returns : goal.returns
returns c =
    let none = rest_all deref_pair c.loop-pc.pc-iterator c.next.new.self c.next.result c.in-None.is c.next.ensures.steps in
    sym (append-nil (string_bytes c.loop-pc.text)) ∙ ap (λ (l : List (ℕ × ℕ)). string_bytes c.loop-pc.text ++ flat_map pcs_row l) (sym none) ∙ c.loop-pc.invariant
