use Rattle.std.proofs.Common.{◌≡◌, ◌==◌, ◌++◌, ℕ, false, List, [], ◌∷◌, length, OnOk, refl, sym, ◌∙◌, subst}
use Rattle.std.specs.List.{flat_map}
use Rattle.std.specs.String.{string_bytes}
use Rattle.thy_observe.specs.declared.accesses.Accessed.{Accessed}
use Rattle.observe.specs.AccessText.{access_head, access_row, access_rows}
use Rattle.observe.proofs.TextLemmas.{two-parts-if}
use Rattle.observe.proofs.accesses.add_table.Goals as goal

-- if there are rows, each has its own
rows_each : (rows : List Accessed) → (length rows == 0) ≡ false → access_rows rows ≡ flat_map access_row rows
rows_each [] is = absurd (cc)
rows_each (a ∷ rows) is = refl

pub returns-else-is_empty : goal.returns-else-is_empty
returns-else-is_empty c =
    let middle = string_bytes c.push_str.new.self in
    let last = string_bytes c.add_accesses.new.table in
    two-parts-if c.add_accesses.result (string_bytes c.args.table.now) middle last access_head (access_rows c.args.rows.now) c.in_ok-push_str.ensures.bytes
    (subst (λ (text : List ℕ). OnOk c.add_accesses.result (last ≡ middle ++ text))
    (sym (rows_each c.args.rows.now (sym c.is_empty.ensures ∙ c.if-is_empty.false))) c.add_accesses.ensures)
