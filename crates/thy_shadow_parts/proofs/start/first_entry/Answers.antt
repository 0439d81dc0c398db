use Rattle.std.proofs.Common.{Some, None, if◌then◌else◌, sym, ap, ◌∙◌, arith}
use Rattle.std.proofs.lemmas.Bool.{le-ltb}
use Rattle.thy_block.specs.declared.parameters.Parameters.{Parameters}
use Rattle.thy_shadow_parts.proofs.TableLemmas.{listed_at-table_by, entry_page}
use Rattle.thy_shadow_parts.proofs.start.first_entry.Goals as goal

pub returns-then-x-pages : goal.returns-then-x-pages
returns-then-x-pages c =
    let p : Parameters = c.args.geometry.now in
    let same = ap (λ (q : Parameters). q.pages) c.numbers-pages.ensures.same in
    sym (listed_at-table_by p (λ x. Some x) c.args.x c.requires
    ∙ entry_page p (λ x. Some x) c.args.x (omega (arith, same, c.if-x-pages.true)))

pub returns-else-x-pages : goal.returns-else-x-pages
returns-else-x-pages c =
    let p : Parameters = c.args.geometry.now in
    let same = ap (λ (q : Parameters). q.pages) c.numbers-pages.ensures.same in
    sym (listed_at-table_by p (λ x. Some x) c.args.x c.requires
    ∙ ap (λ b. if b then Some c.args.x else None) (le-ltb c.args.x p.pages (omega (arith, same, c.if-x-pages.false))))
