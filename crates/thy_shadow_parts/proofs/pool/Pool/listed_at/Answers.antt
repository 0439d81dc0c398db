use Rattle.std.proofs.Common.{◌<◌, ◌≤◌, Bool, if◌then◌else◌, None, sym, ◌∙◌, ap, arith}
use Rattle.std.proofs.lemmas.Bool.{le-ltb}
use Rattle.thy_block.specs.declared.parameters.Parameters.{Parameters}
use Rattle.thy_shadow_parts.specs.State.{State, next_page}
use Rattle.thy_shadow_parts.proofs.TableLemmas.{listed_at-table_by, entry_page}
use Rattle.thy_shadow_parts.proofs.pool.Pool.listed_at.Goals as goal

pub returns-then-x-numbers : goal.returns-then-x-numbers
returns-then-x-numbers c =
    let s : State = c.args.self.now in
    let low : c.args.x < s.p.pages
    = omega (
      arith,
      c.if-x-numbers.true,
      ap (λ (p : Parameters). p.pages) c.numbers.ensures.same,
      ap (λ (t : State). t.p.pages) c.self.view_is,
    ) in
    c.next_page.ensures ∙ sym (listed_at-table_by s.p (next_page s) c.args.x c.requires ∙ entry_page s.p (next_page s) c.args.x low)

pub returns-else-x-numbers : goal.returns-else-x-numbers
returns-else-x-numbers c =
    let s : State = c.args.self.now in
    let past : s.p.pages ≤ c.args.x
    = omega (
      arith,
      c.if-x-numbers.false,
      ap (λ (p : Parameters). p.pages) c.numbers.ensures.same,
      ap (λ (t : State). t.p.pages) c.self.view_is,
    ) in
    sym (listed_at-table_by s.p (next_page s) c.args.x c.requires
    ∙ ap (λ (b : Bool). if b then next_page s c.args.x else None) (le-ltb c.args.x s.p.pages past))
