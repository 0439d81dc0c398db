use Rattle.std.proofs.Common.{◌≡◌, ℕ, None, false, get_or, subst, sym, ◌∙◌, ap, inl, inr, arith, is_some}
use Rattle.std.proofs.lemmas.Bool.{cases_eq}
use Rattle.thy_block.specs.declared.parameters.Parameters.{Parameters}
use Rattle.thy_layout.specs.Files.{blocks_of}
use Rattle.thy_images.specs.JournalSlots.{table_in}
use Rattle.thy_table.proofs.FirstLemmas.{first_from-is, first_from-none}
use Rattle.thy_journal_parts.proofs.FillLemmas.{length-table_in}
use Rattle.thy_journal_parts.proofs.slot.next_listed.Goals as goal

pub returns-then-is_some : goal.returns-then-is_some
returns-then-is_some c =
    let p : Parameters = c.args.geometry.now in
    let table = table_in p (blocks_of c.args.slot.now) in
    let size = length-table_in p (blocks_of c.args.slot.now) in
    let entries = ap (λ (q : Parameters). q.btt) c.numbers-entries.ensures.same in
    sym (first_from-is is_some None table c.args.from c.loop-i.i (omega arith) (omega (arith, size, entries))
    (ap is_some (sym c.listed_block.ensures) ∙ sym c.is_some.ensures ∙ c.if-is_some.true) c.loop-i.invariant)

pub loop-i-preserved : goal.loop-i-preserved
loop-i-preserved c k above below =
    let p : Parameters = c.args.geometry.now in
    let table = table_in p (blocks_of c.args.slot.now) in
    elim (cases_eq k c.loop-i.i) as (λ _. is_some (get_or table k None) ≡ false) [
      | inl e ↦ subst (λ (m : ℕ). is_some (get_or table m None) ≡ false) (sym e)
          (ap is_some (sym c.listed_block.ensures) ∙ sym c.is_some.ensures ∙ c.if-is_some.false)
      | inr ne ↦ c.loop-i.invariant k above (omega arith)
    ]

pub returns : goal.returns
returns c =
    let p : Parameters = c.args.geometry.now in
    let table = table_in p (blocks_of c.args.slot.now) in
    let size = length-table_in p (blocks_of c.args.slot.now) in
    let entries = ap (λ (q : Parameters). q.btt) c.numbers-entries.ensures.same in
    sym (first_from-none is_some None table c.args.from (λ k above below. c.loop-i.invariant k above (omega (arith, below, size, entries))))
