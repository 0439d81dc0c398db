use Rattle.std.proofs.Common.{◌≡◌, ◌+◌, ◌*◌, ℕ, None, false, get_or, subst, sym, ◌∙◌, ap, inl, inr, arith, is_some}
use Rattle.std.proofs.lemmas.Bool.{cases_eq}
use Rattle.thy_block.specs.declared.parameters.Parameters.{Parameters}
use Rattle.thy_block.specs.Places.{record_blocks}
use Rattle.thy_layout.specs.Files.{blocks_of}
use Rattle.thy_record.specs.Slots.{tables_in}
use Rattle.thy_layout.proofs.SlotLemmas.{length-entries_in}
use Rattle.thy_table.proofs.FirstLemmas.{first_from-is, first_from-none}
use Rattle.thy_thynvm_parts.proofs.listing.next_listed.Goals as goal

pub returns-then-is_some : goal.returns-then-is_some
returns-then-is_some c =
    let p : Parameters = c.args.geometry.now in
    let ptt = (tables_in p (blocks_of c.args.slot.now)).ptt in
    let size = length-entries_in (blocks_of c.args.slot.now) (8 * record_blocks p + p.btt) p.ptt in
    let pages = ap (λ (q : Parameters). q.ptt) c.numbers-pages.ensures.same in
    sym (first_from-is is_some None ptt c.args.from c.loop-j.j (omega arith) (omega (arith, size, pages))
    (ap is_some (sym c.listed_page.ensures) ∙ sym c.is_some.ensures ∙ c.if-is_some.true) c.loop-j.invariant)

pub loop-j-preserved : goal.loop-j-preserved
loop-j-preserved c k above below =
    let p : Parameters = c.args.geometry.now in
    let ptt = (tables_in p (blocks_of c.args.slot.now)).ptt in
    elim (cases_eq k c.loop-j.j) as (λ _. is_some (get_or ptt k None) ≡ false) [
      | inl e ↦ subst (λ (m : ℕ). is_some (get_or ptt m None) ≡ false) (sym e)
          (ap is_some (sym c.listed_page.ensures) ∙ sym c.is_some.ensures ∙ c.if-is_some.false)
      | inr ne ↦ c.loop-j.invariant k above (omega arith)
    ]

pub returns : goal.returns
returns c =
    let p : Parameters = c.args.geometry.now in
    let ptt = (tables_in p (blocks_of c.args.slot.now)).ptt in
    let size = length-entries_in (blocks_of c.args.slot.now) (8 * record_blocks p + p.btt) p.ptt in
    let pages = ap (λ (q : Parameters). q.ptt) c.numbers-pages.ensures.same in
    sym (first_from-none is_some None ptt c.args.from (λ k above below. c.loop-j.invariant k above (omega (arith, below, size, pages))))
