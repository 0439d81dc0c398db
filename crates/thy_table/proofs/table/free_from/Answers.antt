use Rattle.std.proofs.Common.{◌≡◌, get_or, not, true, ap, None, is_none, sym, ◌∙◌, arith}
use Rattle.std.proofs.lemmas.List.{get_or_read}
use Rattle.thy_table.proofs.FirstLemmas.{first_from-is, first_from-none}
use Rattle.thy_table.proofs.table.free_from.Goals as goal

pub returns-then-is_none : goal.returns-then-is_none
returns-then-is_none g c =
    let es = c.args.entries.now in
    let none : is_none (get_or es c.loop-i.i None) ≡ true
    = ap is_none (sym (get_or_read es c.loop-i.i c.index-entries-i.result c.loop-i-test.true c.index-entries-i.is None))
    ∙ ap not c.if-is_none.ensures in
    sym (first_from-is is_none None es c.args.from c.loop-i.i c.loop-i.auto.i c.loop-i-test.true none c.loop-i.invariant)

pub returns : goal.returns
returns g c = sym (first_from-none is_none None c.args.entries.now c.args.from (λ k above below. c.loop-i.invariant k above (omega arith)))
