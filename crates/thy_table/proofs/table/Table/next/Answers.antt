use Rattle.std.proofs.Common.{◌≡◌, ◌<◌, Some, None, true, false, length, get_or, sym, ◌∙◌, ap, inl, inr, arith}
use Rattle.std.proofs.lemmas.Bool.{cases_lt}
use Rattle.std.proofs.lemmas.List.{get_or_read}
use Rattle.thy_table.specs.Listing.{passes, next_from}
use Rattle.thy_table.proofs.FirstLemmas.{first_from-is, first_from-none}
use Rattle.thy_table.proofs.table.Table.next.Goals as goal

pub returns-in-loop-i-clause-place : goal.returns-in-loop-i-clause-place
returns-in-loop-i-clause-place g c =
    let test = g.T.Test.holds c.args.test.now in
    let es = c.self.inside.entries.items in
    let inside : c.loop-i.i < length es = omega (arith, c.self.invariant.1.within) in
    let was : get_or es c.loop-i.i None ≡ Some c.in-Some.entry =
    sym (get_or_read es c.loop-i.i c.index.result.now inside c.index.ensures None) ∙ c.in-Some.is in
    let holds : test c.in-Some.entry ≡ true = sym c.test.ensures ∙ c.if-test.true in
    sym (first_from-is (passes test) None es c.args.from c.loop-i.i (omega arith) inside (ap (passes test) was ∙ holds) c.loop-i.invariant)
    ∙ ap (next_from test c.args.from) c.self.view_is

pub returns-clause-place : goal.returns-clause-place
returns-clause-place g c =
    let test = g.T.Test.holds c.args.test.now in
    let es = c.self.inside.entries.items in
    sym (first_from-none (passes test) None es c.args.from (λ k above below.
    elim (cases_lt k c.self.inside.live_end) as (λ _. passes test (get_or es k None) ≡ false) [
      | inl l ↦ c.loop-i.invariant k above (omega (arith, l, c.loop-i-test.false))
      | inr past ↦ ap (passes test) (c.self.invariant.1.free k past)
    ]))
    ∙ ap (next_from test c.args.from) c.self.view_is

pub index-requires : goal.index-requires
index-requires g c = omega (arith, c.self.invariant.1.within)

pub returns-in-loop-i-clause-inside : goal.returns-in-loop-i-clause-inside
returns-in-loop-i-clause-inside g c = omega (arith, c.self.invariant.1.within, ap (λ t. length t.entries) c.self.view_is)
