use Rattle.std.proofs.Common.{◌≡◌, true, false, List, Some, None, get_or, sym, ◌∙◌, ap}
use Rattle.thy_table.specs.Listing.{lists, index_of, indexed_at}
use Rattle.thy_table.proofs.IndexLemmas.{position-indexed, position-unindexed}
use Rattle.thy_table.proofs.table.Table.find.Goals as goal

pub returns-then-lists-clause-place : goal.returns-then-lists-clause-place
returns-then-lists-clause-place g c =
    let key = g.E.Keyed.key in
    let n = c.args.number in
    let es = c.self.inside.entries.items in
    let at : c.indexed-place.result ≡ indexed_at c.self.inside.leaders.items c.self.inside.places.items n
    = c.indexed-place.ensures ∙ ap (λ leaders. indexed_at leaders c.deref-2.result.now n) c.deref.ensures.value
    ∙ ap (λ places. indexed_at c.self.inside.leaders.items places n) c.deref-2.ensures.value in
    let here : lists key n (get_or es c.indexed-place.result None) ≡ true
    = ap (λ (xs : List _). lists key n (get_or xs c.indexed-place.result None)) (sym c.deref-3.ensures.value) ∙ sym c.lists.ensures
    ∙ c.if-lists.true in
    ap Some at ∙ sym (position-indexed key _ _ _ _ _ _ c.self.invariant.0 n (ap (λ i. lists key n (get_or es i None)) (sym at) ∙ here))
    ∙ ap (index_of key n) c.self.view_is

pub returns-else-lists-clause-place : goal.returns-else-lists-clause-place
returns-else-lists-clause-place g c =
    let key = g.E.Keyed.key in
    let n = c.args.number in
    let es = c.self.inside.entries.items in
    let at : c.indexed-place.result ≡ indexed_at c.self.inside.leaders.items c.self.inside.places.items n
    = c.indexed-place.ensures ∙ ap (λ leaders. indexed_at leaders c.deref-2.result.now n) c.deref.ensures.value
    ∙ ap (λ places. indexed_at c.self.inside.leaders.items places n) c.deref-2.ensures.value in
    let here : lists key n (get_or es c.indexed-place.result None) ≡ false
    = ap (λ (xs : List _). lists key n (get_or xs c.indexed-place.result None)) (sym c.deref-3.ensures.value) ∙ sym c.lists.ensures
    ∙ c.if-lists.false in
    sym (position-unindexed key _ _ _ _ _ _ c.self.invariant.0 n (ap (λ i. lists key n (get_or es i None)) (sym at) ∙ here))
    ∙ ap (index_of key n) c.self.view_is
