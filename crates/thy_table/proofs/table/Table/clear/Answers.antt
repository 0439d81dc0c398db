use Rattle.std.proofs.Common.{◌≡◌, ◌<◌, ◌/◌, [], Some, None, true, List, length, get_or, sym, ◌∙◌, ap, subst, arith}
use Rattle.std.proofs.lemmas.List.{get_or_read}
use Rattle.thy_table.specs.Listing.{leads, passes, IsLastOf, AreLiveBelow}
use Rattle.thy_table.proofs.IndexLemmas.{IsSoundTable-cleared, group-here, leader-read, leads-here, leader-here}
use Rattle.thy_table.proofs.LiveLemmas.{AreLiveBelow-set, live-below}
use Rattle.thy_table.proofs.table.Table.clear.Goals as goal

pub index-requires-in-Some : goal.index-requires-in-Some
index-requires-in-Some g c =
    let es = c.self.inside.entries.items in
    let inside : c.args.i < length es = omega (arith, c.requires, ap (λ t. length t.entries) c.self.view_is) in
    let was : get_or es c.args.i None ≡ Some c.in-Some.entry =
    sym (get_or_read es c.args.i c.index.result.now inside c.index.ensures None) ∙ c.in-Some.is in
    omega (arith, ap (λ n. n / 16) c.key.ensures, group-here g.E.Keyed.key _ _ _ _ _ _ c.self.invariant.0 c.args.i c.in-Some.entry was)

pub index-requires-in-Some-2 : goal.index-requires-in-Some-2
index-requires-in-Some-2 g c =
    let key = g.E.Keyed.key in
    let es = c.self.inside.entries.items in
    let inside : c.args.i < length es = omega (arith, c.requires, ap (λ t. length t.entries) c.self.view_is) in
    let was : get_or es c.args.i None ≡ Some c.in-Some.entry =
    sym (get_or_read es c.args.i c.index.result.now inside c.index.ensures None) ∙ c.in-Some.is in
    omega (
      arith,
      leader-read key _ _ _ _ _ _ c.self.invariant.0 c.args.i c.in-Some.entry c.key.result c.index-in-Some.result.now was c.key.ensures
          c.index-in-Some.ensures,
      leader-here key _ _ _ _ _ _ c.self.invariant.0 c.args.i c.in-Some.entry was,
    )

pub leader_without-next-requires-clause-leads : goal.leader_without-next-requires-clause-leads
leader_without-next-requires-clause-leads g c =
    let key = g.E.Keyed.key in
    let es = c.self.inside.entries.items in
    let inside : c.args.i < length es = omega (arith, c.requires, ap (λ t. length t.entries) c.self.view_is) in
    let was : get_or es c.args.i None ≡ Some c.in-Some.entry =
    sym (get_or_read es c.args.i c.index.result.now inside c.index.ensures None) ∙ c.in-Some.is in
    ap (λ (xs : List _). leads key (c.key.result / 16) (get_or xs c.index-in-Some.result.now None)) c.deref.ensures.value
    ∙ ap (λ n. leads key (n / 16) (get_or es c.index-in-Some.result.now None)) c.key.ensures
    ∙ ap (λ n. leads key (key c.in-Some.entry / 16) (get_or es n None))
    (sym (leader-read key _ _ _ _ _ _ c.self.invariant.0 c.args.i c.in-Some.entry c.key.result c.index-in-Some.result.now was c.key.ensures c.index-in-Some.ensures))
    ∙ leads-here key _ _ _ _ _ _ c.self.invariant.0 c.args.i c.in-Some.entry was

pub index_mut-requires-in-Some : goal.index_mut-requires-in-Some
index_mut-requires-in-Some g c =
    let es = c.self.inside.entries.items in
    let inside : c.args.i < length es = omega (arith, c.requires, ap (λ t. length t.entries) c.self.view_is) in
    let was : get_or es c.args.i None ≡ Some c.in-Some.entry =
    sym (get_or_read es c.args.i c.index.result.now inside c.index.ensures None) ∙ c.in-Some.is in
    omega (arith, ap (λ n. n / 16) c.key.ensures, group-here g.E.Keyed.key _ _ _ _ _ _ c.self.invariant.0 c.args.i c.in-Some.entry was)

pub invariant_of-self : goal.invariant_of-self
invariant_of-self g c =
    let key = g.E.Keyed.key in
    let es = c.self.inside.entries.items in
    let leaders = c.self.inside.leaders.items in
    let places = c.self.inside.places.items in
    let e = c.in-Some.entry in
    let q = c.leader_without-next.result in
    let inside : c.args.i < length es = omega (arith, c.requires, ap (λ t. length t.entries) c.self.view_is) in
    let was : get_or es c.args.i None ≡ Some e = sym (get_or_read es c.args.i c.index.result.now inside c.index.ensures None) ∙ c.in-Some.is in
    let leader : get_or leaders (key e / 16) 0 ≡ c.index-in-Some.result.now
    = leader-read key _ _ _ _ _ _ c.self.invariant.0 c.args.i e c.key.result c.index-in-Some.result.now was c.key.ensures c.index-in-Some.ensures in
    let in_places : c.index-in-Some.result.now < length places =
    omega (arith, leader, leader-here key _ _ _ _ _ _ c.self.invariant.0 c.args.i e was) in
    let group : c.index-in-Some-2.result.now ≡ get_or places (get_or leaders (key e / 16) 0) []
    = get_or_read places c.index-in-Some.result.now c.index-in-Some-2.result.now in_places c.index-in-Some-2.ensures []
    ∙ ap (λ n. get_or places n []) (sym leader) in
    let leading : leads key (key e / 16) (get_or es q None) ≡ true
    = ap (λ n. leads key (n / 16) (get_or es q None)) (sym c.key.ensures)
    ∙ ap (λ (xs : List _). leads key (c.key.result / 16) (get_or xs q None)) (sym c.deref.ensures.value) ∙ c.leader_without-next.ensures.leads in
    let last : q ≡ c.args.i → IsLastOf key (key e / 16) es (get_or places (get_or leaders (key e / 16) 0) [])
    (get_or leaders (key e / 16) 0) c.args.i
    = λ s. subst (λ n. IsLastOf key (key e / 16) es (get_or places (get_or leaders (key e / 16) 0) []) n c.args.i) (sym leader)
    (subst (λ ps. IsLastOf key (key e / 16) es ps c.index-in-Some.result.now c.args.i) group
    (subst (λ n. IsLastOf key (n / 16) es c.index-in-Some-2.result.now c.index-in-Some.result.now c.args.i) c.key.ensures
    (subst (λ (xs : List _). IsLastOf key (c.key.result / 16) xs c.index-in-Some-2.result.now c.index-in-Some.result.now c.args.i) c.deref.ensures.value
    (c.leader_without-next.ensures.last s)))) in (
      rw (c.key.ensures, c.min-self-inside.ensures, group) (IsSoundTable-cleared key _ _ _ _ _ _ c.self.invariant.0 c.args.i e q was leading last),
      subst (λ (xs : List _). AreLiveBelow xs c.lowered_end-self-inside.result) c.deref-in-Some.ensures.value c.lowered_end-self-inside.ensures.live,
    )

-- each entry that is live now lies below where each did
pub lowered_end-self-inside-requires : goal.lowered_end-self-inside-requires
lowered_end-self-inside-requires g c =
    let es = c.self.inside.entries.items in
    let inside : c.args.i < length es = omega (arith, c.requires, ap (λ t. length t.entries) c.self.view_is) in
    let was : get_or es c.args.i None ≡ Some c.in-Some.entry =
    sym (get_or_read es c.args.i c.index.result.now inside c.index.ensures None) ∙ c.in-Some.is in
    subst (λ (xs : List _). AreLiveBelow xs c.self.inside.live_end) (sym c.deref-in-Some.ensures.value)
    (AreLiveBelow-set es c.self.inside.live_end c.args.i None c.self.invariant.1
    (live-below (λ _. true) es c.self.inside.live_end c.args.i c.self.invariant.1 (ap (passes (λ _. true)) was)))
