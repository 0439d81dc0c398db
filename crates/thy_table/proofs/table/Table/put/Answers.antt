use Rattle.std.proofs.Common.{◌≡◌, ◌<◌, ◌/◌, [], Some, None, if◌then◌else◌, List, length, get_or, position, ◌∙◌, ap, arith}
use Rattle.std.proofs.lemmas.List.{get_or_read}
use Rattle.thy_table.specs.Listing.{index_of, lists, leads, entry_at}
use Rattle.thy_table.proofs.IndexLemmas.{IsSoundTable-put, some-free, group-inside, leader_with-inside}
use Rattle.thy_table.proofs.LiveLemmas.{AreLiveBelow-put}
use Rattle.thy_table.proofs.table.Table.put.Goals as goal

pub overflow_sub-self : goal.overflow_sub-self
overflow_sub-self g c =
    let inside : c.args.place < length c.self.inside.entries.items = omega (arith, c.requires.inside, ap (λ t. length t.entries) c.self.view_is) in
    some-free g.E.Keyed.key _ _ _ _ _ _ c.self.invariant.0 c.args.place inside (ap (λ t. entry_at t c.args.place) c.self.view_is ∙ c.requires.free)

pub invariant_of-self : goal.invariant_of-self
invariant_of-self g c =
    let key = g.E.Keyed.key in
    let es = c.self.inside.entries.items in
    let leaders = c.self.inside.leaders.items in
    let places = c.self.inside.places.items in
    let q = c.leader_with-leader.result in
    let m = key c.args.entry / 16 in
    let inside : c.args.place < length es = omega (arith, c.requires.inside, ap (λ t. length t.entries) c.self.view_is) in
    let room : key c.args.entry < c.self.inside.numbers = omega (arith, c.requires.number, ap (λ t. t.numbers) c.self.view_is) in
    let unlisted : position (lists key (key c.args.entry)) es ≡ None = ap (index_of key (key c.args.entry)) c.self.view_is ∙ c.requires.unlisted in
    let old : c.index.result.now ≡ get_or leaders m 0
    = get_or_read leaders m c.index.result.now (group-inside key _ _ _ _ _ _ c.self.invariant.0 (key c.args.entry) room)
    (c.index.ensures ∙ ap (λ n. get_or leaders (n / 16) c.index.result.now) c.key-number.ensures) 0 in
    let chosen : q ≡ (if leads key m (get_or es (get_or leaders m 0) None) then get_or leaders m 0 else c.args.place)
    = c.leader_with-leader.ensures
    ∙ ap (λ (xs : List _). if leads key (c.key-number.result / 16)
    (get_or xs c.index.result.now None) then c.index.result.now else c.args.place) c.deref.ensures.value
    ∙ ap (λ n. if leads key (n / 16) (get_or es c.index.result.now None) then c.index.result.now else c.args.place) c.key-number.ensures
    ∙ ap (λ n. if leads key m (get_or es n None) then n else c.args.place) old in
    let in_places : q < length places = leader_with-inside key _ _ _ _ _ _ c.self.invariant.0 c.args.place m q inside chosen in
    let group : c.index_mut-3.result.now ≡ get_or places q [] =
    get_or_read places q c.index_mut-3.result.now in_places c.index_mut-3.ensures.value [] in (
      rw (c.key-number.ensures, group)
          (IsSoundTable-put key _ _ _ _ _ _ c.self.invariant.0 c.args.place c.args.entry c.raised-self-inside.result q inside
          (ap (λ t. entry_at t c.args.place) c.self.view_is ∙ c.requires.free) unlisted room chosen c.raised-self-inside.ensures),
      AreLiveBelow-put es c.self.inside.live_end c.raised_end-self-inside.result c.args.place (Some c.args.entry) c.self.invariant.1 inside
          c.raised_end-self-inside.ensures.kept c.raised_end-self-inside.ensures.over c.raised_end-self-inside.ensures.least,
    )
