use Rattle.std.proofs.Common.{◌≡◌, ◌+◌, [], ◌∷◌, ◌++◌, length, drop, map, sym, ◌∙◌, ap, append_assoc, append-nil, arith}
use Rattle.std.proofs.lemmas.List.{map-append}
use Rattle.thy_block.specs.Device.{Device}
use Rattle.thy_sweep.specs.Choices.{place_in, places_from}
use Rattle.thy_sweep.proofs.ChoiceLemmas.{places-step, places-none}
use Rattle.thy_sweep.proofs.choices.Choices.of.Goals as goal

pub places-preserved : goal.places-preserved
places-preserved c =
    let l = c.places in
    let n : Device = c.args.nvm.now.device in
    let at = c.in-Some.at in
    let so_far = map place_in l.places.items in
    let rest = places_from (at + 1) (drop (at + 1) n.image) n.queue in
    let lowest = c.in-Some.ensures.lowest in
    ap (λ xs. map place_in xs ++ rest) c.in_ok-push.ensures.items
    ∙ ap (λ ps. ps ++ rest) (map-append place_in l.places.items (c.in_ok-choice.choice ∷ []))
    ∙ append_assoc so_far (place_in c.in_ok-choice.choice ∷ []) rest
    ∙ ap (λ p. so_far ++ p ∷ rest) c.in_ok-choice.ensures
    ∙ ap (λ ps. so_far ++ ps) (places-step n.image n.queue l.from at lowest.not_below c.in-Some.ensures.place lowest.queued lowest.others)
    ∙ l.invariant

pub returns : goal.returns
returns c =
    let l = c.places in
    let n : Device = c.args.nvm.now.device in
    let so_far = map place_in l.places.items in
    sym (append-nil so_far)
    ∙ ap (λ ps. so_far ++ ps) (sym (places-none l.from (drop l.from n.image) n.queue c.in_default.ensures.lowest))
    ∙ l.invariant
