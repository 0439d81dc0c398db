use Rattle.std.proofs.Common.{◌≡◌, ◌+◌, ◌/◌, ◌%◌, ◌<◌, ◌≤◌, [], ◌∷◌, length, drop, map, sym, ◌∙◌, ap, subst, arith}
use Rattle.std.proofs.lemmas.List.{drop_all, length-set}
use Rattle.thy_block.specs.Device.{block_at}
use Rattle.thy_nvm.specs.Overlaid.{Overlaid, on_overlay, put_in}
use Rattle.thy_sweep.specs.Choices.{Place, ArePlaces, place_in, count_of, chosen_on}
use Rattle.thy_sweep.proofs.ChoiceLemmas.{IsDigit, is_digit, some_choice, places-first}
use Rattle.thy_sweep.proofs.choices.put_chosen.Goals as goal

pub count_after-after-requires : goal.count_after-after-requires
count_after-after-requires c =
    let l = c.loop-choice in
    some_choice c.args.places.now l.choice-index c.choice-item.result l.rest l.index (omega (arith, c.loop-choice-test.true)) c.choice-item.is l.invariant.rest
    l.invariant.index

-- what is left of the number is one of the blocks of this place, and a number of the places after it
digit : goal.put_block-requires-clause-index
digit c =
    let l = c.loop-choice in
    (is_digit c.args.places.now l.choice-index c.choice-item.result l.rest c.count_after-after.result l.index (omega (arith, c.loop-choice-test.true))
    c.choice-item.is l.invariant.rest l.invariant.index c.count_after-after.ensures).inside

pub put_block-requires-clause-index : goal.put_block-requires-clause-index
put_block-requires-clause-index c = digit c

pub put_block-requires-clause-place : goal.put_block-requires-clause-place
put_block-requires-clause-place c =
    let l = c.loop-choice in
    let first = places-first c.args.places.now l.choice-index c.choice-item.result (omega (arith, c.loop-choice-test.true)) c.choice-item.is in
    (subst (ArePlaces (length l.overlay.device.image)) first l.invariant.within).0

pub loop-choice-preserved : goal.loop-choice-preserved
loop-choice-preserved c =
    let l = c.loop-choice in
    let places = c.args.places.now in
    let x = c.choice-item.result in
    let p : Place = place_in x in
    let rest = map place_in (drop (l.choice-index + 1) places) in
    let after = c.count_after-after.result in
    let o : Overlaid = l.overlay in
    let inside : l.choice-index < length places = omega (arith, c.loop-choice-test.true) in
    let first = places-first places l.choice-index x inside c.choice-item.is in
    let d = is_digit places l.choice-index x l.rest after l.index inside c.choice-item.is l.invariant.rest l.invariant.index c.count_after-after.ensures in
    let long : length c.put_block.new.overlay.device.image ≡ length o.device.image
    = ap (λ (y : Overlaid). length y.device.image) c.put_block.ensures ∙ length-set o.device.image p.at (block_at p.blocks (l.index / after)) in
    let within : ArePlaces (length o.device.image) (p ∷ rest) = subst (ArePlaces (length o.device.image)) first l.invariant.within in
    record {
      rest = d.left;
      index = d.below;
      within = subst (λ k. ArePlaces k rest) (sym long) within.1;
      size = long ∙ l.invariant.size;
      same =
          ap (on_overlay (chosen_on rest (l.index % after))) c.put_block.ensures
          ∙ ap (λ k. on_overlay (chosen_on rest (l.index % k)) (on_overlay (put_in p.at (block_at p.blocks (l.index / k))) o)) d.left
          ∙ ap (λ ps. on_overlay (chosen_on ps l.index) o) (sym first)
          ∙ l.invariant.same;
    }

pub nonzero_div-index : goal.nonzero_div-index
nonzero_div-index c =
    let l = c.loop-choice in
    let d = is_digit c.args.places.now l.choice-index c.choice-item.result l.rest c.count_after-after.result l.index (omega (arith, c.loop-choice-test.true))
    c.choice-item.is l.invariant.rest l.invariant.index c.count_after-after.ensures in
    omega (arith, d.some_left)

pub nonzero_rem-index : goal.nonzero_rem-index
nonzero_rem-index c =
    let l = c.loop-choice in
    let d = is_digit c.args.places.now l.choice-index c.choice-item.result l.rest c.count_after-after.result l.index (omega (arith, c.loop-choice-test.true))
    c.choice-item.is l.invariant.rest l.invariant.index c.count_after-after.ensures in
    omega (arith, d.some_left)

pub returns-clause-image : goal.returns-clause-image
returns-clause-image c =
    let l = c.loop-choice in
    let places = c.args.places.now in
    let over : length places ≤ l.choice-index = omega (arith, c.loop-choice-test.false) in
    let none : map place_in (drop l.choice-index places) ≡ [] = ap (map place_in) (drop_all l.choice-index places over) in
    sym (ap (λ ps. on_overlay (chosen_on ps l.index) l.overlay) none) ∙ l.invariant.same
