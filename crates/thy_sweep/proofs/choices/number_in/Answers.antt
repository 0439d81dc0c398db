use Rattle.std.proofs.Common.{◌≡◌, ◌+◌, ◌-◌, ◌*◌, ◌^◌, ◌<◌, ◌≤◌, min, [], ◌∷◌, length, drop, map, sym, ◌∙◌, ap, subst, arith}
use Rattle.std.proofs.lemmas.List.{drop_all}
use Rattle.thy_block.specs.Device.{block_at}
use Rattle.thy_sweep.specs.Choices.{Place, ArePlaces, place_in, count_of, index_of, number_of}
use Rattle.thy_sweep.proofs.ChoiceLemmas.{ArePlaces-drop, min-below, min-digit, min-last, places-first}
use Rattle.thy_sweep.proofs.choices.number_in.Goals as goal

pub number_with-number-requires : goal.number_with-number-requires
number_with-number-requires c =
    let l = c.loop-choice in
    let places = c.args.places.now in
    let first = places-first places l.choice-index c.choice-item.result (omega (arith, c.loop-choice-test.true)) c.choice-item.is in
    (subst (ArePlaces (length c.args.copy.now.device.image)) first (ArePlaces-drop (length c.args.copy.now.device.image) places l.choice-index c.requires)).0

pub loop-choice-preserved : goal.loop-choice-preserved
loop-choice-preserved c =
    let l = c.loop-choice in
    let places = c.args.places.now in
    let g = c.args.copy.now.device.image in
    let m = 2 ^ 128 - 1 in
    let x = c.choice-item.result in
    let p : Place = place_in x in
    let rest = map place_in (drop (l.choice-index + 1) places) in
    let index = index_of p.blocks (block_at g p.at) in
    let inside : l.choice-index < length places = omega (arith, c.loop-choice-test.true) in
    record {
      fits = min-below (min (l.number * length p.blocks) m + index) m _ c.number_with-number.ensures;
      same =
          ap (λ k. min (k * count_of rest + number_of rest g) m) c.number_with-number.ensures
          ∙ min-digit m l.number (length p.blocks) index (count_of rest) (number_of rest g)
          ∙ ap (λ ps. min (l.number * count_of ps + number_of ps g) m) (sym (places-first places l.choice-index x inside c.choice-item.is))
          ∙ l.invariant.same;
    }

pub returns : goal.returns
returns c =
    let l = c.loop-choice in
    let places = c.args.places.now in
    let g = c.args.copy.now.device.image in
    let m = 2 ^ 128 - 1 in
    let over : length places ≤ l.choice-index = omega (arith, c.loop-choice-test.false) in
    let none : map place_in (drop l.choice-index places) ≡ [] = ap (map place_in) (drop_all l.choice-index places over) in
    sym (min-last l.number m l.invariant.fits) ∙ sym (ap (λ ps. min (l.number * count_of ps + number_of ps g) m) none) ∙ l.invariant.same
