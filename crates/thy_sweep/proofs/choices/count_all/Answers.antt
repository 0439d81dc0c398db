use Rattle.std.proofs.Common.{◌≡◌, ◌+◌, ◌-◌, ◌*◌, ◌^◌, ◌<◌, ◌≤◌, min, [], length, drop, map, sym, ◌∙◌, ap, arith}
use Rattle.std.proofs.lemmas.List.{drop_all}
use Rattle.thy_sweep.specs.Choices.{place_in, count_of}
use Rattle.thy_sweep.proofs.ChoiceLemmas.{min-below, min-one, min-times, places-first}
use Rattle.thy_sweep.proofs.choices.count_all.Goals as goal

pub loop-choice-preserved : goal.loop-choice-preserved
loop-choice-preserved c =
    let l = c.loop-choice in
    let places = c.args.places.now in
    let m = 2 ^ 128 - 1 in
    let x = c.choice-item.result in
    let rest = map place_in (drop (l.choice-index + 1) places) in
    let inside : l.choice-index < length places = omega (arith, c.loop-choice-test.true) in
    record {
      fits = min-below (l.count * length (place_in x).blocks) m _ c.count_with-count.ensures;
      same =
          ap (λ k. min (k * count_of rest) m) c.count_with-count.ensures
          ∙ min-times m l.count (length (place_in x).blocks) (count_of rest)
          ∙ ap (λ ps. min (l.count * count_of ps) m) (sym (places-first places l.choice-index x inside c.choice-item.is))
          ∙ l.invariant.same;
    }

pub returns : goal.returns
returns c =
    let l = c.loop-choice in
    let places = c.args.places.now in
    let m = 2 ^ 128 - 1 in
    let over : length places ≤ l.choice-index = omega (arith, c.loop-choice-test.false) in
    let none : map place_in (drop l.choice-index places) ≡ [] = ap (map place_in) (drop_all l.choice-index places over) in
    sym (min-one l.count m l.invariant.fits) ∙ sym (ap (λ ps. min (l.count * count_of ps) m) none) ∙ l.invariant.same
