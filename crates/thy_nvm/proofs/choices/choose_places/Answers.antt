use Rattle.std.proofs.Common.{◌≡◌, ◌≢◌, ◌<◌, ℕ, length, refl, sym, ap, subst, ◌∙◌, inl, inr, arith}
use Rattle.std.proofs.lemmas.Bool.{cases_eq}
use Rattle.std.proofs.lemmas.List.{length-set, get_or-set_other, get_or-set_same}
use Rattle.thy_block.specs.Device.{IsMadeOf, possible, block_at, zero_block}
use Rattle.thy_dram.specs.Held.{device_of}
use Rattle.thy_nvm.specs.Chosen.{HasChosenWords, numbers_from}
use Rattle.thy_nvm.proofs.ChosenLemmas.{numbers_from-none, numbers_from-more, HasChosenWords-same}
use Rattle.thy_nvm.proofs.PickLemmas.{Crash-made, IsMadeOf-same}
use Rattle.thy_nvm.proofs.choices.choose_places.Goals as goal

pub loop-x-init : goal.loop-x-init
loop-x-init c = record {
  size = refl;
  queue = refl;
  room = refl;
  words = λ y l. absurd (omega arith);
  taken = numbers_from-none c.args.choices.now c.args.ring.now.queue;
  made = λ y l. absurd (omega arith);
  ahead = λ y l. refl;
}

pub loop-x-preserved : goal.loop-x-preserved
loop-x-preserved c =
    let x = c.loop-x.x in
    let ring = c.loop-x.ring in
    let new = c.choose_place.new.ring in
    let chosen = c.choose_place.ensures.ring in
    let start = c.args.ring.now in
    let numbers = c.args.choices.now in
    let inside : c.loop-x.x < length c.loop-x.ring.image = omega (arith, c.loop-x.invariant.size, ap length c.image-x-end.ensures) in
    let here : block_at c.choose_place.new.ring.image c.loop-x.x ≡ c.choose_place.ensures.ring.block
    = ap (λ r. block_at r.image x) chosen.is ∙ get_or-set_same ring.image x chosen.block zero_block inside in
    let other : (y : ℕ) → y ≢ c.loop-x.x → block_at c.choose_place.new.ring.image y ≡ block_at c.loop-x.ring.image y
    = λ y ne. ap (λ r. block_at r.image y) chosen.is ∙ get_or-set_other ring.image x y chosen.block zero_block ne in
    record {
      size = ap (λ r. length r.image) chosen.is ∙ length-set ring.image x chosen.block ∙ c.loop-x.invariant.size;
      queue = ap (λ r. r.queue) chosen.is ∙ c.loop-x.invariant.queue;
      room = ap (λ r. r.room) chosen.is ∙ c.loop-x.invariant.room;
      words = λ y l. elim (cases_eq y x) as (λ _. HasChosenWords (numbers_from numbers start.queue y) start y (block_at new.image y)) [
        | inl e ↦
            subst (λ (z : ℕ). HasChosenWords (numbers_from numbers start.queue z) start z (block_at new.image z)) (sym e)
            (HasChosenWords-same c.loop-x.choices (numbers_from numbers start.queue x) ring start x chosen.block (block_at new.image x)
            (c.loop-x.invariant.ahead x (omega arith)) c.loop-x.invariant.queue c.loop-x.invariant.taken here chosen.words)
        | inr ne ↦
            subst (HasChosenWords (numbers_from numbers start.queue y) start y) (sym (other y ne))
            (c.loop-x.invariant.words y (omega (arith, l, ne)))
      ];
      taken = numbers_from-more numbers c.loop-x.choices c.choose_place.new.choices ring.queue start.queue x c.loop-x.invariant.queue
          c.loop-x.invariant.taken c.choose_place.ensures.taken;
      made = λ y l. elim (cases_eq y x) as (λ _. IsMadeOf (possible (device_of c.args.ring.now) y) (block_at new.image y)) [
        | inl e ↦
            subst (λ (z : ℕ). IsMadeOf (possible (device_of c.args.ring.now) z) (block_at new.image z)) (sym e)
            (IsMadeOf-same ring c.args.ring.now x (block_at new.image x) (c.loop-x.invariant.ahead x (omega arith)) c.loop-x.invariant.queue
            (subst (λ b. IsMadeOf (possible (device_of ring) x) b) (sym here) chosen.made))
        | inr ne ↦
            subst (λ d. IsMadeOf (possible (device_of c.args.ring.now) y) d) (sym (other y ne)) (c.loop-x.invariant.made y (omega (arith, l, ne)))
      ];
      ahead = λ y l. other y (λ e. omega (arith, e, l)) ∙ c.loop-x.invariant.ahead y (omega (arith, l));
    }

pub returns-clause-words : goal.returns-clause-words
returns-clause-words c = λ x l. c.loop-x.invariant.words x (omega (arith, l, ap length c.image-x-end.ensures))

pub returns-clause-taken : goal.returns-clause-taken
returns-clause-taken c =
    let all : c.loop-x.x ≡ length c.args.ring.now.image = omega (arith, ap length c.image-x-end.ensures) in
    c.loop-x.invariant.taken ∙ ap (numbers_from c.args.choices.now c.args.ring.now.queue) all

pub returns-clause-left : goal.returns-clause-left
returns-clause-left c =
    Crash-made c.args.ring.now c.loop-x.ring.image c.loop-x.invariant.size
    (λ x l. c.loop-x.invariant.made x (omega (arith, l, ap length c.image-x-end.ensures)))
