use Rattle.std.proofs.Common.{◌≡◌, ◌≢◌, ◌<◌, ◌+◌, ◌++◌, ℕ, length, take, drop, refl, sym, ap, subst, ◌∙◌, inl, inr, arith}
use Rattle.std.proofs.lemmas.Bool.{cases_eq}
use Rattle.std.proofs.lemmas.List.{length-set, get_or-set_other}
use Rattle.thy_block.specs.Device.{IsMadeOf, possible, queued_for, block_at, zero_block}
use Rattle.thy_dram.specs.Held.{device_of}
use Rattle.thy_nvm.specs.Pick.{torn_block, torn}
use Rattle.thy_nvm.proofs.PickLemmas.{torn-step, IsMadeOf-same}
use Rattle.thy_nvm.proofs.pick.tear_places.Goals as goal

pub loop-x-init : goal.loop-x-init
loop-x-init c = record {
  image = ap (λ (s : ℕ). torn s 0 c.args.ring.now.image c.args.ring.now.queue) c.new-draws.ensures;
  size = refl;
  queue = refl;
  room = refl;
  made = λ y l. absurd (omega arith);
  ahead = λ y l. refl;
}

pub loop-x-preserved : goal.loop-x-preserved
loop-x-preserved c =
    let x = c.loop-x.x in
    let ring = c.loop-x.ring in
    let new = c.tear_place.new.ring in
    let b = torn_block c.loop-x.draws (block_at c.loop-x.ring.image c.loop-x.x) (queued_for c.loop-x.ring.queue c.loop-x.x) in
    let inside : c.loop-x.x < length c.loop-x.ring.image = omega (arith, c.loop-x.invariant.size, ap length c.image-x-end.ensures) in
    let other : (y : ℕ) → y ≢ c.loop-x.x → block_at c.tear_place.new.ring.image y ≡ block_at c.loop-x.ring.image y =
    λ y ne. ap (λ r. block_at r.image y) c.tear_place.ensures.ring ∙ get_or-set_other ring.image x y b zero_block ne in
    record {
      image = ap (λ r. take (x + 1) r.image ++ torn c.tear_place.new.draws (x + 1) (drop (x + 1) r.image) r.queue) c.tear_place.ensures.ring
          ∙ torn-step ring.image x c.loop-x.draws c.tear_place.new.draws ring.queue inside c.tear_place.ensures.draws
          ∙ c.loop-x.invariant.image;
      size = ap (λ r. length r.image) c.tear_place.ensures.ring ∙ length-set ring.image x b ∙ c.loop-x.invariant.size;
      queue = ap (λ r. r.queue) c.tear_place.ensures.ring ∙ c.loop-x.invariant.queue;
      room = ap (λ r. r.room) c.tear_place.ensures.ring ∙ c.loop-x.invariant.room;
      made = λ y l. elim (cases_eq y x) as (λ _. IsMadeOf (possible (device_of c.args.ring.now) y) (block_at new.image y)) [
        | inl e ↦
            subst (λ (z : ℕ). IsMadeOf (possible (device_of c.args.ring.now) z) (block_at new.image z)) (sym e)
            (IsMadeOf-same ring c.args.ring.now x (block_at new.image x)
            (c.loop-x.invariant.ahead x (omega arith)) c.loop-x.invariant.queue c.tear_place.ensures.made)
        | inr ne ↦
            subst (λ d. IsMadeOf (possible (device_of c.args.ring.now) y) d) (sym (other y ne)) (c.loop-x.invariant.made y (omega (arith, l, ne)))
      ];
      ahead = λ y l. other y (λ e. omega (arith, e, l)) ∙ c.loop-x.invariant.ahead y (omega (arith, l));
    }

pub returns-clause-made : goal.returns-clause-made
returns-clause-made c = λ x l. c.loop-x.invariant.made x (omega (arith, l, ap length c.image-x-end.ensures))
