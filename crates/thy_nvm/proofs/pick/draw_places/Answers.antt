use Rattle.std.proofs.Common.{◌+◌, ◌++◌, length, take, drop, slice_set, sym, ◌∙◌, ap, arith}
use Rattle.std.proofs.lemmas.List.{length-set, take-append-drop}
use Rattle.thy_block.specs.Device.{block_at, queued_for}
use Rattle.thy_dram.specs.Held.{Held}
use Rattle.thy_nvm.specs.Pick.{drawn_block, drawn}
use Rattle.thy_nvm.proofs.OverLemmas.{same_held}
use Rattle.thy_nvm.proofs.PickLemmas.{drawn-none, drawn-step}
use Rattle.thy_nvm.proofs.pick.draw_places.Goals as goal

pub places-preserved : goal.places-preserved
places-preserved c =
    let l = c.places in
    let x = c.in-Some.x in
    let r : Held = l.ring in
    let block = drawn_block l.draws (block_at r.image x) (queued_for r.queue x) in
    record {
      image =
          ap (λ (h : Held). take (x + 1) h.image ++ drawn c.draw_place.new.draws (x + 1) (drop (x + 1) h.image) h.queue) c.draw_place.ensures.ring
          ∙ ap (λ d. take (x + 1) (slice_set r.image x block) ++ drawn d (x + 1)
          (drop (x + 1) (slice_set r.image x block)) r.queue) c.draw_place.ensures.draws
          ∙ drawn-step r.image r.queue l.from x l.draws c.in-Some.ensures.lowest.not_below c.in-Some.ensures.place c.in-Some.ensures.lowest.others
          ∙ l.invariant.image;
      size = ap (λ (h : Held). length h.image) c.draw_place.ensures.ring ∙ length-set r.image x _ ∙ l.invariant.size;
      queue = ap (λ (h : Held). h.queue) c.draw_place.ensures.ring ∙ l.invariant.queue;
      room = ap (λ (h : Held). h.room) c.draw_place.ensures.ring ∙ l.invariant.room;
    }

pub overflow_add-from : goal.overflow_add-from
overflow_add-from c =
    omega (arith, c.in-Some.ensures.place, c.places.invariant.size, c.size_of-size.ensures.size, c.size_of-size.ensures.small)

pub returns : goal.returns
returns c =
    let l = c.places in
    let r : Held = l.ring in
    let image = sym (take-append-drop l.from r.image)
    ∙ ap (λ bs. take l.from r.image ++ bs) (sym (drawn-none l.draws l.from (drop l.from r.image) r.queue c.in_default.ensures.lowest))
    ∙ l.invariant.image in
    same_held r (record c.args.ring.now { image = drawn c.args.seed 0 c.args.ring.now.image c.args.ring.now.queue }) image
    l.invariant.queue l.invariant.room
