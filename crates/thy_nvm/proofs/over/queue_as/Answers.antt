use Rattle.std.proofs.Common.{◌≡◌, ◌<◌, true, List, [], ◌∷◌, ◌++◌, length, take, min, sym, ◌∙◌, ap, subst, arith}
use Rattle.std.proofs.lemmas.List.{length-set, length-take, take_more}
use Rattle.thy_block.specs.declared.nvm.Write.{Write}
use Rattle.thy_dram.specs.Held.{Held}
use Rattle.thy_dram.specs.Merged.{merged, is_marked, AreMarked}
use Rattle.thy_dram.proofs.MergedLemmas.{AreMarked-append, AreMarked-set, marked-set_same}
use Rattle.thy_nvm.proofs.OverLemmas.{written-room}
use Rattle.thy_nvm.proofs.over.queue_as.Goals as goal

pub loop-i-preserved : goal.loop-i-preserved
loop-i-preserved c =
    let l = c.loop-i in
    let w : Write = c.waiting-write.result in
    let queue : List Write = c.args.held.now.queue in
    let below = c.args.below.now in
    let ms = c.take_up.new.marks in
    let r : Held = c.take_up.new.ring in
    let counted : length r.queue ≡ min l.i (length queue)
    = ap length (c.take_up.ensures.queue ∙ l.invariant.queue) ∙ length-take l.i queue in
    let roomy : r.room ≡ c.args.held.now.room = c.take_up.ensures.room ∙ l.invariant.room ∙ c.requires.room in
    let more : l.i < length queue = omega (arith, c.loop-i-test.true, c.queued-i-end.ensures.queued) in
    let fits : length r.queue < r.room
    = omega (arith, counted, roomy, more, c.queued-i-end.ensures.queued, c.queued-i-end.ensures.within) in
    let written = c.write.ensures.held ∙ written-room r w fits in
    let inside : w.at < length l.marks
    = omega (arith, c.waiting-write.ensures.place, ap length c.requires.whose, c.requires.as_many, l.invariant.as_long) in
    let before : AreMarked ms l.ring.queue
    = subst (λ m. AreMarked m l.ring.queue) (sym c.take_up.ensures.marks) (AreMarked-set l.marks w.at l.ring.queue l.invariant.marked) in
    let same : AreMarked ms r.queue = subst (AreMarked ms) (sym c.take_up.ensures.queue) before in
    let here : is_marked ms w.at ≡ true = ap (λ m. is_marked m w.at) c.take_up.ensures.marks ∙ marked-set_same l.marks w.at inside in
    let as_long : length ms ≡ length l.marks = ap length c.take_up.ensures.marks ∙ length-set l.marks w.at true in
    record {
      image = ap (λ (h : Held). merged ms h.image below) written ∙ c.take_up.ensures.image ∙ l.invariant.image;
      queue =
          ap (λ (h : Held). h.queue) written ∙ ap (λ q. q ++ w ∷ []) (c.take_up.ensures.queue ∙ l.invariant.queue)
          ∙ sym (take_more queue l.i w more ∙ ap (λ v. take l.i queue ++ v ∷ []) (c.waiting-write.ensures.write w));
      marked = subst (AreMarked ms) (sym (ap (λ (h : Held). h.queue) written)) (AreMarked-append ms r.queue (w ∷ []) same (here, tt));
      as_long = as_long ∙ l.invariant.as_long;
      blocks = ap (λ (h : Held). length h.image) written ∙ c.take_up.ensures.blocks ∙ l.invariant.blocks ∙ sym as_long;
      room = ap (λ (h : Held). h.room) written ∙ c.take_up.ensures.room ∙ l.invariant.room;
    }
