use Rattle.std.proofs.Common.{◌≡◌, ◌<◌, true, length, slice_set, sym, ◌∙◌, ap, subst, arith}
use Rattle.std.proofs.lemmas.List.{length-set, with_items_is}
use Rattle.std.specs.Vec.{with_items}
use Rattle.thy_dram.specs.Held.{Held, put_at}
use Rattle.thy_dram.specs.Merged.{AreMarked}
use Rattle.thy_dram.proofs.MergedLemmas.{AreMarked-set}
use Rattle.thy_nvm.specs.DeviceInMemory.{device_in}
use Rattle.thy_nvm.specs.Overlaid.{Overlaid, overlaid, over_below, on_overlay, put_in}
use Rattle.thy_nvm.proofs.OverLemmas.{inside_over, over-put}
use Rattle.thy_nvm.proofs.overlay.Overlay.put.Goals as goal

pub put_over-requires-clause-place : goal.put_over-requires-clause-place
put_over-requires-clause-place c =
    omega (
      arith,
      inside_over c.args.at c.self.inside.ring c.self.inside.marks.items c.self.inside.below.now
          (ap (λ (o : Overlaid). o.device.image) c.self.view_is) c.requires,
      ap length c.deref_mut.ensures.value,
    )

pub invariant_of-self : goal.invariant_of-self
invariant_of-self c =
    let s = c.self.inside in
    let at = c.args.at in
    let r : Held = c.put_over.new.ring in
    let ms = c.put_over.new.marks in
    let taken : ms ≡ slice_set s.marks.items at true = c.put_over.ensures.marks ∙ ap (λ m. slice_set m at true) c.deref_mut.ensures.value in
    let long : length ms ≡ length s.marks.items = ap length taken ∙ length-set s.marks.items at true in
    let back : (with_items s.marks ms).items ≡ ms = with_items_is s.marks ms (omega (arith, long, s.marks.ok.0)) in
    let before : AreMarked ms s.ring.queue
    = subst (λ m. AreMarked m s.ring.queue) (sym taken) (AreMarked-set s.marks.items at s.ring.queue c.self.invariant.marked) in
    record {
      blocks =
          ap (λ (h : Held). length h.image) c.put_over.ensures.ring ∙ length-set s.ring.image at c.args.block.now
          ∙ c.self.invariant.blocks ∙ sym long ∙ ap length (sym back);
      as_many = c.self.invariant.as_many ∙ sym long ∙ ap length (sym back);
      kept = c.self.invariant.kept ∙ sym long ∙ ap length (sym back);
      marked =
          subst (λ m. AreMarked m r.queue) (sym back)
          (subst (AreMarked ms) (sym (ap (λ (h : Held). h.queue) c.put_over.ensures.ring)) before);
    }

pub returns : goal.returns
returns c =
    let s = c.self.inside in
    let at = c.args.at in
    let block = c.args.block.now in
    let below = s.below.now in
    let ms = c.put_over.new.marks in
    let taken : ms ≡ slice_set s.marks.items at true = c.put_over.ensures.marks ∙ ap (λ m. slice_set m at true) c.deref_mut.ensures.value in
    let long : length ms ≡ length s.marks.items = ap length taken ∙ length-set s.marks.items at true in
    let back : (with_items s.marks ms).items ≡ ms = with_items_is s.marks ms (omega (arith, long, s.marks.ok.0)) in
    let inside : at < length s.marks.items =
    inside_over at s.ring s.marks.items below (ap (λ (o : Overlaid). o.device.image) c.self.view_is) c.requires in
    let e : over_below c.put_over.new.ring (with_items s.marks ms).items below ≡ put_at (over_below s.ring s.marks.items below) at block
    = ap (λ m. over_below c.put_over.new.ring m below) (back ∙ taken)
    ∙ ap (λ h. over_below h (slice_set s.marks.items at true) below) c.put_over.ensures.ring
    ∙ over-put s.ring s.marks.items below at block c.self.invariant.blocks inside in
    ap (λ h. overlaid (device_in h s.kept s.down s.faults s.faults s.whole s.writes)) e ∙ ap (on_overlay (put_in at block)) c.self.view_is
