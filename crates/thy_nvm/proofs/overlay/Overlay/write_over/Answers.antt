use Rattle.std.proofs.Common.{◌≡◌, ◌<◌, true, length, take, slice_set, sym, ◌∙◌, ap, subst, arith}
use Rattle.std.proofs.lemmas.List.{length-set, with_items_is}
use Rattle.std.specs.Vec.{with_items}
use Rattle.thy_block.specs.Device.{surplus, written_to}
use Rattle.thy_block.proofs.DeviceLemmas.{length-applied}
use Rattle.thy_dram.specs.Held.{Held, device_of, as_device}
use Rattle.thy_dram.specs.Merged.{merged, is_marked, AreMarked}
use Rattle.thy_dram.proofs.MergedLemmas.{AreMarked-set, marked-set_same}
use Rattle.thy_nvm.specs.DeviceInMemory.{device_in}
use Rattle.thy_nvm.specs.Overlaid.{Overlaid, overlaid, over_below, written_over}
use Rattle.thy_nvm.proofs.OverLemmas.{inside_over, same_held, over-written, AreMarked-written}
use Rattle.thy_nvm.proofs.overlay.Overlay.write_over.Goals as goal

pub take_up-requires-clause-place : goal.take_up-requires-clause-place
take_up-requires-clause-place c =
    omega (
      arith,
      inside_over c.args.at c.self.inside.ring c.self.inside.marks.items c.self.inside.below.now
          (ap (λ (o : Overlaid). o.device.image) c.self.view_is) c.requires,
      ap length c.deref_mut.ensures.value,
    )

pub write-requires : goal.write-requires
write-requires c =
    omega (
      arith,
      inside_over c.args.at c.self.inside.ring c.self.inside.marks.items c.self.inside.below.now
          (ap (λ (o : Overlaid). o.device.image) c.self.view_is) c.requires,
      c.take_up.ensures.blocks,
      c.self.invariant.blocks,
    )

pub invariant_of-self : goal.invariant_of-self
invariant_of-self c =
    let s = c.self.inside in
    let at = c.args.at in
    let r : Held = c.take_up.new.ring in
    let ms = c.take_up.new.marks in
    let taken : ms ≡ slice_set s.marks.items at true = c.take_up.ensures.marks ∙ ap (λ m. slice_set m at true) c.deref_mut.ensures.value in
    let long : length ms ≡ length s.marks.items = ap length taken ∙ length-set s.marks.items at true in
    let back : (with_items s.marks ms).items ≡ ms = with_items_is s.marks ms (omega (arith, long, s.marks.ok.0)) in
    let inside : at < length s.marks.items =
    inside_over at s.ring s.marks.items s.below.now (ap (λ (o : Overlaid). o.device.image) c.self.view_is) c.requires in
    let before : AreMarked ms s.ring.queue
    = subst (λ m. AreMarked m s.ring.queue) (sym taken) (AreMarked-set s.marks.items at s.ring.queue c.self.invariant.marked) in
    let marked : AreMarked ms r.queue = subst (AreMarked ms) (sym c.take_up.ensures.queue) before in
    let here : is_marked ms at ≡ true = ap (λ m. is_marked m at) taken ∙ marked-set_same s.marks.items at inside in
    record {
      blocks =
          ap (λ (h : Held). length h.image) c.write.ensures.held ∙ length-applied r.image (take (surplus (device_of r)) r.queue)
          ∙ c.take_up.ensures.blocks ∙ c.self.invariant.blocks ∙ sym long ∙ ap length (sym back);
      as_many = c.self.invariant.as_many ∙ sym long ∙ ap length (sym back);
      kept = c.self.invariant.kept ∙ sym long ∙ ap length (sym back);
      marked =
          subst (λ m. AreMarked m c.write.new.self.queue) (sym back)
          (subst (AreMarked ms) (sym (ap (λ (h : Held). h.queue) c.write.ensures.held)) (AreMarked-written r ms at c.args.block.now here marked));
    }

pub returns : goal.returns
returns c =
    let s = c.self.inside in
    let at = c.args.at in
    let block = c.args.block.now in
    let below = s.below.now in
    let r : Held = c.take_up.new.ring in
    let ms = c.take_up.new.marks in
    let taken : ms ≡ slice_set s.marks.items at true = c.take_up.ensures.marks ∙ ap (λ m. slice_set m at true) c.deref_mut.ensures.value in
    let long : length ms ≡ length s.marks.items = ap length taken ∙ length-set s.marks.items at true in
    let back : (with_items s.marks ms).items ≡ ms = with_items_is s.marks ms (omega (arith, long, s.marks.ok.0)) in
    let before : AreMarked ms s.ring.queue
    = subst (λ m. AreMarked m s.ring.queue) (sym taken) (AreMarked-set s.marks.items at s.ring.queue c.self.invariant.marked) in
    let marked : AreMarked ms r.queue = subst (AreMarked ms) (sym c.take_up.ensures.queue) before in
    let image : merged ms r.image below ≡ merged s.marks.items s.ring.image below
    = c.take_up.ensures.image ∙ ap (λ m. merged m s.ring.image below) c.deref_mut.ensures.value in
    let e : over_below c.write.new.self (with_items s.marks ms).items below ≡ as_device (λ n. written_to n at block)
    (over_below s.ring s.marks.items below)
    = ap (λ m. over_below c.write.new.self m below) back
    ∙ ap (λ h. over_below h ms below) c.write.ensures.held
    ∙ over-written r ms below at block (c.take_up.ensures.blocks ∙ c.self.invariant.blocks ∙ sym long) marked
    ∙ ap (as_device (λ n. written_to n at block))
    (same_held (over_below r ms below) (over_below s.ring s.marks.items below) image c.take_up.ensures.queue c.take_up.ensures.room) in
    ap (λ h. overlaid (device_in h s.kept s.down s.faults s.faults s.whole c.one_more-self-inside.result)) e
    ∙ ap (λ n. overlaid (device_in (as_device (λ n. written_to n at block) (over_below s.ring s.marks.items below)) s.kept s.down s.faults s.faults s.whole n)) c.one_more-self-inside.ensures
    ∙ ap (written_over at block) c.self.view_is
