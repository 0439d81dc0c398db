use Rattle.std.proofs.Common.{◌≡◌, false, length, replicate, sym, ◌∙◌, ap, subst, arith}
use Rattle.std.proofs.lemmas.List.{with_items_is}
use Rattle.std.specs.Vec.{with_items}
use Rattle.thy_block.specs.declared.nvm.Shape.{Shape}
use Rattle.thy_block.specs.Device.{Crash}
use Rattle.thy_dram.specs.Held.{Held, held_by}
use Rattle.thy_dram.specs.Merged.{merged, AreMarked}
use Rattle.thy_dram.proofs.MergedLemmas.{merged-none}
use Rattle.thy_nvm.specs.Kept.{Cuts, no_cuts}
use Rattle.thy_nvm.specs.DeviceInMemory.{device_in}
use Rattle.thy_nvm.specs.Overlaid.{overlaid, over_below}
use Rattle.thy_nvm.specs.Pick.{left_by, landing}
use Rattle.thy_nvm.proofs.OverLemmas.{same_held, over-left, Crash-over}
use Rattle.thy_nvm.proofs.overlay.Overlay.of.Goals as goal

pub invariant_of-result : goal.invariant_of-result
invariant_of-result c =
    let marks = c.spare.inside.marks in
    let ms = c.queue_as.new.marks in
    let filled : length c.fill.new.self.items ≡ length marks.items = omega (arith, c.fill.ensures.len, c.fill.new.self.ok.0, marks.ok.0) in
    let long : length ms ≡ length marks.items = c.queue_as.ensures.marks ∙ ap length c.deref_mut.ensures.value ∙ filled in
    let back : (with_items c.fill.new.self ms).items ≡ ms
    = with_items_is c.fill.new.self ms (omega (arith, long, filled, c.fill.new.self.ok.0)) in
    let below : length c.image-below.result.now ≡ length marks.items
    = ap length c.image-below.ensures ∙ ap (λ (h : Held). length h.image) c.ring-held.ensures ∙ sym c.requires.blocks
    ∙ sym (ap (λ (p : Shape). p.blocks) c.spare.view_is) in
    record {
      blocks =
          c.leave.ensures.left.same_length ∙ c.queue_as.ensures.blocks ∙ ap length (sym back);
      as_many = below ∙ sym long ∙ ap length (sym back);
      kept = ap (λ (k : Cuts). k.size) c.clear.ensures ∙ c.spare.invariant.kept ∙ sym long ∙ ap length (sym back);
      marked = subst (AreMarked (with_items c.fill.new.self ms).items) (sym (ap (λ (h : Held). h.queue) c.leave.ensures.ring)) tt;
    }

pub returns-clause-left : goal.returns-clause-left
returns-clause-left c =
    let s = c.spare.inside in
    let n = length s.marks.items in
    let pick = c.args.pick in
    let below = c.image-below.result.now in
    let held : Held = c.ring-held.result.now in
    let device = c.args.nvm.now.device in
    let ms = c.queue_as.new.marks in
    let q : Held = c.queue_as.new.ring in
    let counted : s.marks.len ≡ n = omega (arith, s.marks.ok.0) in
    let filled : length c.fill.new.self.items ≡ n = omega (arith, c.fill.ensures.len, c.fill.new.self.ok.0, s.marks.ok.0) in
    let long : length ms ≡ n = c.queue_as.ensures.marks ∙ ap length c.deref_mut.ensures.value ∙ filled in
    let back : (with_items c.fill.new.self ms).items ≡ ms
    = with_items_is c.fill.new.self ms (omega (arith, long, filled, c.fill.new.self.ok.0)) in
    let as_many : length below ≡ n
    = ap length c.image-below.ensures ∙ ap (λ (h : Held). length h.image) c.ring-held.ensures ∙ sym c.requires.blocks
    ∙ sym (ap (λ (p : Shape). p.blocks) c.spare.view_is) in
    let unmarked : c.deref_mut.result.now ≡ replicate n false
    = c.deref_mut.ensures.value ∙ c.fill.ensures.items (λ y e. e) ∙ ap (λ k. replicate k false) counted in
    let image : merged ms q.image below ≡ held.image
    = c.queue_as.ensures.image
    ∙ ap (λ m. merged m c.clear_queue.new.self.image below) unmarked
    ∙ merged-none n c.clear_queue.new.self.image below as_many
    ∙ c.image-below.ensures in
    let same : over_below q ms below ≡ held_by device
    = same_held (over_below q ms below) held image c.queue_as.ensures.queue c.queue_as.ensures.room ∙ c.ring-held.ensures in
    let leaves : over_below c.leave.new.ring (with_items c.fill.new.self ms).items below ≡ left_by device.whole pick (held_by device)
    = ap (λ m. over_below c.leave.new.ring m below) back
    ∙ ap (λ h. over_below h ms below) c.leave.ensures.ring
    ∙ over-left c.lands_whole-whole.result pick q ms below c.queue_as.ensures.blocks c.queue_as.ensures.marked
    ∙ ap (λ h. left_by c.lands_whole-whole.result pick h) same
    ∙ ap (λ w. left_by w pick (held_by device)) c.lands_whole-whole.ensures in
    ap (λ h. overlaid (device_in h c.clear.new.self false 0 0 c.lands_whole-whole.result 0)) leaves
    ∙ ap (λ w. overlaid (device_in (left_by device.whole pick (held_by device)) c.clear.new.self false 0 0 w 0)) c.lands_whole-whole.ensures
    ∙ ap (λ k. overlaid (device_in (left_by device.whole pick (held_by device)) k false 0 0 device.whole 0)) c.clear.ensures
    ∙ ap (λ (p : Shape). overlaid (device_in (left_by device.whole pick (held_by device)) (no_cuts s.kept.size p.cuts) false 0 0 device.whole 0)) c.spare.view_is

pub returns-clause-crash : goal.returns-clause-crash
returns-clause-crash c =
    let s = c.spare.inside in
    let n = length s.marks.items in
    let below = c.image-below.result.now in
    let held : Held = c.ring-held.result.now in
    let device = c.args.nvm.now.device in
    let ms = c.queue_as.new.marks in
    let q : Held = c.queue_as.new.ring in
    let g = c.leave.new.ring.image in
    let whole = c.lands_whole-whole.result in
    let counted : s.marks.len ≡ n = omega (arith, s.marks.ok.0) in
    let filled : length c.fill.new.self.items ≡ n = omega (arith, c.fill.ensures.len, c.fill.new.self.ok.0, s.marks.ok.0) in
    let long : length ms ≡ n = c.queue_as.ensures.marks ∙ ap length c.deref_mut.ensures.value ∙ filled in
    let back : (with_items c.fill.new.self ms).items ≡ ms
    = with_items_is c.fill.new.self ms (omega (arith, long, filled, c.fill.new.self.ok.0)) in
    let as_many : length below ≡ n
    = ap length c.image-below.ensures ∙ ap (λ (h : Held). length h.image) c.ring-held.ensures ∙ sym c.requires.blocks
    ∙ sym (ap (λ (p : Shape). p.blocks) c.spare.view_is) in
    let unmarked : c.deref_mut.result.now ≡ replicate n false
    = c.deref_mut.ensures.value ∙ c.fill.ensures.items (λ y e. e) ∙ ap (λ k. replicate k false) counted in
    let image : merged ms q.image below ≡ held.image
    = c.queue_as.ensures.image
    ∙ ap (λ m. merged m c.clear_queue.new.self.image below) unmarked
    ∙ merged-none n c.clear_queue.new.self.image below as_many
    ∙ c.image-below.ensures in
    let same : over_below q ms below ≡ held_by device
    = same_held (over_below q ms below) held image c.queue_as.ensures.queue c.queue_as.ensures.room ∙ c.ring-held.ensures in
    let over : Crash (landing whole (over_below q ms below)) (merged ms g below) = Crash-over whole q ms below g c.leave.ensures.left in
    let all : Crash (landing whole (held_by device)) (merged ms g below)
    = subst (λ (h : Held). Crash (landing whole h) (merged ms g below)) same over in
    let of_it : Crash (landing device.whole (held_by device)) (merged ms g below)
    = subst (λ w. Crash (landing w (held_by device)) (merged ms g below)) c.lands_whole-whole.ensures all in
    subst (λ m. Crash device (merged m g below)) (sym back) (record { same_length = of_it.same_length; each = of_it.each })
