use Rattle.std.proofs.Common.{◌≡◌, false, true, length, replicate, sym, ◌∙◌, ap, subst, arith}
use Rattle.std.proofs.lemmas.List.{length-replicate, with_items_is}
use Rattle.std.specs.Vec.{with_items}
use Rattle.thy_block.specs.Device.{Device, Crash}
use Rattle.thy_dram.specs.Held.{Held}
use Rattle.thy_dram.specs.Merged.{merged, AreMarked}
use Rattle.thy_dram.proofs.MergedLemmas.{length-merged, merged-all}
use Rattle.thy_nvm.specs.Kept.{Cuts, with_cut}
use Rattle.thy_nvm.specs.DeviceInMemory.{device_in}
use Rattle.thy_nvm.specs.Overlaid.{Overlaid, overlaid, over_below, on_overlay}
use Rattle.thy_nvm.specs.Pick.{cut_device, left_by, landing}
use Rattle.thy_nvm.proofs.OverLemmas.{same_held}
use Rattle.thy_nvm.proofs.PickLemmas.{IsCut-picked}
use Rattle.thy_nvm.proofs.overlay.OverlayNvm.cut.Goals as goal

pub keep-requires-clause-size : goal.keep-requires-clause-size
keep-requires-clause-size c =
    let s = c.self.inside in
    let image = c.take_up_all.ensures.image ∙ ap (λ m. merged m s.ring.image s.below.now) c.deref_mut.ensures.value in
    ap length c.image.ensures
    ∙ c.leave.ensures.left.same_length
    ∙ ap length image
    ∙ length-merged s.marks.items s.ring.image s.below.now
    ∙ sym c.self.invariant.kept

pub invariant_of-self : goal.invariant_of-self
invariant_of-self c =
    let s = c.self.inside in
    let ms = c.take_up_all.new.marks in
    let image = c.take_up_all.ensures.image ∙ ap (λ m. merged m s.ring.image s.below.now) c.deref_mut.ensures.value in
    let all : ms ≡ replicate (length s.marks.items) true
    = c.take_up_all.ensures.marks ∙ ap (λ m. replicate (length m) true) c.deref_mut.ensures.value in
    let long : length ms ≡ length s.marks.items = ap length all ∙ length-replicate (length s.marks.items) true in
    let back : (with_items s.marks ms).items ≡ ms = with_items_is s.marks ms (omega (arith, long, s.marks.ok.0)) in
    let size : length c.leave.new.ring.image ≡ length s.marks.items
    = c.leave.ensures.left.same_length
    ∙ ap length image
    ∙ length-merged s.marks.items s.ring.image s.below.now in
    record {
      blocks = size ∙ sym long ∙ ap length (sym back);
      as_many = c.self.invariant.as_many ∙ sym long ∙ ap length (sym back);
      kept = ap (λ (k : Cuts). k.size) c.keep.ensures ∙ c.self.invariant.kept ∙ sym long ∙ ap length (sym back);
      marked = subst (AreMarked (with_items s.marks ms).items) (sym (ap (λ (h : Held). h.queue) c.leave.ensures.ring)) tt;
    }

pub returns-clause-exact : goal.returns-clause-exact
returns-clause-exact c =
    let s = c.self.inside in
    let pick = c.args.pick in
    let below = s.below.now in
    let ms = c.take_up_all.new.marks in
    let left : Held = c.leave.new.ring in
    let all_of : Held = over_below s.ring s.marks.items below in
    let image = c.take_up_all.ensures.image ∙ ap (λ m. merged m s.ring.image below) c.deref_mut.ensures.value in
    let all : ms ≡ replicate (length s.marks.items) true
    = c.take_up_all.ensures.marks ∙ ap (λ m. replicate (length m) true) c.deref_mut.ensures.value in
    let long : length ms ≡ length s.marks.items = ap length all ∙ length-replicate (length s.marks.items) true in
    let back : (with_items s.marks ms).items ≡ ms = with_items_is s.marks ms (omega (arith, long, s.marks.ok.0)) in
    let size : length left.image ≡ length s.marks.items
    = c.leave.ensures.left.same_length
    ∙ ap length image
    ∙ length-merged s.marks.items s.ring.image below in
    let leaves : left ≡ left_by s.whole pick all_of
    = c.leave.ensures.ring ∙ ap (left_by s.whole pick)
    (same_held c.take_up_all.new.ring all_of image c.take_up_all.ensures.queue c.take_up_all.ensures.room) in
    let over : over_below left (with_items s.marks ms).items below ≡ left_by s.whole pick all_of
    = ap (λ m. over_below left m below) (back ∙ all)
    ∙ ap (λ i. record { image = i; queue = left.queue; room = left.room }) (merged-all (length s.marks.items) left.image below size)
    ∙ leaves in
    let kept : c.keep.new.self ≡ with_cut s.kept pick (left_by s.whole pick all_of).image
    = c.keep.ensures ∙ ap (with_cut s.kept pick) (c.image.ensures ∙ ap (λ (h : Held). h.image) leaves) in
    ap (λ h. overlaid (device_in h c.keep.new.self false s.faults s.faults s.whole s.writes)) over
    ∙ ap (λ k. overlaid (device_in (left_by s.whole pick all_of) k false s.faults s.faults s.whole s.writes)) kept
    ∙ ap (on_overlay (cut_device pick)) c.self.view_is

pub returns-clause-cut : goal.returns-clause-cut
returns-clause-cut c =
    let s = c.self.inside in
    let held : Held = over_below s.ring s.marks.items s.below.now in
    let n : Device = device_in held s.kept s.down s.faults s.faults s.whole s.writes in
    let image = c.take_up_all.ensures.image ∙ ap (λ m. merged m s.ring.image s.below.now) c.deref_mut.ensures.value in
    let taken : c.take_up_all.new.ring ≡ held = same_held c.take_up_all.new.ring held image c.take_up_all.ensures.queue c.take_up_all.ensures.room in
    let left : Crash (landing s.whole held) (left_by s.whole c.args.pick held).image
    = subst (λ (h : Held). Crash (landing s.whole h) (left_by s.whole c.args.pick h).image) taken
    (subst (λ (h : Held). Crash (landing s.whole c.take_up_all.new.ring) h.image) c.leave.ensures.ring c.leave.ensures.left) in
    IsCut-picked c.args.pick n _ _ (ap (λ (o : Overlaid). o.device) c.self.view_is)
    (record { same_length = left.same_length; each = left.each })
    (ap (λ (o : Overlaid). o.device) (returns-clause-exact c))
