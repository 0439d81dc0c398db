use Rattle.std.proofs.Common.{◌≡◌, ◌∙◌, ap}
use Rattle.thy_block.specs.Device.{drained}
use Rattle.thy_dram.specs.Held.{as_device}
use Rattle.thy_nvm.specs.DeviceInMemory.{device_in}
use Rattle.thy_nvm.specs.Overlaid.{overlaid, over_below, on_overlay}
use Rattle.thy_nvm.proofs.OverLemmas.{over-landed}
use Rattle.thy_nvm.proofs.overlay.Overlay.land_oldest.Goals as goal

pub returns : goal.returns
returns c =
    let s = c.self.inside in
    let e : over_below c.drain.new.self s.marks.items s.below.now ≡ as_device drained (over_below s.ring s.marks.items s.below.now)
    = ap (λ r. over_below r s.marks.items s.below.now) c.drain.ensures
    ∙ over-landed 1 s.ring s.marks.items s.below.now c.self.invariant.blocks c.self.invariant.marked in
    ap (λ r. overlaid (device_in r s.kept s.down s.faults s.faults s.whole s.writes)) e ∙ ap (on_overlay drained) c.self.view_is
