use Rattle.std.proofs.Common.{◌≡◌, length, sym, ◌∙◌, ap, subst}
use Rattle.thy_block.specs.Device.{at_rest}
use Rattle.thy_block.proofs.DeviceLemmas.{length-applied}
use Rattle.thy_dram.specs.Held.{Held, as_device}
use Rattle.thy_dram.specs.Merged.{AreMarked}
use Rattle.thy_nvm.specs.DeviceInMemory.{device_in}
use Rattle.thy_nvm.specs.Overlaid.{Overlaid, overlaid, over_below, on_overlay}
use Rattle.thy_nvm.proofs.OverLemmas.{over-settled}
use Rattle.thy_nvm.proofs.overlay.Overlay.land_all.Goals as goal

pub invariant_of-self : goal.invariant_of-self
invariant_of-self c =
    let s = c.self.inside in
    record {
      blocks = ap (λ (r : Held). length r.image) c.settle.ensures ∙ length-applied s.ring.image s.ring.queue ∙ c.self.invariant.blocks;
      as_many = c.self.invariant.as_many;
      kept = c.self.invariant.kept;
      marked = subst (AreMarked s.marks.items) (sym (ap (λ (r : Held). r.queue) c.settle.ensures)) tt;
    }

pub returns-clause-leaves : goal.returns-clause-leaves
returns-clause-leaves c =
    let s = c.self.inside in
    let e : over_below c.settle.new.self s.marks.items s.below.now ≡ as_device at_rest (over_below s.ring s.marks.items s.below.now)
    = ap (λ r. over_below r s.marks.items s.below.now) c.settle.ensures
    ∙ over-settled s.ring s.marks.items s.below.now c.self.invariant.blocks c.self.invariant.marked in
    ap (λ r. overlaid (device_in r s.kept s.down s.faults s.faults s.whole s.writes)) e ∙ ap (on_overlay at_rest) c.self.view_is

pub returns-clause-plain : goal.returns-clause-plain
returns-clause-plain c = sym (ap (λ (o : Overlaid). o.device.wear) c.self.view_is)
