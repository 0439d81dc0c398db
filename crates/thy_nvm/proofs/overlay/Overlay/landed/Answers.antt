use Rattle.std.proofs.Common.{◌≡◌, ◌<◌, if◌then◌else◌, true, false, length, sym, ◌∙◌, ap, arith}
use Rattle.std.proofs.lemmas.List.{get_or_read}
use Rattle.thy_block.specs.Device.{block_at}
use Rattle.thy_dram.specs.Merged.{is_marked}
use Rattle.thy_dram.proofs.MergedLemmas.{block_at-merged}
use Rattle.thy_nvm.specs.Overlaid.{Overlaid}
use Rattle.thy_nvm.proofs.OverLemmas.{inside_over}
use Rattle.thy_nvm.proofs.overlay.Overlay.landed.Goals as goal

pub index-requires : goal.index-requires
index-requires c =
    omega (
      arith,
      inside_over c.args.at c.self.inside.ring c.self.inside.marks.items c.self.inside.below.now
          (ap (λ (o : Overlaid). o.device.image) c.self.view_is) c.requires,
      c.self.inside.marks.ok.0,
    )

pub block_of_image-requires : goal.block_of_image-requires
block_of_image-requires c =
    omega (
      arith,
      inside_over c.args.at c.self.inside.ring c.self.inside.marks.items c.self.inside.below.now
          (ap (λ (o : Overlaid). o.device.image) c.self.view_is) c.requires,
      c.self.invariant.blocks,
      ap length c.image.ensures,
    )

pub block_of_image-requires-else-index : goal.block_of_image-requires-else-index
block_of_image-requires-else-index c =
    omega (
      arith,
      inside_over c.args.at c.self.inside.ring c.self.inside.marks.items c.self.inside.below.now
          (ap (λ (o : Overlaid). o.device.image) c.self.view_is) c.requires,
      c.self.invariant.as_many,
    )

pub returns-then-index : goal.returns-then-index
returns-then-index c =
    let s = c.self.inside in
    let at = c.args.at in
    let below = s.below.now in
    let inside : at < length s.marks.items
    = inside_over at s.ring s.marks.items below (ap (λ (o : Overlaid). o.device.image) c.self.view_is) c.requires in
    let marked : is_marked s.marks.items at ≡ true
    = sym (get_or_read s.marks.items at c.index.result.now inside c.index.ensures false) ∙ c.if-index.true in
    c.block_of_image.ensures
    ∙ ap (λ image. block_at image at) c.image.ensures
    ∙ sym (block_at-merged s.marks.items s.ring.image below at inside ∙ ap (λ t. if t then block_at s.ring.image at else block_at below at) marked)
    ∙ ap (λ (o : Overlaid). block_at o.device.image at) c.self.view_is

pub returns-else-index : goal.returns-else-index
returns-else-index c =
    let s = c.self.inside in
    let at = c.args.at in
    let below = s.below.now in
    let inside : at < length s.marks.items
    = inside_over at s.ring s.marks.items below (ap (λ (o : Overlaid). o.device.image) c.self.view_is) c.requires in
    let unmarked : is_marked s.marks.items at ≡ false
    = sym (get_or_read s.marks.items at c.index.result.now inside c.index.ensures false) ∙ c.if-index.false in
    c.block_of_image-else-index.ensures
    ∙ sym (block_at-merged s.marks.items s.ring.image below at inside ∙ ap (λ t. if t then block_at s.ring.image at else block_at below at) unmarked)
    ∙ ap (λ (o : Overlaid). block_at o.device.image at) c.self.view_is
