use Rattle.std.proofs.Common.{◌≡◌, ◌<◌, true, false, length, sym, ◌∙◌, ap, arith}
use Rattle.std.proofs.lemmas.List.{get_or_read}
use Rattle.thy_block.specs.Device.{newest}
use Rattle.thy_dram.specs.Merged.{is_marked}
use Rattle.thy_nvm.specs.Overlaid.{Overlaid}
use Rattle.thy_nvm.proofs.OverLemmas.{inside_over, newest-marked, newest-unmarked}
use Rattle.thy_nvm.proofs.overlay.Overlay.block.Goals as goal

pub index-requires : goal.index-requires
index-requires c =
    omega (
      arith,
      inside_over c.args.at c.self.inside.ring c.self.inside.marks.items c.self.inside.below.now
          (ap (λ (o : Overlaid). o.device.image) c.self.view_is) c.requires,
      c.self.inside.marks.ok.0,
    )

pub read-requires : goal.read-requires
read-requires c =
    omega (
      arith,
      inside_over c.args.at c.self.inside.ring c.self.inside.marks.items c.self.inside.below.now
          (ap (λ (o : Overlaid). o.device.image) c.self.view_is) c.requires,
      c.self.invariant.blocks,
    )

pub block_of_image-requires : goal.block_of_image-requires
block_of_image-requires c =
    omega (
      arith,
      inside_over c.args.at c.self.inside.ring c.self.inside.marks.items c.self.inside.below.now
          (ap (λ (o : Overlaid). o.device.image) c.self.view_is) c.requires,
      c.self.invariant.as_many,
    )

pub returns-then-index : goal.returns-then-index
returns-then-index c =
    let inside : c.args.at < length c.self.inside.marks.items
    = inside_over c.args.at c.self.inside.ring c.self.inside.marks.items c.self.inside.below.now
    (ap (λ (o : Overlaid). o.device.image) c.self.view_is) c.requires in
    let marked : is_marked c.self.inside.marks.items c.args.at ≡ true
    = sym (get_or_read c.self.inside.marks.items c.args.at c.index.result.now inside c.index.ensures false) ∙ c.if-index.true in
    c.read.ensures
    ∙ newest-marked c.self.inside.ring c.self.inside.marks.items c.self.inside.below.now c.args.at inside marked
    ∙ ap (λ (o : Overlaid). newest o.device c.args.at) c.self.view_is

pub returns-else-index : goal.returns-else-index
returns-else-index c =
    let inside : c.args.at < length c.self.inside.marks.items
    = inside_over c.args.at c.self.inside.ring c.self.inside.marks.items c.self.inside.below.now
    (ap (λ (o : Overlaid). o.device.image) c.self.view_is) c.requires in
    let unmarked : is_marked c.self.inside.marks.items c.args.at ≡ false
    = sym (get_or_read c.self.inside.marks.items c.args.at c.index.result.now inside c.index.ensures false) ∙ c.if-index.false in
    c.block_of_image.ensures
    ∙ newest-unmarked c.self.inside.ring c.self.inside.marks.items c.self.inside.below.now c.args.at inside c.self.invariant.marked unmarked
    ∙ ap (λ (o : Overlaid). newest o.device c.args.at) c.self.view_is
