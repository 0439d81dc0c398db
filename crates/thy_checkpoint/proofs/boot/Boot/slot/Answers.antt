use Rattle.std.proofs.Common.{◌≡◌, ◌*◌, length, sym, ap, subst, arith}
use Rattle.thy_block.specs.declared.block.Block.{Block}
use Rattle.thy_block.specs.declared.parameters.Parameters.{Parameters}
use Rattle.thy_layout.specs.Layout.{Layouts}
use Rattle.thy_checkpoint.specs.Boot.{Booting, layout_in}
use Rattle.thy_checkpoint.specs.Filling.{layout_at}
use Rattle.thy_checkpoint.proofs.boot.Boot.slot.Goals as goal

pub first_blocks-requires : goal.first_blocks-requires
first_blocks-requires g c =
    let F = g.F.Fills.filling in
    let p : Parameters = c.self.inside.geometry in
    let commit : Block = c.self.inside.commit in
    let room : length c.self.inside.slot.items ≡ 64 * (layout_at F p).most_slot
    = subst (λ (b : Booting). length b.slot ≡ 64 * (layout_in F b).most_slot) (sym c.self.view_is) c.requires in
    let most = (g.met.F.Fills.lawful.laid.slot p commit).most in
    let same = ap (λ (layouts : Layouts). (layouts p).slot_blocks commit) g.met.F.Fills.of_images in
    omega (arith, room, most, same, c.slot_blocks-blocks.ensures)
