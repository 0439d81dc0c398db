use Rattle.std.proofs.Common.{ap, arith}
use Rattle.thy_layout.specs.Layout.{Layouts}
use Rattle.thy_checkpoint.proofs.load.header.Goals as goal

pub header_block_of-requires : goal.header_block_of-requires
header_block_of-requires g c =
    let few = g.met.F.Fills.lawful.laid.number c.args.geometry.now in
    let same = ap (λ (layouts : Layouts). (layouts c.args.geometry.now).scheme) g.met.F.Fills.of_images in
    omega (arith, few, same, c.scheme.ensures)
