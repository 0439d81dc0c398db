use Rattle.std.proofs.Common.{◌≡◌, length, ◌∙◌, ap, arith}
use Rattle.thy_table.specs.Places.{image_blocks}
use Rattle.thy_control_tests.proofs.support.memory.Memory.read.Goals as goal

pub read-requires-clause-place : goal.read-requires-clause-place
read-requires-clause-place g c =
    let sized : length c.self.inside.nvm.device.image ≡ image_blocks c.self.inside.geometry
    = c.self.invariant.drives.sized.nvm ∙ ap image_blocks c.self.invariant.same_p in
    grind (arith, sized)
