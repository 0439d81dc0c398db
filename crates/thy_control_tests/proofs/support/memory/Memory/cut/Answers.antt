use Rattle.std.proofs.Common.{sym, ◌∙◌, ap, arith}
use Rattle.thy_block.specs.Geometry.{memory_blocks}
use Rattle.thy_table.specs.Places.{image_blocks}
use Rattle.thy_control_tests.proofs.StartingLemmas.{IsOff-cut}
use Rattle.thy_control_tests.proofs.support.memory.Memory.cut.Goals as goal

pub invariant_of-result : goal.invariant_of-result
invariant_of-result g c =
    IsOff-cut c.self.inside.geometry c.self.inside.control c.self.inside.nvm.device c.cut.new.self.device c.args.pick c.cut-2.result
    c.self.inside.cuts c.recall_tables.ensures c.self.invariant.same_p
    (ap memory_blocks (sym c.self.invariant.same_p) ∙ c.self.invariant.drives.blocks)
    (c.self.invariant.drives.sized.nvm ∙ ap image_blocks c.self.invariant.same_p) c.self.invariant.room c.cut.ensures.cut c.cut-2.ensures (grind arith)
