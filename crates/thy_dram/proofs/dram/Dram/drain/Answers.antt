use Rattle.std.proofs.Common.{◌∙◌, ap}
use Rattle.thy_dram.specs.Contents.{drained}
use Rattle.thy_dram.proofs.DramLemmas.{contents_in-drained}
use Rattle.thy_dram.proofs.dram.Dram.drain.Goals as goal

pub returns : goal.returns
returns c =
    contents_in-drained c.self.inside.ring c.drain.new.self c.self.inside.marks.items c.self.inside.pick c.drain.ensures
    ∙ ap drained c.self.view_is
