use Rattle.std.proofs.Common.{length, ◌∙◌, ap}
use Rattle.std.proofs.lemmas.List.{length-set}
use Rattle.thy_dram.specs.Contents.{Contents}
use Rattle.thy_journal_parts.proofs.StateLemmas.{IsSoundState-dram}
use Rattle.thy_journal_parts.proofs.log.Log.put.Goals as goal

pub invariant_of-self : goal.invariant_of-self
invariant_of-self c =
    IsSoundState-dram c.self.inside.geometry c.self.inside.table c.self.inside.dram c.write.new.self c.self.invariant
    (ap (λ (d : Contents). length d.blocks) c.write.ensures ∙ length-set c.self.inside.dram.blocks c.buffer-at.result c.args.block.now)
