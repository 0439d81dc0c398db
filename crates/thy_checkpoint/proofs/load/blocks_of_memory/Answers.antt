use Rattle.std.proofs.Common.{sym, ◌∙◌}
use Rattle.thy_isa.specs.Step.{state_of}
use Rattle.thy_checkpoint.proofs.LoadLemmas.{length-first}
use Rattle.thy_checkpoint.proofs.load.blocks_of_memory.Goals as goal

pub returns : goal.returns
returns g c =
    c.memory_blocks.ensures.blocks
    ∙ sym (length-first g.F.Fills.filling g.met.F.Fills.lawful c.args.geometry.now (state_of c.args.state.now))
