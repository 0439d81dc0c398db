use Rattle.std.proofs.Common.{◌∙◌, ap}
use Rattle.thy_dram.specs.Draws.{drawn_block}
use Rattle.thy_dram.proofs.draws.drawn_at.Goals as goal

pub returns : goal.returns
returns c = c.next_block.ensures.block ∙ ap drawn_block (c.new-draws.ensures ∙ c.state_at.ensures)
