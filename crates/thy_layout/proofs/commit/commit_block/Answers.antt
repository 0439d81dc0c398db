use Rattle.std.proofs.Common.{rules}
use Rattle.thy_layout.proofs.commit.commit_block.Goals as goal

pub returns : goal.returns
returns c = search rules
