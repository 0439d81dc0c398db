use Rattle.std.proofs.Common.{◌∙◌, arith}
use Rattle.thy_files.proofs.RestoringLaws.{blocks_more, blocks_all}
use Rattle.thy_files.proofs.restoring.whole_blocks.Goals as goal

pub loop-k-preserved : goal.loop-k-preserved
loop-k-preserved c =
    blocks_more c.args.bytes.now c.loop-k.k c.loop-k.blocks.items c.push.new.self.items c.block_in.result (omega arith) c.loop-k.invariant
    c.block_in.ensures c.in_ok-push.ensures.items

pub returns : goal.returns
returns c = c.loop-k.invariant ∙ blocks_all c.args.bytes.now c.loop-k.k (omega arith)
