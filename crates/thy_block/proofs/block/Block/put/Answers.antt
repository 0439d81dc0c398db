use Rattle.std.proofs.Common.{◌≡◌, length, sym, arith}
use Rattle.thy_block.proofs.BlockLemmas.{overwritten-long}
use Rattle.thy_block.proofs.block.Block.put.Goals as goal

pub returns : goal.returns
returns c =
    let long : length c.args.self.now.0 ≡ 64 = omega arith in
    rw c.put_in.ensures (sym (overwritten-long c.args.at c.args.piece.now c.args.self.now long))
