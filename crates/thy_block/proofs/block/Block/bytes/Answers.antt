use Rattle.std.proofs.Common.{◌≡◌, length, sym, arith}
use Rattle.thy_block.proofs.BlockLemmas.{block_bytes-long}
use Rattle.thy_block.proofs.block.Block.bytes.Goals as goal

pub returns-clause-bytes : goal.returns-clause-bytes
returns-clause-bytes c =
    let long : length c.args.self.now.0 ≡ 64 = omega arith in
    sym (block_bytes-long c.args.self.now long)
