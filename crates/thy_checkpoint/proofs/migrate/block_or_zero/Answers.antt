use Rattle.std.proofs.Common.{sym, ◌∙◌, arith}
use Rattle.std.proofs.lemmas.List.{get_or_past}
use Rattle.thy_block.specs.Device.{zero_block}
use Rattle.thy_layout.specs.Files.{blocks_of}
use Rattle.thy_layout.proofs.FileLemmas.{length-blocks_of, block_at-blocks_of}
use Rattle.thy_checkpoint.proofs.migrate.block_or_zero.Goals as goal

pub returns-then-k-bytes : goal.returns-then-k-bytes
returns-then-k-bytes c = c.block_in.ensures ∙ sym (block_at-blocks_of c.args.bytes.now c.args.k (omega (arith, c.if-k-bytes.true)))

pub returns-else-k-bytes : goal.returns-else-k-bytes
unfolding zero_block
returns-else-k-bytes c =
    sym (get_or_past (blocks_of c.args.bytes.now) c.args.k zero_block (omega (arith, length-blocks_of c.args.bytes.now, c.if-k-bytes.false)))
