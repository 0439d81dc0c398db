use Rattle.std.proofs.Common.{sym, ◌∙◌, arith}
use Rattle.thy_block.proofs.FlatLemmas.{flat-nil}
use Rattle.thy_outcome.specs.Saving.{image_left}
use Rattle.thy_files.proofs.SavingLemmas.{bytes_more}
use Rattle.thy_files.proofs.saving.image_bytes.Goals as goal

pub loop-at-init : goal.loop-at-init
loop-at-init g c = c.in_ok-bytes.ensures.items ∙ sym flat-nil

pub loop-at-preserved : goal.loop-at-preserved
loop-at-preserved g c =
    bytes_more (image_left (g.N.Nvm.device c.args.nvm.now) c.args.i) c.loop-at.at c.loop-at.bytes.items c.add_block.new.bytes.items
    (omega (arith, c.loop-at-test.true, c.requires.whole)) c.loop-at.invariant c.in_ok-add_block.ensures
