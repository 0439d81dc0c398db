use Rattle.std.proofs.Common.{◌∙◌, sym, ap, arith}
use Rattle.thy_layout.specs.Commit.{is_zero, epoch_of}
use Rattle.thy_layout.proofs.FileLemmas.{block_at-blocks_of}
use Rattle.thy_layout.proofs.ReaderLemmas.{checked_nothing, checked_bad, checked_at}
use Rattle.thy_layout.proofs.reader.check_image.Goals as goal

pub returns-then-is_zero : goal.returns-then-is_zero
returns-then-is_zero g c =
    checked_nothing (g.L.ImageLayout.layouts c.args.geometry.now) c.args.ceiling c.args.image.now (omega arith)
    (ap is_zero (block_at-blocks_of c.args.image.now 1 (omega arith) ∙ sym c.block_in-commit.ensures) ∙ sym c.is_zero.ensures ∙ c.if-is_zero.true)

pub image_fault-requires-clause-commit : goal.image_fault-requires-clause-commit
image_fault-requires-clause-commit g c = c.block_in-commit.ensures ∙ sym (block_at-blocks_of c.args.image.now 1 (omega arith))

pub returns-in-Some : goal.returns-in-Some
returns-in-Some g c =
    checked_bad (g.L.ImageLayout.layouts c.args.geometry.now) c.args.ceiling c.args.image.now c.in-Some.bad (omega arith)
    (ap is_zero (block_at-blocks_of c.args.image.now 1 (omega arith) ∙ sym c.block_in-commit.ensures) ∙ sym c.is_zero.ensures ∙ c.if-is_zero.false)
    c.in-Some.ensures

pub returns-in-None : goal.returns-in-None
returns-in-None g c =
    checked_at (g.L.ImageLayout.layouts c.args.geometry.now) c.args.ceiling c.args.image.now c.epoch_in.result (omega arith)
    (ap is_zero (block_at-blocks_of c.args.image.now 1 (omega arith) ∙ sym c.block_in-commit.ensures) ∙ sym c.is_zero.ensures ∙ c.if-is_zero.false)
    c.in-None.ensures
    (c.epoch_in.ensures ∙ ap epoch_of (c.block_in-commit.ensures ∙ sym (block_at-blocks_of c.args.image.now 1 (omega arith))))
