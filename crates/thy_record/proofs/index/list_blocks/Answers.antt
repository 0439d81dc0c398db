use Rattle.std.proofs.Common.{◌∙◌, List, Option, ℕ, ap, arith}
use Rattle.std.proofs.lemmas.List.{take_all}
use Rattle.thy_layout.specs.Files.{table_in}
use Rattle.thy_record.specs.Index.{index_by, with_block}
use Rattle.thy_layout.proofs.ClashLemmas.{length-table_in}
use Rattle.thy_record.proofs.IndexLemmas.{block_listed}
use Rattle.thy_record.proofs.index.list_blocks.Goals as goal

pub loop-i-preserved : goal.loop-i-preserved
loop-i-preserved c = (
  omega (arith, c.list_block.auto.index, c.loop-i.invariant.0),
  λ ptt before.
      block_listed c.args.geometry.now (table_in c.args.btt.now) ptt c.loop-i.i c.requires.table c.loop-i.index c.list_block.new.index
      (c.loop-i.invariant.1 ptt before)
      (c.list_block.ensures ∙ ap (λ (e : Option ℕ). with_block c.args.geometry.now c.loop-i.i e c.loop-i.index) c.entry.ensures),
)

pub returns : goal.returns
returns c = λ ptt before.
    c.loop-i.invariant.1 ptt before
    ∙ ap (λ (t : List (Option ℕ)). index_by c.args.geometry.now t ptt)
    (take_all c.loop-i.i (table_in c.args.btt.now) (omega (arith, length-table_in c.args.btt.now)))
