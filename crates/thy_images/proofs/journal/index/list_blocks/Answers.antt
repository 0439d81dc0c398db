use Rattle.std.proofs.Common.{◌∙◌, ℕ, Option, length, take, ap, arith}
use Rattle.std.proofs.lemmas.List.{take_all}
use Rattle.thy_block.specs.declared.parameters.Parameters.{Parameters}
use Rattle.thy_layout.specs.Files.{blocks_of}
use Rattle.thy_images.specs.JournalIndex.{with_block}
use Rattle.thy_images.specs.JournalCheckpointParts.{memory_places}
use Rattle.thy_images.specs.JournalSlots.{table_in}
use Rattle.thy_images.proofs.JournalIndexLemmas.{block_listed}
use Rattle.thy_images.proofs.JournalPartsLemmas.{length-memory_places}
use Rattle.thy_images.proofs.journal.index.list_blocks.Goals as goal

pub list_block-requires-clause-long : goal.list_block-requires-clause-long
list_block-requires-clause-long c =
    ap length c.loop-i.invariant
    ∙ length-memory_places c.args.geometry.now c.args.s (take c.loop-i.i (table_in c.args.geometry.now (blocks_of c.args.slot.now)))

pub loop-i-preserved : goal.loop-i-preserved
loop-i-preserved c =
    block_listed c.args.geometry.now c.args.s
    (table_in c.args.geometry.now (blocks_of c.args.slot.now)) c.loop-i.i c.requires.table c.loop-i.index c.list_block.new.index
    c.loop-i.invariant
    (c.list_block.ensures ∙ ap (λ (e : Option ℕ). with_block c.args.geometry.now c.args.s c.loop-i.i e c.loop-i.index) c.listed_block.ensures)

pub returns : goal.returns
returns c =
    c.loop-i.invariant
    ∙ ap (memory_places c.args.geometry.now c.args.s)
    (take_all c.loop-i.i (table_in c.args.geometry.now (blocks_of c.args.slot.now))
    (omega (arith, c.requires.table.long, ap (λ (p : Parameters). p.btt) c.numbers-entries.ensures.same)))
