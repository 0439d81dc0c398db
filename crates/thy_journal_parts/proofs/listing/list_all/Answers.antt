use Rattle.std.proofs.Common.{refl, ap, arith}
use Rattle.thy_block.specs.declared.parameters.Parameters.{Parameters}
use Rattle.thy_layout.specs.Files.{blocks_of}
use Rattle.thy_journal_parts.proofs.ListLemmas.{lists_start, lists_all}
use Rattle.thy_journal_parts.proofs.listing.list_all.Goals as goal

pub loop-i-init : goal.loop-i-init
loop-i-init c = record {
  lists =
      lists_start c.args.geometry.now (blocks_of c.args.slot.now) c.args.log.now c.requires.geometry
      c.requires.fresh;
  same_dram = refl;
}

pub returns : goal.returns
returns c =
    lists_all c.args.geometry.now (blocks_of c.args.slot.now) c.args.log.now c.loop-i.log c.loop-i.i
    c.requires.geometry
    (omega (arith, ap (λ (p : Parameters). p.btt) c.numbers-entries.ensures.same))
    c.loop-i.invariant.lists c.loop-i.invariant.same_dram
