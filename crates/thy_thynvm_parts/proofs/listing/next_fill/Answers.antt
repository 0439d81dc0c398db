use Rattle.std.proofs.Common.{◌/◌, List, is_some, Some, None, sym, ◌∙◌, ap, arith}
use Rattle.thy_block.specs.declared.block.Block.{Block}
use Rattle.thy_block.specs.declared.parameters.Parameters.{Parameters}
use Rattle.thy_layout.specs.Files.{blocks_of}
use Rattle.thy_record.specs.Slots.{tables_in}
use Rattle.thy_table.proofs.FirstLemmas.{first_from-first}
use Rattle.thy_thynvm_parts.specs.Filling.{position_in}
use Rattle.thy_thynvm_parts.proofs.BootSlotLemmas.{size_of_ptt}
use Rattle.thy_record.proofs.IssuingLemmas.{least_slot}
use Rattle.thy_thynvm_parts.proofs.listing.next_fill.Goals as goal

pub next_listed-requires : goal.next_listed-requires
next_listed-requires c = omega (arith, c.requires, least_slot c.args.geometry.now c.args.commit.now)

pub overflow_mul-entry : goal.overflow_mul-entry
overflow_mul-entry c =
    let p : Parameters = c.args.geometry.now in
    let slot : List Block = blocks_of c.args.slot.now in
    let first = first_from-first is_some None (tables_in p slot).ptt (c.args.from / 64) c.in-Some.entry (sym c.next_listed.ensures ∙ c.in-Some.is) in
    omega (arith, first.inside, size_of_ptt p slot, c.numbers-numbers.ensures.in_range)

pub returns-in-Some : goal.returns-in-Some
returns-in-Some c = ap Some c.max.ensures ∙ ap (position_in c.args.from) (sym c.in-Some.is ∙ c.next_listed.ensures)

pub returns-in-None : goal.returns-in-None
returns-in-None c = ap (position_in c.args.from) (sym c.in-None.is ∙ c.next_listed.ensures)
