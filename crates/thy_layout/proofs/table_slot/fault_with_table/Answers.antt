use Rattle.std.proofs.Common.{◌∙◌, ap}
use Rattle.std.specs.Option.{option_or}
use Rattle.thy_layout.specs.Files.{blocks_of}
use Rattle.thy_layout.proofs.TableSlotLemmas.{slot_epoch, slot_rest}
use Rattle.thy_layout.proofs.table_slot.fault_with_table.Goals as goal

pub returns-then-word_in-epoch : goal.returns-then-word_in-epoch
returns-then-word_in-epoch c =
    slot_epoch c.args.table c.args.geometry.now c.args.ceiling c.args.epoch (blocks_of c.args.slot.now) c.word_in.result c.word_in.ensures
    c.if-word_in-epoch.true

pub returns : goal.returns
returns c =
    slot_rest c.args.table c.or.result c.args.geometry.now c.args.ceiling c.args.epoch (blocks_of c.args.slot.now) c.word_in.result c.word_in.ensures
    c.if-word_in-epoch.false (c.or.ensures ∙ ap (option_or c.args.table) c.cpu_fault.ensures)
