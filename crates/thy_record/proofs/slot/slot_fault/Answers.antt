use Rattle.std.proofs.Common.{◌∙◌, List, Option, ap}
use Rattle.std.specs.Option.{option_or}
use Rattle.thy_block.specs.declared.block.Block.{Block}
use Rattle.thy_block.specs.declared.parameters.Parameters.{Parameters}
use Rattle.thy_layout.specs.declared.bad_image.BadImage.{BadImage}
use Rattle.thy_layout.specs.Files.{blocks_of}
use Rattle.thy_record.specs.Slots.{head_fault, count_fault}
use Rattle.thy_record.proofs.CheckLemmas.{slot_fault-parts}
use Rattle.thy_record.proofs.slot.slot_fault.Goals as goal

pub returns : goal.returns
returns c =
    let p : Parameters = c.args.geometry.now in
    let slot : List Block = blocks_of c.args.slot.now in
    let head : Option BadImage = head_fault p c.args.ceiling c.args.epoch slot in
    c.or-2.ensures
    ∙ ap (λ (x : Option BadImage). option_or x c.second_fault.result)
    (c.or.ensures
    ∙ ap (λ (x : Option BadImage). option_or x c.count_fault.result) c.head_fault-head.ensures
    ∙ ap (option_or head) c.count_fault.ensures)
    ∙ ap (option_or (option_or head (count_fault c.args.version p slot))) c.second_fault.ensures
    ∙ slot_fault-parts c.args.version p c.args.ceiling c.args.epoch slot
