use Rattle.std.proofs.Common.{◌∙◌, ap}
use Rattle.std.specs.Option.{option_or}
use Rattle.thy_layout.specs.Files.{blocks_of}
use Rattle.thy_layout.specs.Slots.{status_fault}
use Rattle.thy_layout.proofs.slot.cpu_fault.Goals as goal

pub returns : goal.returns
returns c =
    c.or.ensures
    ∙ ap (λ x. option_or x c.second_fault.result) c.status_fault.ensures
    ∙ ap (option_or (status_fault c.args.geometry.now c.args.ceiling (blocks_of c.args.slot.now))) c.second_fault.ensures
