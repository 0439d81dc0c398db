use Rattle.std.proofs.Common.{length, ◌∙◌, ap}
use Rattle.thy_isa.proofs.MemoryBounds.{length-number_bytes}
use Rattle.thy_isa.proofs.MoveLaws.{size_of-most}
use Rattle.thy_isa.proofs.moving.modified_bytes.Goals as goal

pub returns-clause-len : goal.returns-clause-len
returns-clause-len c = ap length c.add_number.ensures ∙ length-number_bytes c.args.width c.modified.result

pub returns-clause-range : goal.returns-clause-range
returns-clause-range c = size_of-most c.args.width
