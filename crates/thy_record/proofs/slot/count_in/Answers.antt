use Rattle.std.proofs.Common.{arith}
use Rattle.thy_record.proofs.IssuingLemmas.{count_byte-blocks_of}
use Rattle.thy_record.proofs.slot.count_in.Goals as goal

pub returns : goal.returns
returns c = count_byte-blocks_of c.args.geometry.now c.args.slot.now c.args.i _ c.requires.slot c.requires.inside (omega arith)
