use Rattle.std.proofs.Common.{arith, ◌++◌, ◌<◌, length, take}
use Rattle.std.proofs.lemmas.Grind.{common_steps}
use Rattle.thy_out.proofs.Known.{Consumes-long, Consumes-append, LosesAtMost-append, LosesAtMost-keeps}
use Rattle.thy_out.proofs.file_shelf.read_within.Goals as goal

pub returns-then-len-limit-clause-answer : goal.returns-then-len-limit-clause-answer
returns-then-len-limit-clause-answer g c =
    let read = Consumes-append _ _ _ _ _ c.loop-bytes.invariant.read c.in-Ok.ensures.bytes.0 in
    let long : c.args.limit < length (c.loop-bytes.bytes.items ++ take c.in-Ok.count c.read.new.to) = grind (arith, common_steps) in
    Consumes-long _ _ _ _ read long

pub returns-in_err-map_err-in-Ok-clause-most : goal.returns-in_err-map_err-in-Ok-clause-most
returns-in_err-map_err-in-Ok-clause-most g c =
    LosesAtMost-append _ _ _ _ _ _ c.loop-bytes.invariant.read c.in-Ok.ensures.bytes.0 (grind (arith, common_steps))

pub returns-then-len-limit-clause-most : goal.returns-then-len-limit-clause-most
returns-then-len-limit-clause-most g c =
    LosesAtMost-append _ _ _ _ _ _ c.loop-bytes.invariant.read c.in-Ok.ensures.bytes.0 (grind (arith, common_steps))

pub returns-in-Err-clause-most : goal.returns-in-Err-clause-most
returns-in-Err-clause-most g c =
    LosesAtMost-keeps _ _ _ _ _ c.loop-bytes.invariant.read c.in-Err.ensures.bytes (omega arith)
