use Rattle.std.proofs.Common.{◌∙◌, drop, arith}
use Rattle.std.proofs.lemmas.List.{length-drop}
use Rattle.thy_checkpoint.proofs.StartLemmas.{piece_over_zeros}
use Rattle.thy_checkpoint.proofs.start.part_block.Goals as goal

pub returns-then-count-gt0 : goal.returns-then-count-gt0
returns-then-count-gt0 c =
    c.fill.ensures ∙ piece_over_zeros (drop c.args.from c.args.bytes.now) c.min-count.result
    (omega (arith, length-drop c.args.from c.args.bytes.now))
