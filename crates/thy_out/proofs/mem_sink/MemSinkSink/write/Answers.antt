use Rattle.std.proofs.Common.{arith, rules}
use Rattle.std.proofs.lemmas.Grind.{common_steps}
use Rattle.thy_block.proofs.Streams.{Grew-some, TookPart-take}
use Rattle.thy_out.proofs.mem_sink.MemSinkSink.write.Goals as goal

pub returns-then-fitting-piece-clause-failed : goal.returns-then-fitting-piece-clause-failed
returns-then-fitting-piece-clause-failed c =
    TookPart-take _ _ _ c.min-fitting.result
    (Grew-some _ _ _ (grind (arith, common_steps, c.unwrap.ensures, c.extend_from_slice.ensures.items)))
    (record { no_less = grind (arith, common_steps); more = grind (arith, common_steps) })

pub returns-clause-whole : goal.returns-clause-whole
returns-clause-whole c = grind (arith, common_steps)

pub returns-clause-answer : goal.returns-clause-answer
returns-clause-answer c = search rules

pub returns-clause-after : goal.returns-clause-after
returns-clause-after c = grind (arith, common_steps)
