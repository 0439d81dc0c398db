use Rattle.std.proofs.Common.{arith}
use Rattle.std.proofs.lemmas.Option.{IfSome_then}
use Rattle.thy_nvm.proofs.mem_nvm.MemNvm.next_waiting.Goals as goal

pub returns-clause-small : goal.returns-clause-small
returns-clause-small c =
    IfSome_then c.next_queued.result c.next_queued.ensures.place
    (λ x inside. omega (arith, inside, c.size_of-size.ensures.size, c.size_of-size.ensures.small))
