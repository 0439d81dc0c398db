use Rattle.std.proofs.Common.{ap}
use Rattle.thy_hart.specs.InHand.{hart_state_of}
use Rattle.thy_hart.proofs.InHandLemmas.{begun_with-store}
use Rattle.thy_hart.proofs.micro_steps.HartParts.begin_change.Goals as goal

pub returns-clause-hart : goal.returns-clause-hart
returns-clause-hart g c = λ input.
    let a = c.args.access in
    begun_with-store input (hart_state_of c.args.self.now) a.1 c.args.pc c.args.at c.args.value a (ap (λ n. (n, a.1)) c.requires)
