use Rattle.std.proofs.Common.{ap}
use Rattle.thy_hart.specs.Outcomes.{given}
use Rattle.thy_hart.specs.InHand.{hart_state_of}
use Rattle.thy_hart.proofs.RowLemmas.{ActsAll-last}
use Rattle.thy_hart.proofs.micro_steps.HartParts.act_fetched.Goals as goal

pub returns-in-Loads-clause-acts : goal.returns-in-Loads-clause-acts
returns-in-Loads-clause-acts g c = λ input. c.load_on.ensures.acts (given input c.args.free c.args.under_way)

pub returns-in-Idle-clause-acts : goal.returns-in-Idle-clause-acts
returns-in-Idle-clause-acts g c = λ input.
    ActsAll-last (given input c.args.free c.args.under_way) c.args.cache.now (hart_state_of c.args.self.now)
    (hart_state_of c.retire_next.new.self) c.retire_next.result
    c.retire_next.ensures.acts (λ none. ap hart_state_of (c.retire_next.ensures.left none)) c.retire_next.ensures.sound.hart
