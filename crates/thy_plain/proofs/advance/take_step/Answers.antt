use Rattle.std.proofs.Common.{◌∙◌, ap, length}
use Rattle.thy_isa.specs.Step.{State}
use Rattle.thy_plain.specs.Held.{state_at}
use Rattle.thy_plain.specs.Machine.{setting_of}
use Rattle.thy_plain.proofs.StepLemmas.{advanced-size}
use Rattle.thy_plain.proofs.advance.take_step.Goals as goal

pub returns-then-is_running-clause-size : goal.returns-then-is_running-clause-size
returns-then-is_running-clause-size c =
    ap (λ (s : State). length s.memory) c.advance.ensures.state
    ∙ advanced-size (setting_of c.args.setup.now) (state_at c.args.hart c.args.state.now)
