use Rattle.std.proofs.Common.{sym, ◌∙◌, ap}
use Rattle.thy_hart.specs.InHand.{hart_state_of}
use Rattle.thy_hart.specs.Outcomes.{begun_with}
use Rattle.thy_hart.proofs.micro_steps.HartParts.begin.Goals as goal

pub returns-in-Next-clause-hart : goal.returns-in-Next-clause-hart
returns-in-Next-clause-hart c =
    c.begin_jump.ensures.hart c.args.input.now
    ∙ ap (λ e. begun_with c.args.input.now e (hart_state_of c.args.self.now)) (sym c.in-Next.is)

pub returns-in-Set-clause-hart : goal.returns-in-Set-clause-hart
returns-in-Set-clause-hart c =
    c.begin_set.ensures.hart c.args.input.now
    ∙ ap (λ e. begun_with c.args.input.now e (hart_state_of c.args.self.now)) (sym c.in-Set.is)
