use Rattle.std.proofs.Common.{ℕ, ◌-◌, ◌∙◌, ap}
use Rattle.thy_block.specs.declared.parameters.Parameters.{Parameters}
use Rattle.thy_isa.specs.declared.instr.Width.{Width}
use Rattle.thy_isa.specs.declared.state.Effect.TheVariants.{Read}
use Rattle.thy_hart.specs.InHand.{hart_state_of}
use Rattle.thy_hart.specs.Outcomes.{begun_with}
use Rattle.thy_hart.proofs.micro_steps.HartParts.begin_load.Goals as goal

pub returns-in-Some-clause-hart : goal.returns-in-Some-clause-hart
returns-in-Some-clause-hart c =
    let access = rw c.in-Some.is at c.within_block.ensures.access in
    c.begin_access.ensures.hart c.args.input.now
    ∙ ap (λ (a : ℕ × Width). begun_with c.args.input.now (Read c.args.rd a.1 c.args.extend c.args.pc c.args.at) (hart_state_of c.args.self.now))
    (access ∙ ap (λ (p : Parameters). (c.args.at - p.base, c.args.width)) c.numbers.ensures.same)
