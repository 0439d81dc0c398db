use Rattle.std.proofs.Common.{◌≡◌, true, sym, subst}
use Rattle.thy_sweep.specs.declared.trial.part.Part.{Part}
use Rattle.sweep.specs.Findings.{AreSame}
use Rattle.sweep.proofs.compared.are_same.Goals as goal

pub returns-in-State : goal.returns-in-State
returns-in-State c =
    subst (λ (part : Part). c.are_same_states.result ≡ true → AreSame part c.args.a.now c.args.b.now) (sym c.in-State.is) c.are_same_states.ensures

pub returns-in-Processor : goal.returns-in-Processor
returns-in-Processor c =
    subst (λ (part : Part). c.are_same_processors.result ≡ true → AreSame part c.args.a.now c.args.b.now) (sym c.in-Processor.is) c.are_same_processors.ensures
