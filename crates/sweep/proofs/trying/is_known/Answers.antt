use Rattle.std.proofs.Common.{Option, sym, ◌∙◌, subst}
use Rattle.thy_sweep.specs.declared.trial.part.Restored.{Restored}
use Rattle.sweep.specs.Findings.{IsKnownBy}
use Rattle.sweep.proofs.trying.is_known.Goals as goal

pub returns-in-Some : goal.returns-in-Some
returns-in-Some c = λ e.
    subst (λ (o : Option Restored). IsKnownBy c.args.beside.now c.args.found.now.booted o) (sym c.in-Some.is) (c.has.ensures e)

pub returns-in-None : goal.returns-in-None
returns-in-None c = λ e.
    subst (λ (o : Option Restored). IsKnownBy c.args.beside.now c.args.found.now.booted o) (sym c.in-None.is) (sym c.is_load.ensures ∙ e)
