use Rattle.std.proofs.Common.{◌≡◌, sym, ◌∙◌, subst}
use Rattle.thy_computer.specs.Kind.{IsDramOf}
use Rattle.thy_sweep.proofs.CopyLemmas.{IsDramOf-lost}
use Rattle.thy_sweep.proofs.trial.trial.power_over.Goals as goal

pub power_on-requires : goal.power_on-requires
power_on-requires g c =
    subst (IsDramOf c.args.plan.now.geometry) (sym c.cut.ensures) (IsDramOf-lost c.args.plan.now.geometry c.args.dram c.args.pick c.requires)

pub returns-in-Ok-clause-dram : goal.returns-in-Ok-clause-dram
returns-in-Ok-clause-dram g c = (c.args.dram, c.requires, c.in-Ok.ensures.dram ∙ c.cut.ensures)
