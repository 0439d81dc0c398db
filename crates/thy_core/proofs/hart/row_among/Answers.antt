use Rattle.std.proofs.Common.{ℕ, sym, subst}
use Rattle.thy_computer.specs.NextActor.{Advances}
use Rattle.thy_core.specs.Cycles.{HasStart, CanTake}
use Rattle.thy_core.specs.MachineParts.{machine_of}
use Rattle.thy_core.proofs.hart.row_among.Goals as goal

pub row_of-requires-clause-turn : goal.row_of-requires-clause-turn
row_of-requires-clause-turn g c =
    subst (λ (hart : ℕ). CanTake g.S.Scheme.scheme (HasStart c.args.start.now) (Advances hart) (machine_of c.args.m.now) (g.N.Nvm.device c.args.nvm.now)) (sym c.hart_of-hart.ensures) c.requires.turn

pub returns-clause-steps : goal.returns-clause-steps
returns-clause-steps g c = c.row_of.ensures.steps c.args.pick (sym c.hart_of-hart.ensures)
