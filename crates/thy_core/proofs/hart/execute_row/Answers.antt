use Rattle.std.proofs.Common.{◌≡◌, ℕ, Bool, if◌then◌else◌, ap, subst}
use Rattle.std.specs.Prelude.{unwrap_or}
use Rattle.std.proofs.lemmas.Bool.{eq-eqb}
use Rattle.thy_block.specs.declared.mix.Pick.{Pick}
use Rattle.thy_computer.specs.NextActor.{Advances, begins}
use Rattle.thy_scheme.specs.Machine.{Machine}
use Rattle.thy_scheme.specs.Scheme.{SchemeOf}
use Rattle.thy_core.specs.Cycles.{HasStart, CanTake}
use Rattle.thy_core.specs.MachineParts.{machine_of}
use Rattle.thy_core.specs.Turns.{hart_of}
use Rattle.thy_core.proofs.hart.execute_row.Goals as goal

-- each pick comes to the hart that is alone
its_own : {S : Type 0} (K : SchemeOf S) (pick : Pick) (m : Machine S) → m.hart.geometry.harts ≡ 1 → hart_of K pick m ≡ 0
its_own K pick m one = ap (λ (alone : Bool). if alone then 0 else unwrap_or m.begun (begins pick m.last)) (eq-eqb m.hart.geometry.harts 1 one)

pub row_of-requires-clause-turn : goal.row_of-requires-clause-turn
row_of-requires-clause-turn g c =
    subst (λ (hart : ℕ). CanTake g.S.Scheme.scheme (HasStart c.args.start.now) (Advances hart) (machine_of c.args.m.now)
    (g.N.Nvm.device c.args.nvm.now))
    (its_own g.S.Scheme.scheme c.args.pick (machine_of c.args.m.now) (c.is_single.ensures.one c.if-is_single.true)) c.requires.turn

pub row_of-requires-clause-alone : goal.row_of-requires-clause-alone
row_of-requires-clause-alone g c = λ yes. c.is_single.ensures.alone c.if-is_single.true

pub returns-then-is_single-clause-steps : goal.returns-then-is_single-clause-steps
returns-then-is_single-clause-steps g c =
    c.row_of.ensures.steps c.args.pick
    (its_own g.S.Scheme.scheme c.args.pick (machine_of c.args.m.now) (c.is_single.ensures.one c.if-is_single.true))
