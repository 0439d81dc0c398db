-- A step of a run, as one of what was seen before it.
use Rattle.std.proofs.Common.{◌≡◌, ℕ, ◌+◌, ◌≤◌, List, ◌++◌, sym, ap, subst}
use Rattle.thy_computer.specs.declared.view.View.{View}
use Rattle.thy_computer.specs.CoreStep.{CoreStep}
use Rattle.thy_computer.specs.Kind.{KindOf}
use Rattle.thy_computer.specs.Origin.{Origin}
use Rattle.thy_computer.specs.declared.view.Phase.TheVariants.{Run}
use Rattle.thy_computer.specs.WithTurns.{with_turns, reach}
use Rattle.thy_run.specs.World.{World, line, seen, turns_after, events_of, TakesStep}
use Rattle.thy_run.specs.Going.{HasItsTurns}
use Rattle.thy_run.proofs.TurnListLaws.{after_listed}

module _ {M : Type 0} (K : KindOf M) (o : Origin) (w x : World M) (step : TakesStep K o w x) where
  -- the step of the view
  pub core_of : CoreStep (line o x) (seen K o w) step.r.did (seen K o x)
  core_of = subst (λ (v : View). CoreStep (line o x) v step.r.did (seen K o x)) step.alike step.is_step.step

  -- the events of a step
  pub events_of_step : x.events ≡ w.events ++ events_of (line o x) w.fresh (seen K o w) step.r.did (seen K o x) (w.cycles + 1)
  events_of_step = ap (λ (y : World M). y.events) step.next_is

  -- the turns that are reported after a step reach the state that it came to
  pub listed_after : ((seen K o w).phase ≡ Run → o.start.count ≤ reach (seen K o w)) → HasItsTurns (line o w) (seen K o w)
      → HasItsTurns (line o x) (seen K o x)
  listed_after late all =
      let at_after : CoreStep (with_turns o (turns_after o.geometry.harts w.turns step.r.did)) (seen K o w) step.r.did (seen K o x) =
      subst (λ (t : List ℕ). CoreStep (with_turns o t) (seen K o w) step.r.did (seen K o x)) step.turns_are core_of in
      subst (λ (t : List ℕ). HasItsTurns (with_turns o t) (seen K o x)) (sym step.turns_are)
      (after_listed o w.turns (seen K o w) (seen K o x) step.r.did late all at_after)
