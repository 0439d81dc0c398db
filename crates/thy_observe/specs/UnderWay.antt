-- What counts as a checkpoint under way is one of the run's.
use Rattle.std.specs.Prelude.{◌≡◌, ℕ, false, ◌&&◌, not, is_some, List}
use Rattle.thy_computer.specs.Kind.{KindOf}
use Rattle.thy_computer.specs.Origin.{Origin}
use Rattle.thy_computer.specs.Views.{is_boot}
use Rattle.thy_run.specs.Watching.{Taken, IsListed}
use Rattle.thy_run.specs.World.{World, Given, seen}
use Rattle.thy_observe.specs.Causes.{under_way_after}

-- after any cycle of a run, a checkpoint is under way if the machine is not in a boot, and has one that is sealed
abbrev pub KnowsUnderWay : {M : Type 0} → KindOf M → Type 0
KnowsUnderWay {M = M} K =
    (o : Origin) (given : Given) (k : ℕ) (w : World M) (cycles : List Taken)
    → IsListed K o given k w cycles
    → under_way_after false cycles ≡ (not (is_boot (seen K o w).phase) && is_some (seen K o w).sealed)
