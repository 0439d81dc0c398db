-- What is executed again is what the run has executed.
use Rattle.std.specs.Prelude.{◌≡◌, ℕ, ◌+◌, ◌≤◌, false, not, List, length, take}
use Rattle.thy_base.specs.Config.{IsRising}
use Rattle.thy_computer.specs.Kind.{KindOf}
use Rattle.thy_computer.specs.Origin.{Origin, at, setting_of}
use Rattle.thy_computer.specs.Views.{is_boot}
use Rattle.thy_run.specs.Watching.{Taken, IsListed}
use Rattle.thy_run.specs.World.{World, Given, line, seen}
use Rattle.thy_observe.specs.Changes.{changes_of}
use Rattle.thy_observe.specs.Replaying.{executed, state_after}

-- After any cycle of a run, outside a boot, the machine is at the count of the state that is executed then; this is the plain
-- machine's at that count, by the run's own turns. So are the states before it.
pub record IsExecuted {M : Type 0} (K : KindOf M) (o : Origin) (w : World M) (harts : List ℕ) : Type 0 where
  pub state : state_after (setting_of o) o.start harts ≡ at (line o w) (seen K o w).count
  pub earlier : (k : ℕ) → k ≤ length harts → state_after (setting_of o) o.start (take k harts) ≡ at (line o w) (o.start.count + k)

abbrev pub FollowsRuns : {M : Type 0} → KindOf M → Type 0
FollowsRuns {M = M} K =
    (o : Origin) (given : Given) (k : ℕ) (w : World M) (cycles : List Taken)
    → 1 ≤ o.geometry.epoch → IsRising 0 given.config.cuts → IsListed K o given k w cycles
    → is_boot (seen K o w).phase ≡ false → IsExecuted K o w (executed (setting_of o) o.start (changes_of cycles)).harts

-- after any cycle of a run, the machine is up if it is not in a boot
abbrev pub KnowsBoots : {M : Type 0} → KindOf M → Type 0
KnowsBoots {M = M} K =
    (o : Origin) (given : Given) (k : ℕ) (w : World M) (cycles : List Taken)
    → IsListed K o given k w cycles → (executed (setting_of o) o.start (changes_of cycles)).up ≡ not (is_boot (seen K o w).phase)
