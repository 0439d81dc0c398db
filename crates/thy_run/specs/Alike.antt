-- A run is determined by what it is given and what its cuts left: two runs of the same rules are one.
use Rattle.std.specs.Prelude.{◌≡◌, ℕ, ◌<◌, true, List, [], length, slice_index_or}
use Rattle.thy_base.specs.Config.{IsRising}
use Rattle.thy_block.specs.Device.{says}
use Rattle.thy_block.specs.declared.block.Block.{Block}
use Rattle.thy_computer.specs.Kind.{KindOf}
use Rattle.thy_computer.specs.Origin.{Origin, IsOrigin}
use Rattle.thy_run.specs.Watching.{Taken, IsListed}
use Rattle.thy_run.specs.World.{World, Given, Ran}

-- cuts left the same images, as far as power was cut in both
abbrev pub AreLeftAlike : List (List Block) → List (List Block) → Type 0
AreLeftAlike left other = (i : ℕ) → i < length left → i < length other → slice_index_or left i [] ≡ slice_index_or other i []

-- Two runs of one length, of the same program, configuration and device, have the same machine, device, events and turns, if
-- the device says what its barriers write. A device that does not has a count of its own.
abbrev pub TwoRunsAreOne : {M : Type 0} → KindOf M → Type 0
TwoRunsAreOne {M} K =
    (o : Origin) (given : Given) (k : ℕ) (v w : World M)
    → IsOrigin o → IsRising 0 given.config.cuts → says given.fitted.wear ≡ true → Ran K o given k v → Ran K o given k w → AreLeftAlike v.device.left w.device.left → v ≡ w

-- an observer sees the same cycles in both
abbrev pub TwoRunsShowOne : {M : Type 0} → KindOf M → Type 0
TwoRunsShowOne {M} K =
    (o : Origin) (given : Given) (k : ℕ) (v w : World M) (seen other : List Taken)
    → IsOrigin o → IsRising 0 given.config.cuts → says given.fitted.wear ≡ true → IsListed K o given k v seen → IsListed K o given k w other
    → AreLeftAlike v.device.left w.device.left → seen ≡ other
