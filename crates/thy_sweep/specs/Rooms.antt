-- Images that a cut can leave of a run's device in memory, tried one after another.
use Rattle.std.specs.Prelude.{◌≡◌, ℕ, ◌-◌, ◌<◌, ◌^◌, min, true, false, List, [], ◌∷◌, ◌++◌, length, Option, Some, None, Result, IfOk, IfSome}
use Rattle.thy_block.specs.declared.block.Block.{Block}
use Rattle.thy_block.specs.declared.mix.Mix.{Mix}
use Rattle.thy_block.specs.Device.{Device}
use Rattle.thy_nvm.specs.Calls.{is_listed}
use Rattle.thy_nvm.specs.Pick.{picked}
use Rattle.thy_run.specs.declared.plan.Plan.{Plan}
use Rattle.thy_run.specs.Going.{origin_of}
use Rattle.thy_run.specs.World.{World, line}
use Rattle.thy_sweep.specs.Choices.{number_of, places_of}
use Rattle.thy_sweep.specs.declared.trial.part.Part.{Part}
use Rattle.thy_sweep.specs.declared.trial.room.Found.{Found}
use Rattle.thy_sweep.specs.declared.trial.room.Room.{Room}
use Rattle.thy_sweep.specs.declared.trial.room.Trial.{Trial}
use Rattle.thy_sweep.specs.declared.trial.room.PickTrial.{PickTrial}
use Rattle.thy_sweep.specs.Trials.{FewBefore, IsTried}
use Rattle.thy_computer.specs.declared.error.CoreError.{CoreError}
use Rattle.thy_computer.specs.Kind.{KindOf, IsDramOf}
use Rattle.thy_computer.specs.Origin.{Origin}

-- there is room for a copy of a device in memory, and for a machine of a plan
pub record HasRoomFor (plan : Plan) (n : Device) (room : Room) : Type 0 where
  pub dram : IsDramOf plan.geometry room.dram
  pub blocks : room.spare.blocks ≡ length n.image
  pub queue : room.spare.queue ≡ n.queue_room
  pub cuts : room.spare.cuts < 2 ^ 64

-- a run is here, with this device and this schedule
pub record IsRunAt {M : Type 0} (K : KindOf M) (o : Origin) (w : World M) (n : Device) (schedule : Mix) : Type 0 where
  pub at_moment : K.is_at (line o w) w.cycles w.machine w.device
  pub device : w.device ≡ n
  pub mix : w.mix ≡ schedule

-- a run is here, with this device, which has blocks, and has cycles left for a boot
abbrev pub CanTryOf : {M : Type 0} → KindOf M → Plan → Device → Mix → ℕ → Type 0
CanTryOf {M = M} K plan n mix most =
    (w : World M) × IsRunAt K (origin_of plan) w n mix × FewBefore w most × (0 < length n.image)

-- what it came to, from each run that is here, to try this image
abbrev pub TriesOf : {M : Type 0} → KindOf M → Plan → ℕ → Part → Device → List Block → Mix → ℕ → Result Trial CoreError → Type 0
TriesOf {M = M} K plan pick part n g mix most result =
    (w : World M) → IsRunAt K (origin_of plan) w n mix → FewBefore w most
    → IfOk result (λ t. IsTried K (origin_of plan) pick part g w most t.found.booted t.found.state)

-- there is room again for a copy of a device in memory, as this copy had
pub record GivesBack (plan : Plan) (copy : Device) (room : Room) : Type 0 where
  pub dram : IsDramOf plan.geometry room.dram
  pub blocks : room.spare.blocks ≡ length copy.image
  pub queue : room.spare.queue ≡ copy.queue_room
  pub cuts : room.spare.cuts ≡ copy.left_room

-- what it came to to try an image, unless it had been tried before
abbrev pub TriesNew : {M : Type 0} → KindOf M → Plan → ℕ → Part → Device → List Block → Mix → ℕ → Result PickTrial CoreError → Type 0
TriesNew {M = M} K plan pick part n g mix most result =
    (w : World M) → IsRunAt K (origin_of plan) w n mix → FewBefore w most
    → IfOk result (λ t. IfSome t.found (λ f. IsTried K (origin_of plan) pick part g w most f.booted f.state))

-- the number of an image among those that a cut can leave, as it is counted
abbrev pub counted_at : Device → List Block → ℕ
counted_at n g = min (number_of (places_of n) g) (2 ^ 128 - 1)

-- the number of the image that a pick leaves
abbrev pub number_by : ℕ → Device → ℕ
number_by pick n = counted_at n (picked n.whole pick n.image n.queue)

-- The number of a pick's image is listed once that was tried. It is not tried if its number was listed and blocks land whole.
abbrev pub ListsPick : ℕ → Device → List ℕ → List ℕ → Option Found → Type 0
ListsPick pick n old new None = (new ≡ old) × (is_listed (number_by pick n) old ≡ true)
ListsPick pick n old new (Some f) =
    (new ≡ old ++ number_by pick n ∷ []) × (n.whole ≡ true → is_listed (number_by pick n) old ≡ false)
