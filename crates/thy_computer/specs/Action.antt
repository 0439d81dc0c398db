-- Part of the claim.
-- What a cycle asks of the device, and what that leaves.
use Rattle.std.specs.Prelude.{◌≡◌, ◌≢◌, ℕ, ◌==◌, ◌||◌, Bool, true, false, if◌then◌else◌, Option, None}
use Rattle.thy_block.specs.declared.block.Block.{Block}
use Rattle.thy_block.specs.declared.mark.Mark.{Mark}
use Rattle.thy_layout.specs.declared.engine_step.EngineStep.TheVariants.{Barrier as EngineBarrier, CommitWritten}
use Rattle.thy_computer.specs.declared.did.Did.{Did}
use Rattle.thy_computer.specs.declared.did.Did.TheVariants.{Boot, Loaded, Restarted, Refused, Moved, Flushed, Promoted, Engine, Committed, NvmDrained}
use Rattle.thy_computer.specs.declared.view.View.{View}
use Rattle.thy_block.specs.Device.{Device, written_to, settled, drained, IsSettled, HasFailed, HasFailedToSettle, HasFailedToWrite}
use Rattle.thy_block.specs.Places.{commit_place}

pub data Action : Type 0 where
  -- no call of the device
  Rest : Action
  ReadAt : (place : ℕ) → Action
  WriteAt : (place : ℕ) (block : Block) → Action
  Barrier : Action
  Drain : Action

-- the device after an action that succeeded, and with this count of writes if that was a barrier
abbrev pub after : ℕ → Action → Device → Device
after count Rest n = n
after count (ReadAt place) n = n
after count (WriteAt place block) n = written_to n place block
after count Barrier n = settled count n
after count Drain n = drained n

-- a device is as an action leaves it, whatever it counts
abbrev pub IsLeftBy : Action → Device → Device → Type 0
IsLeftBy action n new = new ≡ after new.writes action n

-- a device is as an action leaves it that succeeded
abbrev pub IsAfter : Action → Device → Device → Type 0
IsAfter Barrier n new = IsSettled n new
IsAfter action n new = IsLeftBy action n new

-- the device after an action that failed
abbrev pub FailsTo : Action → Device → Device → Type 0
FailsTo Rest old new = ⊥
FailsTo (WriteAt place block) old new = HasFailedToWrite place block old new
FailsTo Barrier old new = HasFailedToSettle old new
FailsTo action old new = HasFailed old new

-- an action neither lets writes land nor waits for them, and leaves the commit block alone
abbrev pub IsAccess : Action → Type 0
IsAccess Barrier = ⊥
IsAccess Drain = ⊥
IsAccess (WriteAt place block) = place ≢ commit_place
IsAccess action = Unit {0}

-- an action leaves the device as it is, or reads it
abbrev pub IsRead : Action → Type 0
IsRead Rest = Unit {0}
IsRead (ReadAt place) = Unit {0}
IsRead action = ⊥

-- an action lets writes land only by a barrier
abbrev pub IsBootAction : Action → Type 0
IsBootAction Drain = ⊥
IsBootAction action = Unit {0}

-- the end of a restart: it reads, or, if the machine migrates, may let all that its boot wrote land
abbrev pub EndsRestart : Bool → Action → Type 0
EndsRestart true Barrier = Unit {0}
EndsRestart migrates action = IsRead action

-- What a cycle that did this asks, of a machine that migrates or does not: at most one write, which a read may
-- precede. The commit block is written by the engine, and in a boot.
abbrev pub AsksBy : Bool → Did → Action → Type 0
AsksBy migrates NvmDrained action = action ≡ Drain
AsksBy migrates Loaded action = action ≡ Barrier
AsksBy migrates (Committed epoch overlapped) action = action ≡ Barrier
AsksBy migrates (Engine EngineBarrier) action = action ≡ Barrier
AsksBy migrates (Engine CommitWritten) action = (block : Block) × (action ≡ WriteAt commit_place block)
AsksBy migrates (Engine step) action = IsAccess action
AsksBy migrates Moved action = IsAccess action
AsksBy migrates Flushed action = IsAccess action
AsksBy migrates Promoted action = IsAccess action
AsksBy migrates Boot action = IsBootAction action
AsksBy migrates (Restarted epoch count) action = EndsRestart migrates action
AsksBy migrates (Refused bad) action = IsRead action
AsksBy migrates did action = action ≡ Rest

-- what a cycle that did this asks, of a machine that does not migrate
abbrev pub Asks : Did → Action → Type 0
Asks did action = AsksBy false did action

-- a cycle that did this acted on the device once
pub record ActsBy (migrates : Bool) (did : Did) (n new : Device) : Type 0 where
  pub action : Action
  pub asked : AsksBy migrates did action
  pub left : IsAfter action n new

abbrev pub Acts : Did → Device → Device → Type 0
Acts did n new = ActsBy false did n new

-- a cycle that was to do this failed in its action
pub record ActionFailedBy (migrates : Bool) (did : Did) (n new : Device) : Type 0 where
  pub action : Action
  pub asked : AsksBy migrates did action
  pub failed : FailsTo action n new

abbrev pub ActionFailed : Did → Device → Device → Type 0
ActionFailed did n new = ActionFailedBy false did n new

-- an action writes the commit block
abbrev pub is_commit_write : Action → Bool
is_commit_write (WriteAt place block) = place == commit_place
is_commit_write action = false

-- The mark that a cut may leave instead of the one done, after an action that failed: the sealed one, if the action
-- was the commit block's write, or that block was written before and no barrier has come since.
abbrev pub doubt_after_fault : Action → View → Option Mark
doubt_after_fault action v = if is_commit_write action || v.written then v.sealed else None
