-- How a cycle is recognised that leaves the device as it was.
use Rattle.std.specs.Prelude.{◌≡◌, ◌⊎◌, ℕ, List, ◌∷◌}
use Rattle.thy_block.specs.declared.block.Block.{Block}
use Rattle.thy_block.specs.declared.nvm.Write.{Write}
use Rattle.thy_block.specs.Device.{Device, Settles, block_at, written_to, drained}

-- a block was written
pub record WasWritten (n new : Device) : Type 0 where
  pub at : ℕ
  pub block : Block
  pub left : new ≡ written_to n at block

-- a cycle acts on the device once, or not at all
abbrev pub ActedOnce : Device → Device → Type 0
ActedOnce n new = (new ≡ n) ⊎ (WasWritten n new ⊎ (Settles n new ⊎ (new ≡ drained n)))

-- the block that has landed at the place of the oldest queued write is the same
abbrev pub HasSameFirst : Device → Device → Type 0
HasSameFirst n new = (w : Write) (ws : List Write) → n.queue ≡ w ∷ ws → block_at new.image w.at ≡ block_at n.image w.at

-- a device with the counts of another one
abbrev pub recounted : Device → Device → Device
recounted n counts = record n { writes = counts.writes; wear = counts.wear }

-- a device is as it was but for what it counts, so a cut can leave what it could
abbrev pub IsAsBefore : Device → Device → Type 0
IsAsBefore n new = new ≡ recounted n new

-- if after that the queue is the same, and that block, all is
abbrev pub SameQueueIsSameDevice : Type 0
SameQueueIsSameDevice = (n new : Device) → ActedOnce n new → new.queue ≡ n.queue → HasSameFirst n new → IsAsBefore n new

-- this is the queue of a device, and this the block that has landed at the place of its oldest write, if it has one
pub record IsSeen (queue : List Write) (first : Block) (n : Device) : Type 0 where
  pub queued : n.queue ≡ queue
  pub landed : (w : Write) (ws : List Write) → queue ≡ w ∷ ws → first ≡ block_at n.image w.at

-- whatever device was seen with these, and was asked for one thing at most since, is as it was
abbrev pub StaysSince : List Write → Block → Device → Type 0
StaysSince queue first new = (n : Device) → IsSeen queue first n → ActedOnce n new → IsAsBefore n new
