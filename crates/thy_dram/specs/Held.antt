-- What a ring holds, and how it lies in memory.
use Rattle.std.specs.Prelude.{ℕ, ◌<◌, true, false, List, [], length, slice_index_or, slice_set, All, Option, Some, None}
use Rattle.circular_buffer.specs.Buffer.{Buffer}
use Rattle.thy_block.specs.declared.block.Block.{Block}
use Rattle.thy_block.specs.declared.nvm.Write.{Write}
use Rattle.thy_block.specs.Device.{Device, Plain, block_at, possible, surplus, fitted}

pub record Held : Type 0 where
  -- the blocks without the queued writes
  pub image : List Block
  -- the writes that have not landed yet, oldest first
  pub queue : List Write
  -- how many writes the queue holds
  pub room : ℕ

-- an image of no blocks, and no room for writes
abbrev pub nothing : Held
nothing = record { image = []; queue = []; room = 0 }

-- a plain device whose blocks land whole, which holds these, has kept nothing, and was never fitted or written
abbrev pub device_of : Held → Device
device_of r = record {
  image = r.image;
  queue = r.queue;
  left = [];
  picks = [];
  queue_room = r.room;
  left_room = 0;
  down = false;
  faults = 0;
  fits = 0;
  lent = [];
  whole = true;
  writes = 0;
  wear = Plain;
}

-- the image, the queue and the room of a device
abbrev pub held_by : Device → Held
held_by n = record { image = n.image; queue = n.queue; room = n.queue_room }

-- what a device that holds the same as a ring holds after this call
abbrev pub as_device : (Device → Device) → Held → Held
as_device call r = held_by (call (device_of r))

-- a ring of this many blocks, which begins with a start's and continues with zeros, and room for this many writes
abbrev pub made : ℕ → ℕ → List Block → Held
made blocks room start = as_device (fitted (record { blocks = blocks; queue = room; cuts = 0 }) start) nothing

-- of the image's block at a place and the blocks queued for it, oldest first, the one at an index
abbrev pub choice_at : Held → ℕ → ℕ → Block
choice_at r at index = slice_index_or (possible (device_of r) at) index (block_at r.image at)

-- after a block was put at a place, whatever is queued
abbrev pub put_at : Held → ℕ → Block → Held
put_at r at block = record r { image = slice_set r.image at block }

-- a ring after its queue was lost
abbrev pub unqueued : Held → Held
unqueued r = record r { queue = [] }

-- the writes of a queue; there are none without a queue
abbrev pub queued_in : Option (Buffer Write) → List Write
queued_in None = []
queued_in (Some queue) = queue.items

-- how many writes a queue can hold
abbrev pub room_in : Option (Buffer Write) → ℕ
room_in None = 0
room_in (Some queue) = queue.capacity

-- what the parts of a ring hold
abbrev pub held_in : List Block → Option (Buffer Write) → Held
held_in image queue = record { image = image; queue = queued_in queue; room = room_in queue }

-- how many writes have to land before one more is queued
abbrev pub due_in : Option (Buffer Write) → ℕ
due_in queue = surplus (device_of (held_in [] queue))

-- what holds of the parts
pub record IsSoundRing (image : List Block) (queue : Option (Buffer Write)) : Type 0 where
  -- every queued write is for a place of the image
  pub placed : All (λ (w : Write). w.at < length image) (queued_in queue)
  -- a ring with blocks has room for a write
  pub some_room : 0 < length image → 0 < room_in queue
