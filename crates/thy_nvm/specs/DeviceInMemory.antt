-- How a device lies in memory, and what its calls leave.
use Rattle.std.specs.Prelude.{◌≡◌, ℕ, ◌+◌, ◌/◌, Bool, true, false, List, length, Option, Some, None, is_some, Result, is_err, MatchResult, ⊤}
use Rattle.thy_block.specs.declared.block.Block.{Block}
use Rattle.thy_block.specs.declared.nvm.FitError.{FitError}
use Rattle.thy_block.specs.declared.nvm.NvmError.{NvmError}
use Rattle.thy_block.specs.declared.nvm.Shape.{Shape}
use Rattle.thy_block.specs.Counts.{next}
use Rattle.thy_block.specs.Device.{Device, landed, written_to, fitted}
use Rattle.thy_dram.specs.Held.{Held, nothing, made, device_of}
use Rattle.thy_nvm.specs.declared.call_faults.Fault.{Fault}
use Rattle.thy_nvm.specs.declared.call_faults.Fault.TheVariants.{Undone, Late}
use Rattle.thy_nvm.specs.Calls.{Calls, no_calls, counted, next_fault}
use Rattle.thy_nvm.specs.Kept.{Cuts, no_cuts}

-- the device that lies in these parts, is up or down, has these counts of faults and fits, whose blocks land whole or not, and
-- which has taken this number of writes
abbrev pub device_in : Held → Cuts → Bool → ℕ → ℕ → Bool → ℕ → Device
device_in held cuts down faults fits whole writes = record (device_of held) {
  left = cuts.left;
  picks = cuts.picks;
  left_room = cuts.room;
  down = down;
  faults = faults;
  fits = fits;
  whole = whole;
  writes = writes;
}

-- a device in memory, with its count of calls, and which of these fail
pub record InMemory : Type 0 where
  pub device : Device
  pub calls : Calls

abbrev pub in_memory : Device → Calls → InMemory
in_memory device calls = record { device = device; calls = calls }

-- a device before it is fitted, whose blocks land whole or not, whose calls of these numbers will do nothing, and of those
-- fail late
abbrev pub fresh_device : Bool → List ℕ → List ℕ → InMemory
fresh_device whole failing late = in_memory (device_in nothing (no_cuts 0 0) false 0 0 whole 0) (no_calls failing late)

-- a device in memory after a call that changes its meaning to this
abbrev pub with_device : InMemory → Device → InMemory
with_device m n = record m { device = n }

-- a device in memory after a call that changes its meaning by this function
abbrev pub on_device : (Device → Device) → InMemory → InMemory
on_device call m = with_device m (call m.device)

-- a device in memory after a fit
abbrev pub refitted : Shape → List Block → InMemory → InMemory
refitted shape start m = with_device m (fitted shape start m.device)

-- after a fit for which there was not enough memory
abbrev pub fit_refused : InMemory → InMemory
fit_refused m = with_device m (record m.device { fits = next m.device.fits })

-- a fit leaves one of these two
abbrev pub IsFit : Shape → List Block → InMemory → Result ⊤ FitError → InMemory → Type 0
IsFit shape start old result new = MatchResult result (λ _. new ≡ refitted shape start old) (λ _. new ≡ fit_refused old)

-- the parts of a device of a shape that begins with these blocks
pub record IsFresh (shape : Shape) (start : List Block) (held : Held) (cuts : Cuts) : Type 0 where
  pub blocks : held ≡ made shape.blocks shape.queue start
  pub cuts_to_come : cuts ≡ no_cuts shape.blocks (shape.cuts + 1)

-- a device in memory after a write
abbrev pub written : ℕ → Block → InMemory → InMemory
written at block m = with_device m (written_to m.device at block)

-- the meaning of a device after a write that fails late: it is queued, and not counted
abbrev pub with_write : ℕ → Block → Device → Device
with_write at block n = record (written_to n at block) { writes = n.writes; wear = n.wear }

-- after the older half of a queue, rounded down, has landed
abbrev pub half_settled : Device → Device
half_settled n = landed (length n.queue / 2) n

-- a device after a call that failed
abbrev pub failed : Device → Device
failed n = record n { down = true; faults = next n.faults }

-- what a call with this fault leaves; the two functions are what it does without a fault, and with a late one
abbrev pub left_after : Option Fault → (InMemory → InMemory) → (Device → Device) → InMemory → InMemory
left_after None done late m = done m
left_after (Some Undone) done late m = with_device m (failed m.device)
left_after (Some Late) done late m = with_device m (failed (late m.device))

-- A call does `done`; if it fails late it does `late`, and if it fails otherwise nothing.
pub record IsCall {T : Type 0} (done : InMemory → InMemory) (late : Device → Device)
    (old : InMemory) (result : Result T NvmError) (new : InMemory) : Type 0 where
  -- the call fails exactly if its number is listed
  pub fails : is_err result ≡ is_some (next_fault old.calls)
  -- a call is counted whether or not it fails
  pub leaves : new ≡ left_after (next_fault old.calls) done late (record old { calls = counted old.calls })
