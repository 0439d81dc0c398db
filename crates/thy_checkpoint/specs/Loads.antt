-- Part of the claim.
-- Loading: the round that writes the start's checkpoint.
use Rattle.std.specs.Prelude.{◌≡◌, ℕ, ◌+◌, ◌-◌, nat_lt, false, if◌then◌else◌, length, slice_index_or, Option, Some, None, Result, OnOk, OnErr}
use Rattle.thy_block.specs.declared.block.Block.{Block}
use Rattle.thy_block.specs.declared.nvm.NvmError.{NvmError}
use Rattle.thy_block.specs.Device.{Device, block_at, IsFramed, CountsFault}
use Rattle.thy_block.specs.Places.{header_place}
use Rattle.thy_isa.specs.Step.{State}
use Rattle.thy_computer.specs.declared.round.Round.{Round}
use Rattle.thy_computer.specs.Round.{RoundWrites, IsInRound}
use Rattle.thy_computer.specs.Action.{Action, IsAfter, FailsTo}
use Rattle.thy_checkpoint.specs.declared.boot_stage.Stage.{Stage}
use Rattle.thy_checkpoint.specs.declared.boot_stage.Stage.TheVariants.{Loads, Over}
use Rattle.thy_checkpoint.specs.declared.boot_stage.End.TheVariants.{Loaded}
use Rattle.thy_checkpoint.specs.Boot.{Booting, layout_in}
use Rattle.thy_checkpoint.specs.Filling.{FillingOf, First, first_by}
use Rattle.thy_checkpoint.specs.Start.{CanStart}

-- the element at place k of m first ones, then s second ones, and one last
abbrev pub part_at : {A : Type 0} → ℕ → ℕ → (ℕ → A) → (ℕ → A) → A → ℕ → A
part_at m s first second last k = if nat_lt k m then first k else (if nat_lt (k - m) s then second (k - m) else last)

-- the first checkpoint's writes are memory's blocks, then the slot's, and the header: the place of block k of these,
-- and that block
abbrev pub place_of_first : First → ℕ → ℕ
place_of_first f k =
    part_at (length f.parts.memory) f.parts.slot_blocks (λ b. slice_index_or f.parts.memory b 0) (λ j. f.parts.slot_place + j) header_place k

abbrev pub block_of_first : First → ℕ → Block
block_of_first f k = part_at (length f.parts.memory) f.parts.slot_blocks (block_at f.memory) f.parts.slot f.header k

abbrev pub first_writes : First → RoundWrites
first_writes f = record {
  blocks = length f.parts.memory + f.parts.slot_blocks + 1;
  place = place_of_first f;
  block = block_of_first f;
  commit = f.commit;
}

-- the stage after an action
abbrev pub loads_on : Option Round → Stage
loads_on (Some r) = Loads r
loads_on None = Over Loaded

-- loading may take an action: the start can be recorded, what is written is there, and the device is of the size, and up
pub record CanLoad {C : Type 0} (F : FillingOf C) (s : State) (r : Round) (n : Device) (b : Booting) : Type 0 where
  pub start : CanStart b.p s
  pub there : IsInRound (first_writes (first_by F b.p s)).blocks r
  pub sized : length n.image ≡ (layout_in F b).image_blocks
  pub up : n.down ≡ false

-- an action was taken, or it failed
pub record Takes {T : Type 0} (action : Action) (result : Result T NvmError) (old new : Device) : Type 0 where
  pub ok : OnOk result (IsAfter action old new)
  pub err : OnErr result (FailsTo action old new)
  pub frame : IsFramed old new
  pub cause : CountsFault result old.faults new.faults
