-- Part of the claim.
-- The migration: a checkpoint of an older form is written again, in the form that is written today. The round writes the slot of
-- its epoch, and the commit block of the same epoch.
use Rattle.std.specs.Prelude.{◌≡◌, ℕ, ◌-◌, ◌*◌, false, List, ◌++◌, length, take, replicate, Option, Some, None}
use Rattle.thy_block.specs.Device.{Device, block_at}
use Rattle.thy_layout.specs.Layout.{memory_places}
use Rattle.thy_computer.specs.declared.round.Round.{Round}
use Rattle.thy_computer.specs.declared.round.Round.TheVariants.{Confirm}
use Rattle.thy_computer.specs.Issuing.{CheckpointParts}
use Rattle.thy_computer.specs.Round.{RoundWrites, IsInRound, round_action, next_round}
use Rattle.thy_computer.specs.Rounds.{slot_writes}
use Rattle.thy_computer.specs.Action.{IsAfter}
use Rattle.thy_checkpoint.specs.declared.boot_stage.Stage.{Stage}
use Rattle.thy_checkpoint.specs.declared.boot_stage.Stage.TheVariants.{Migrates, Over}
use Rattle.thy_checkpoint.specs.declared.boot_stage.End.TheVariants.{Restored}
use Rattle.thy_checkpoint.specs.Boot.{Booting, layout_in, slot_read, at_stage}
use Rattle.thy_checkpoint.specs.Filling.{FillingOf, anew}

-- where a migrated checkpoint goes: the slot of its epoch that is written today gets the blocks of the slot that was
-- found, and then zeros; memory's blocks stay where they are
abbrev pub renewed_parts : {C : Type 0} → FillingOf C → Booting → CheckpointParts
renewed_parts F b = record {
  slot_place = (layout_in F b).slot_place (anew b.commit);
  slot_blocks = (layout_in F b).slot_blocks (anew b.commit);
  slot = block_at (slot_read F b);
  memory = memory_places (layout_in F b) b.commit (slot_read F b);
}

-- the commit block is of the same epoch
abbrev pub renewing : {C : Type 0} → FillingOf C → Booting → RoundWrites
renewing F b = slot_writes (renewed_parts F b) (anew b.commit)

-- the stage after an action
abbrev pub migrates_on : Option Round → Stage
migrates_on (Some r) = Migrates r
migrates_on None = Over Restored

-- bytes, with zeros from one on
abbrev pub cleared : ℕ → List ℕ → List ℕ
cleared from bytes = take from bytes ++ replicate (length bytes - from) 0

-- the boot with the commit block and the slot that were written, as if it had read these
abbrev pub renewed : {C : Type 0} → FillingOf C → Booting → Booting
renewed F b = record b { commit = anew b.commit; slot = cleared (64 * (layout_in F b).slot_blocks b.commit) b.slot }

-- the boot has the new commit block and slot after the migration's last action
abbrev pub renewed_by : {C : Type 0} → FillingOf C → Round → Booting → Booting
renewed_by F Confirm b = renewed F b
renewed_by F r b = b

-- the boot after an action
abbrev pub migrated_by : {C : Type 0} → FillingOf C → Round → Booting → Booting
migrated_by F r b = at_stage (migrates_on (next_round (renewing F b).blocks r)) (renewed_by F r b)

-- a migration may take its action: what is written is there, and the device is of the size, and up
pub record CanMigrate {C : Type 0} (F : FillingOf C) (r : Round) (n : Device) (b : Booting) : Type 0 where
  pub there : IsInRound (renewing F b).blocks r
  pub sized : length n.image ≡ (layout_in F b).image_blocks
  pub up : n.down ≡ false

-- a migration took its action
pub record MigratesOn {C : Type 0} (F : FillingOf C) (r : Round) (n : Device) (b : Booting) (c : C) (m : Device) (d : Booting)
    (e : C) : Type 0 where
  pub device : IsAfter (round_action (renewing F b) r) n m
  pub boot : d ≡ migrated_by F r b
  pub control : e ≡ c
