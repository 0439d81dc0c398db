-- While a machine over this scheme restores a checkpoint it writes nothing to the NVM, unless it migrates an image of
-- version 1; and then it writes the slot of the checkpoint's epoch in version 2, and block 1, alone.
use Rattle.std.specs.Prelude.{◌≡◌, ◌⊎◌, ℕ, ◌+◌, ◌<◌, true, false, Some}
use Rattle.thy_block.specs.declared.parameters.Parameters.{Parameters}
use Rattle.thy_layout.specs.declared.layout_version.LayoutVersion.TheVariants.{VersionOne, VersionTwo}
use Rattle.thy_block.specs.declared.mark.Mark.{Mark}
use Rattle.thy_block.specs.declared.mix.Pick.{Pick}
use Rattle.thy_block.specs.Device.{Device, HasFailed, block_at}
use Rattle.thy_block.specs.Places.{commit_place}
use Rattle.thy_table.specs.Places.{slot_blocks, slot_place}
use Rattle.thy_layout.specs.Commit.{version_of, slot_of_epoch}
use Rattle.thy_record.specs.Number.{scheme_number}
use Rattle.thy_control.specs.State.{State}
use Rattle.thy_computer.specs.declared.did.Did.{Did}
use Rattle.thy_computer.specs.declared.did.Stepped.{Stepped}
use Rattle.thy_computer.specs.declared.view.Phase.TheVariants.{Boot}
use Rattle.thy_computer.specs.Action.{Action, WriteAt, Barrier, Acts, ActionFailed}
use Rattle.thy_computer.specs.Kind.{IsStep, CycleFailed}
use Rattle.thy_computer.specs.Origin.{Origin}
use Rattle.thy_computer.specs.declared.round.Round.{Round}
use Rattle.thy_computer.specs.declared.round.Round.TheVariants.{Confirm}
use Rattle.thy_computer.specs.Round.{round_action}
use Rattle.thy_checkpoint.specs.declared.boot_stage.Stage.TheVariants.{Migrates}
use Rattle.thy_checkpoint.specs.Boot.{Booting}
use Rattle.thy_checkpoint.specs.Migrating.{renewing}
use Rattle.thy_scheme.specs.Kind.{kind_over}
use Rattle.thy_scheme.specs.Machine.{Machine, view_of}
use Rattle.thy_scheme_parts.specs.Boots.{Boots}
use Rattle.thy_scheme_parts.specs.Design.{Composed}
use Rattle.thy_thynvm_parts.specs.Filling.{filling_thynvm}
use Rattle.thy_thynvm_parts.specs.Design.{thynvm_design}
use Rattle.thy_thynvm_parts.specs.Scheme.{thynvm_scheme}

-- a step acts as a machine does whose restarts read, and in a boot that found a checkpoint it leaves the NVM as it was
pub record LeavesNvm (o : Origin) (m : Machine (Composed State)) (n new : Device) (did : Did) : Type 0 where
  pub acts : Acts did n new
  pub still : (found : Mark)
      → (view_of thynvm_scheme o m n).phase ≡ Boot → (view_of thynvm_scheme o m n).done ≡ Some found
      → new ≡ n

-- a step that failed acts as a machine's does whose restarts read; in a boot that found a checkpoint it wrote nothing
pub record WritesNothing (o : Origin) (m : Machine (Composed State)) (n new : Device) (did : Did) : Type 0 where
  pub failed : ActionFailed did n new
  pub still : (found : Mark)
      → (view_of thynvm_scheme o m n).phase ≡ Boot → (view_of thynvm_scheme o m n).done ≡ Some found
      → HasFailed n new

abbrev pub StepsLeaveNvm : Type 0
StepsLeaveNvm =
    (o : Origin) (k : ℕ) (pick : Pick) (m next : Machine (Composed State)) (n new : Device) (r : Stepped)
    → thynvm_scheme.migrates m.scheme ≡ false → IsStep (kind_over thynvm_scheme) o k pick m next n new r
    → LeavesNvm o m n new r.did

abbrev pub FailuresWriteNothing : Type 0
FailuresWriteNothing =
    (o : Origin) (pick : Pick) (m : Machine (Composed State)) (n new : Device)
    → thynvm_scheme.migrates m.scheme ≡ false
    → (c : CycleFailed (kind_over thynvm_scheme) o pick m n new)
    → WritesNothing o m n new c.did

-- a migration's own action, of the checkpoint of an epoch: a barrier, or a write of a block of that epoch's slot in
-- version 2 or of the commit block
abbrev pub IsOfMigration : Parameters → ℕ → Action → Type 0
IsOfMigration p epoch Barrier = Unit {0}
IsOfMigration p epoch (WriteAt place block) =
    (place ≡ commit_place) ⊎ ((k : ℕ) × (k < slot_blocks p) × (place ≡ slot_place p (slot_of_epoch epoch) + k))
IsOfMigration p epoch action = ⊥

-- a boot that migrates has found a checkpoint of version 1, and its action is one of these
pub record MigratesFound (p : Parameters) (epoch : ℕ) (b : Booting) (r : Round) : Type 0 where
  pub old : version_of scheme_number b.p b.commit ≡ VersionOne
  pub own : IsOfMigration p epoch (round_action (renewing filling_thynvm b) r)

abbrev pub MigrationWrites : Type 0
MigrationWrites =
    (o : Origin) (s : Composed State) (n : Device) (found : Mark)
    → Boots thynvm_design o s n → thynvm_scheme.migrates s ≡ true → (thynvm_scheme.boot_view o s n).done ≡ Some found
    → (r : Round) × (s.boot.stage ≡ Migrates r)
    × MigratesFound o.geometry found.epoch s.boot r

-- A boot over an image whose commit block names version 2 does not migrate it. The one that has just written that block
-- itself has only its last barrier to come.
abbrev pub VersionTwoStays : Type 0
VersionTwoStays =
    (o : Origin) (s : Composed State) (n : Device) → Boots thynvm_design o s n
    → version_of scheme_number o.geometry (block_at n.image commit_place) ≡ VersionTwo
    → (thynvm_scheme.migrates s ≡ false) ⊎ (s.boot.stage ≡ Migrates Confirm)
