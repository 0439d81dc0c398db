-- Part of the claim.
-- How many actions a boot has left, at most.
use Rattle.std.specs.Prelude.{ℕ, ◌+◌, ◌-◌, max, if◌then◌else◌}
use Rattle.thy_block.specs.declared.parameters.Parameters.{Parameters}
use Rattle.thy_block.specs.Geometry.{memory_blocks}
use Rattle.thy_layout.specs.declared.layout_version.LayoutVersion.{LayoutVersion}
use Rattle.thy_layout.specs.declared.layout_version.LayoutVersion.TheVariants.{VersionOne, VersionTwo}
use Rattle.thy_layout.specs.Commit.{commit_of}
use Rattle.thy_layout.specs.Header.{knows_version_one}
use Rattle.thy_layout.specs.Layout.{Layout}
use Rattle.thy_computer.specs.declared.round.Round.TheVariants.{Write}
use Rattle.thy_computer.specs.Round.{round_left}
use Rattle.thy_checkpoint.specs.declared.boot_stage.Stage.{Stage}
use Rattle.thy_checkpoint.specs.declared.boot_stage.Stage.TheVariants.{Reads, Loads, Migrates, Over}
use Rattle.thy_checkpoint.specs.declared.boot_stage.ReadStage.{ReadStage}
use Rattle.thy_checkpoint.specs.declared.boot_stage.ReadStage.TheVariants.{Unread, Header, Slot, Fills, Refusing}
use Rattle.thy_checkpoint.specs.Boot.{Booting, layout_in, version_in}
use Rattle.thy_checkpoint.specs.Filling.{FillingOf, anew}

-- a migration follows a checkpoint of version 1, with a slot of this many blocks; before the commit block is read, one
-- may follow if that version is known
abbrev pub migration_by : LayoutVersion → ℕ → ℕ
migration_by VersionOne slot = round_left slot (Write 0)
migration_by VersionTwo slot = 0

abbrev pub most_migration : Layout → Parameters → ℕ
most_migration l p = if knows_version_one l.scheme p then round_left l.most_slot (Write 0) else 0

-- The numbers of a boot. Loading writes `first` blocks: memory's, a slot and the header; with the longest slot they are
-- `most_first`. Its slot has `slot` blocks, the slot that is written again has `anew`, and the longest one `most_slot`. At
-- most `fills` positions are filled. The migration that follows takes `migration` actions, or, if it is not known yet
-- whether one follows, at most `most_migration`.
pub record BootNumbers : Type 0 where
  pub first : ℕ
  pub most_first : ℕ
  pub slot : ℕ
  pub anew : ℕ
  pub most_slot : ℕ
  pub fills : ℕ
  pub migration : ℕ
  pub most_migration : ℕ

-- how many actions a boot that reads has left, at most: a new one reads the commit block, and then it loads, or reads the
-- header, the slot, and what is filled, and may migrate
abbrev pub reads_left_in : BootNumbers → ReadStage → ℕ
reads_left_in k Unread = 1 + max (round_left k.most_first (Write 0)) (1 + k.most_slot + k.fills + k.most_migration)
reads_left_in k Header = 1 + k.most_slot + k.fills + k.migration
reads_left_in k (Slot next) = k.slot - next + k.fills + k.migration
reads_left_in k (Fills j) = k.fills - j + k.migration
reads_left_in k (Refusing bad) = 0

abbrev pub stage_left : BootNumbers → Stage → ℕ
stage_left k (Reads r) = reads_left_in k r
stage_left k (Loads r) = round_left k.first r
stage_left k (Migrates r) = round_left k.anew r
stage_left k (Over end) = 0

-- the numbers of a boot over a scheme
abbrev pub numbers_of : {C : Type 0} → FillingOf C → Booting → BootNumbers
numbers_of F b = record {
  first = memory_blocks b.p + (layout_in F b).slot_blocks (commit_of 0) + 1;
  most_first = memory_blocks b.p + (layout_in F b).most_slot + 1;
  slot = (layout_in F b).slot_blocks b.commit;
  anew = (layout_in F b).slot_blocks (anew b.commit);
  most_slot = (layout_in F b).most_slot;
  fills = F.most_fills b.p;
  migration = migration_by (version_in F b) ((layout_in F b).slot_blocks (anew b.commit));
  most_migration = most_migration (layout_in F b) b.p;
}

abbrev pub reads_left : {C : Type 0} → FillingOf C → Booting → ReadStage → ℕ
reads_left F b r = reads_left_in (numbers_of F b) r

abbrev pub boot_left : {C : Type 0} → FillingOf C → Booting → Stage → ℕ
boot_left F b q = stage_left (numbers_of F b) q
