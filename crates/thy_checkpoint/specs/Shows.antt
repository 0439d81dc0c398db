-- Part of the claim.
-- What is seen of a boot.
use Rattle.std.specs.Prelude.{◌+◌, true, false, Bool, Option, Some, None}
use Rattle.thy_block.specs.declared.mark.Mark.{Mark}
use Rattle.thy_block.specs.Marks.{mark}
use Rattle.thy_computer.specs.declared.view.Phase.TheVariants.{Run}
use Rattle.thy_computer.specs.declared.view.View.{View}
use Rattle.thy_computer.specs.Booting.{boot_view, loading_view}
use Rattle.thy_computer.specs.CoreStep.{phase_at}
use Rattle.thy_computer.specs.Origin.{Origin}
use Rattle.thy_computer.specs.Keeps.{finding_view}
use Rattle.thy_computer.specs.Round.{is_written}
use Rattle.thy_checkpoint.specs.declared.boot_stage.Stage.{Stage}
use Rattle.thy_checkpoint.specs.declared.boot_stage.Stage.TheVariants.{Reads, Loads, Migrates, Over}
use Rattle.thy_checkpoint.specs.declared.boot_stage.End.TheVariants.{Restored, Loaded}

-- the view after a restart
abbrev pub restored_view : Origin → Option Mark → View
restored_view o None = boot_view None None
restored_view o (Some m) =
    record (boot_view (Some m) None) { phase = phase_at o m.count; epoch = m.epoch + 1; count = m.count }

-- the view after loading
abbrev pub loaded_view : Origin → View
loaded_view o = record (boot_view (Some (mark 0 o.start.count)) None) { phase = Run; epoch = 1; count = o.start.count }

-- a checkpoint of an older form is written again
abbrev pub migrates_at : Stage → Bool
migrates_at (Migrates r) = true
migrates_at stage = false

-- what a boot shows, by its stage and by the mark that is kept
abbrev pub seen_at : Origin → Option Mark → Stage → View
seen_at o kept (Reads at) = finding_view o.start.count kept
seen_at o kept (Loads r) = record (loading_view o.start.count) { written = is_written r }
seen_at o kept (Migrates r) = finding_view o.start.count kept
seen_at o kept (Over Restored) = restored_view o kept
seen_at o kept (Over Loaded) = loaded_view o
