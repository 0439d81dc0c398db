-- Part of the claim.
-- What is seen of a machine that boots, and what its steps do.
use Rattle.std.specs.Prelude.{ℕ, false, Option, Some, None}
use Rattle.thy_block.specs.declared.mark.Mark.{Mark}
use Rattle.thy_layout.specs.Decoded.{Decoded, Nothing, Refused, At}
use Rattle.thy_computer.specs.declared.boot_step.BootStep.{BootStep}
use Rattle.thy_computer.specs.declared.boot_step.BootStep.TheVariants.{GoesOn, Loaded, Restarted, Refused as IsRefused}
use Rattle.thy_computer.specs.declared.did.Did.{Did}
use Rattle.thy_computer.specs.declared.did.Did.TheVariants.{Boot as DidBoot, Loaded as DidLoad, Restarted as DidRestart, Refused as DidRefuse}
use Rattle.thy_computer.specs.declared.view.Phase.TheVariants.{Boot}
use Rattle.thy_computer.specs.declared.view.View.{View}
use Rattle.thy_computer.specs.Origin.{Origin}
use Rattle.thy_block.specs.Marks.{mark}

-- the view of a boot with these marks
abbrev pub boot_view : Option Mark → Option Mark → View
boot_view done sealed = record {
  phase = Boot;
  done = done;
  sealed = sealed;
  epoch = 0;
  count = 0;
  retired = 0;
  spent = 0;
  lap = 0;
  over = None;
  written = false;
}

-- the view while the program is loaded, whose count is this
abbrev pub loading_view : ℕ → View
loading_view count = boot_view None (Some (mark 0 count))

-- the view of a boot that finds this on the device
abbrev pub view_of_image : ℕ → Decoded → View
view_of_image count Nothing = loading_view count
view_of_image count (Refused bad) = boot_view None None
view_of_image count (At epoch state) = boot_view (Some (mark epoch state.count)) None

-- what the image means that a run begins with: nothing, or the checkpoint of its start
abbrev pub found_first : Origin → Option Mark → Decoded
found_first o None = Nothing
found_first o (Some m) = At m.epoch o.start

-- the view with which a run begins
abbrev pub first_view : Origin → View
first_view o = view_of_image o.start.count (found_first o o.kept)

-- what a cycle did that was a step of the boot, by what the step reports
abbrev pub boot_did : BootStep → Did
boot_did GoesOn = DidBoot
boot_did Loaded = DidLoad
boot_did (Restarted cpu epoch) = DidRestart epoch cpu.count
boot_did (IsRefused bad) = DidRefuse bad
