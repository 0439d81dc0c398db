-- Part of the claim.
-- What is seen of a boot, by its stage.
use Rattle.std.specs.Prelude.{true, false, Bool}
use Rattle.thy_block.specs.Device.{Device}
use Rattle.thy_layout.specs.Decoded.{Reading}
use Rattle.thy_computer.specs.declared.view.View.{View}
use Rattle.thy_computer.specs.Booting.{loading_view, view_of_image}
use Rattle.thy_computer.specs.Origin.{Origin}
use Rattle.thy_computer.specs.Safe.{ceiling}
use Rattle.thy_checkpoint.specs.declared.boot_stage.Stage.{Stage}
use Rattle.thy_checkpoint.specs.declared.boot_stage.Stage.TheVariants.{Reads, Loads}
use Rattle.thy_checkpoint.specs.declared.boot_stage.ReadStage.TheVariants.{Unread}
use Rattle.thy_computer.specs.Round.{is_written}

-- while it loads, whether the commit block was written, and else what the image means
abbrev pub view_at : Reading → Origin → Stage → Device → View
view_at read o (Loads r) n = record (loading_view o.start.count) { written = is_written r }
view_at read o stage n = view_of_image o.start.count (read o.geometry ceiling n.image)

-- the commit block was read
abbrev pub has_read_at : Stage → Bool
has_read_at (Reads Unread) = false
has_read_at stage = true

-- a boot found no checkpoint
abbrev pub loads_at : Stage → Bool
loads_at (Loads r) = true
loads_at stage = false
