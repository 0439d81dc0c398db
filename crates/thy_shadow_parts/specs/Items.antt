-- Part of the claim.
-- Which blocks of the frames a checkpoint writes, 64 to a frame: every block of those that are filled.
use Rattle.std.specs.Prelude.{ℕ, ◌/◌, is_some, if◌then◌else◌, Option, Some, None}
use Rattle.thy_table.specs.Listing.{entry_at}
use Rattle.thy_shadow_parts.specs.State.{State}

-- the first one from one on: frames are filled from the lowest on, so none follows one of a frame that is not
abbrev pub next_block : ℕ → State → Option ℕ
next_block from s = if is_some (entry_at s.frames (from / 64)) then Some from else None
