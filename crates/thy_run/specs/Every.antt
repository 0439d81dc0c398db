-- Part of the claim.
-- After how many writes a levelling device moves a block.
use Rattle.std.specs.Prelude.{ℕ, Option, Some, None}
use Rattle.thy_block.specs.Device.{Wear, Plain, Levels, Unsaid}

-- a device that does not level, or does not say so, has no such number
abbrev pub every_of : Wear → Option ℕ
every_of Plain = None
every_of (Levels every since moves) = Some every
every_of Unsaid = None
