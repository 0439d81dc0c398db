-- Part of the claim.
-- Checkpoints, as views and events name them.
use Rattle.std.specs.Prelude.{ℕ}
use Rattle.thy_block.specs.declared.mark.Mark.{Mark}

-- the checkpoint of an epoch, with the count of instructions at the epoch's end
abbrev pub mark : ℕ → ℕ → Mark
mark epoch count = record { epoch = epoch; count = count }
