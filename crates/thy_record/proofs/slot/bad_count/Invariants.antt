use Rattle.std.proofs.Common.{◌≡◌, ℕ, ◌<◌, false}
use Rattle.thy_layout.specs.Files.{blocks_of}
use Rattle.thy_record.specs.Slots.{is_bad_count}
use Rattle.thy_record.proofs.slot.bad_count.Given as goal

abbrev pub invariant-loop-i : goal.invariant-loop-i
invariant-loop-i l = (k : ℕ) → k < l.i → is_bad_count l.geometry (blocks_of l.slot) k ≡ false
