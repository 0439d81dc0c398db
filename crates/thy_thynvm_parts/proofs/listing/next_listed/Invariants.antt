use Rattle.std.proofs.Common.{◌≡◌, ℕ, ◌<◌, ◌≤◌, false, is_some, get_or, None}
use Rattle.thy_layout.specs.Files.{blocks_of}
use Rattle.thy_record.specs.Slots.{tables_in}
use Rattle.thy_thynvm_parts.proofs.listing.next_listed.Given as goal

abbrev pub invariant-loop-j : goal.invariant-loop-j
invariant-loop-j l = (k : ℕ) → l.fn.from ≤ k → k < l.j → is_some (get_or (tables_in l.geometry (blocks_of l.slot)).ptt k None) ≡ false
