-- Part of the claim.
-- What an entry of the table lists, and what is kept of the entries when they are freed.
use Rattle.std.specs.Prelude.{◌≡◌, ℕ, Option, Some, None}
use Rattle.thy_journal_parts.specs.declared.entry.Listed.{Listed}

abbrev pub block_key : Listed → ℕ
block_key e = e.block

-- an entry that lists a block
abbrev pub listing_of : ℕ → Listed
listing_of block = record { block = block }

-- what becomes of an entry that is freed
abbrev pub freed : Listed → Option Listed
freed e = None

-- an entry that is freed lists no other block
pub freed-block : (e f : Listed) → freed e ≡ Some f → block_key f ≡ block_key e
freed-block e f h = cc
