-- A list of blocks is one list of bytes, also for its spans.
use Rattle.std.specs.Prelude.{◌≡◌, ℕ, ◌*◌, List, length, take, drop}
use Rattle.thy_block.specs.declared.block.Block.{Block}
use Rattle.thy_block.specs.Bytes.{written}
use Rattle.thy_block.specs.declared.span.Span.{Span}
use Rattle.thy_block.specs.Flat.{flat}
use Rattle.thy_block.specs.Spans.{IsSpanOf, gathered, scattered}

-- blocks have 64 bytes each
abbrev pub FlatLength : Type 0
FlatLength = (blocks : List Block) → length (flat blocks) ≡ 64 * length blocks

-- gathering a span gives the bytes at its place
abbrev pub SpansAreRead : Type 0
SpansAreRead =
    (blocks : List Block) (s : Span) → IsSpanOf (length blocks) s
    → gathered blocks s ≡ take s.len (drop s.at (flat blocks))

-- bytes that are scattered over a span are at its place afterwards, and every other byte is as before
abbrev pub SpansAreWritten : Type 0
SpansAreWritten =
    (blocks : List Block) (s : Span) (bytes : List ℕ) → IsSpanOf (length blocks) s → length bytes ≡ s.len
    → flat (scattered blocks s bytes) ≡ written (flat blocks) s.at bytes
