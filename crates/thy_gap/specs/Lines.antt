-- Part of the claim.
-- Where the lines of a levelled device lie in the inner one, after Start-Gap.
use Rattle.std.specs.Prelude.{ℕ, zero, suc, ◌+◌, ◌-◌, ◌<◌, ◌≤◌, ◌^◌, ◌==◌, ◌||◌, nat_lt, if◌then◌else◌, List, [], ◌∷◌, Option, Some, None, codes, length}
use Rattle.byteorder.specs.Endian.{little_number}
use Rattle.thy_block.specs.declared.block.Block.{Block}
use Rattle.thy_block.specs.Device.{block_at}
use Rattle.thy_block.specs.Words.{word_of, block_of}
use Rattle.thy_gap.specs.declared.registers.Registers.{Registers}

-- registers whose numbers are in range
pub record IsWhole (r : Registers) : Type 0 where
  pub start : r.start < r.lines
  pub gap : r.gap ≤ r.lines
  -- the inner device has two blocks more
  pub room : r.lines + 2 < 2 ^ 64

-- a number below twice n, wrapped below n
abbrev pub wrapped : ℕ → ℕ → ℕ
wrapped n p = if nat_lt p n then p else p - n

-- a number that steps over the gap
abbrev pub stepped : ℕ → ℕ → ℕ
stepped gap p = if nat_lt p gap then p else p + 1

-- the number that steps over the gap to y: the inverse of `stepped`
abbrev pub unstepped : ℕ → ℕ → ℕ
unstepped gap y = if nat_lt y gap then y else y - 1

-- the place of a line: rotated by start, and one further from the gap on
unfoldable pub place : Registers → ℕ → ℕ
place r x = stepped r.gap (wrapped r.lines (x + r.start))

-- the line of a place: none at the gap, and none past the lines
unfoldable pub line_at : Registers → ℕ → Option ℕ
line_at r y =
    if y == r.gap || nat_lt r.lines y then None else Some (wrapped r.lines (unstepped r.gap y + (r.lines - r.start)))

-- the place whose line moves next: the one before the gap, around the end
abbrev pub source : Registers → ℕ
source r = if r.gap == 0 then r.lines else r.gap - 1

-- the registers after one move: the gap is at the place that the moved line had; after a full round the lines are rotated by one more
abbrev pub moved : Registers → Registers
moved r = record {
  lines = r.lines;
  start = if r.gap == 0 then wrapped r.lines (r.start + 1) else r.start;
  gap = source r;
}

-- the registers after some number of moves
abbrev pub moved_times : ℕ → Registers → Registers
moved_times zero r = r
moved_times (suc k) r = moved (moved_times k r)

-- the registers before a fit: there are no lines
abbrev pub no_lines : Registers
no_lines = record { lines = 0; start = 0; gap = 0 }

-- the registers after a fit: each line is at its own place
abbrev pub unmoved : ℕ → Registers
unmoved n = record { lines = n; start = 0; gap = n }

-- ---- in the inner device

-- the bytes THYNGAP1 as a number
abbrev pub gap_magic : ℕ
gap_magic = little_number 8 (codes "THYNGAP1")

-- the block of the registers: its name, start, gap and five zeros
abbrev pub registers_block : Registers → Block
registers_block r = block_of (gap_magic ∷ r.start ∷ r.gap ∷ 0 ∷ 0 ∷ 0 ∷ 0 ∷ 0 ∷ [])

-- the registers in a block, for a number of lines
abbrev pub registers_of : ℕ → Block → Registers
registers_of n b = record { lines = n; start = word_of b 1; gap = word_of b 2 }

-- the registers in an image: they are in its last block
abbrev pub registers_in : List Block → Registers
registers_in g = registers_of (length g - 2) (block_at g (length g - 2 + 1))
